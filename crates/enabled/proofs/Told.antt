-- What is told once of all states, where records choose values: a record that is final in some state and environment is marked among those
-- that may be (leaves::bounds), and none is nearer to its end than its distance says (leaves::distances). Assumes nothing.
use mathlib.Core.Path.{◌≡◌, refl, sym, ◌∙◌, ap}
use mathlib.Core.Bool.{Bool, true, false, cond}
use mathlib.Core.List.{List}
use Prim.Native.Nat.{ℕ, ◌-◌, ◌≤◌, ◌<◌}
use native.Mathlib.Omega.{arith}
use borrow.Author.Tests.{eqb-true}
use lib.Dec.{T}
use lib.ListN.{get_or}
use Rattle.records.specs.declared.Program.{Program}
use Rattle.records.specs.Placeholders.{environments, put, reading}
use Rattle.records.specs.Some.{some_from}
use Rattle.records.specs.Table.{up_to}
use Rattle.records.proofs.Fills.{default_at, up_at}
use Rattle.records.proofs.Placeholders.{put_small}
use Rattle.kinds.specs.Programs.{has_a, has_b, picks, final_of, final_bound_of, final_bound_by, distance_of, distance_by}
use Rattle.kinds.proofs.Bounding.{Under, final_marked}
use Rattle.kinds.proofs.ProgramFields.{link_a, link_b}
use Rattle.golog.specs.Distance.{distance}
use Rattle.golog.specs.Prog.{program_of}
use Rattle.golog.specs.Written.{program_read, span_of, written_records}
use Rattle.golog.specs.declared.State.{State}
use Rattle.golog.specs.World.{World}
use Rattle.golog.proofs.Distance.{construct_near}
use Rattle.remaining.proofs.Entries.{entry_rule}
use Rattle.remaining.proofs.Written.{Linked, program_in, picks_b, read_kind, written_step}
use Rattle.leaves.specs.Distances.{distance_at, distances_of}
use Rattle.leaves.specs.Endable.{final_bound_at, final_bounds_of}
use Rattle.sets.proofs.Empty.{found}
use Rattle.enabled.specs.Enabled.{Valuation, valuation_of, final_in}
use Rattle.enabled.proofs.Read.{final_read}

module _ (p : ℕ → Program) (low : Linked p) where
  pub endable_read :
      (W : World) (s : State) (m i e : ℕ) → i < m → e < environments → (valuation_of W s p).final i e ≡ true → get_or (final_bounds_of true p m) i true ≡ true
  unfolding final_bounds_of final_in final_bound_by final_bound_of
  endable_read W s m i e l small f =
      default_at true (up_to (final_bound_at true p) m) (260 - m) i
      ∙ up_at true (final_bound_at true p) m i l
      ∙ entry_rule true (final_bound_at true p) Marked made i e small f
    where
      says : Valuation
      says = valuation_of W s p

      -- with every environment
      Marked : ℕ → Bool → Type 0
      Marked a x = (e : ℕ) → e < environments → Under (says.final a e) x

      made : (a : ℕ) (lower : List Bool) → ((k : ℕ) → k < a → Marked k (get_or lower k true)) → Marked a (final_bound_at true p a lower)
      made a lower h e small f = go (picks (p a).kind) refl (sym (final_read W s p low a e small) ∙ f)
        where
          part_a : T (has_a (p a).kind) → Marked (p a).a (get_or lower (p a).a true)
          part_a t = h (p a).a (low a (p a).a (link_a (p a) t))

          part_b : T (has_b (p a).kind) → Marked (p a).b (get_or lower (p a).b true)
          part_b t = h (p a).b (low a (p a).b (link_b (p a) t))

          -- a choice is final with one of its values
          go :
              (b : Bool) → picks (p a).kind ≡ b
              → cond b (some_from (λ (v : ℕ). says.final (p a).b (put e (p a).c v)) 0 (span_of p a))
              (final_of (p a).kind (says.final (p a).a e) (says.final (p a).b e) (says.holds (p a).c e) s.running) ≡ true
              → final_bound_at true p a lower ≡ true
          go true k g =
              let (v, l, t) = found (λ (v : ℕ). says.final (p a).b (put e (p a).c v)) (span_of p a) g in
              rw (eqb-true (p a).kind 12 k) (part_b (picks_b (p a).kind (rw k tt)) (put e (p a).c v) (put_small e small (p a).c v) t)
          go false k g = final_marked _ _ _ _ (says.holds (p a).c e) s.running (p a).kind (λ t. part_a t e small) (λ t. part_b t e small) g

  pub distances_read : (m i e : ℕ) → i < m → e < environments → get_or (distances_of p m) i 0 ≤ distance (program_of (written_records p) (reading i e))
  unfolding distances_of distance_by
  distances_read m i e l small =
      rw (default_at 0 (up_to (distance_at p) m) (260 - m) i ∙ up_at 0 (distance_at p) m i l) (entry_rule 0 (distance_at p) Near made i e small)
    where
      Near : (a d : ℕ) → Type 0
      Near a d = (e : ℕ) → e < environments → d ≤ distance (program_in p a e)

      made : (a : ℕ) (lower : List ℕ) → ((k : ℕ) → k < a → Near k (get_or lower k 0)) → Near a (distance_at p a lower)
      made a lower h e small =
          let r : Program = program_read e (span_of p a) (p a) in
          let same = read_kind e (span_of p a) (p a) in
          let part_b : T (has_b (p a).kind) → Near (p a).b (get_or lower (p a).b 0) = λ t. h (p a).b (low a (p a).b (link_b (p a) t)) in
          rw (written_step p low a e small)
          (omega (
            arith,
            ap (λ (k : ℕ). distance_of k (get_or lower (p a).a 0) (get_or lower (p a).b 0)) same,
            construct_near r.kind r.a r.b r.c _ _ _ (get_or lower (p a).a 0) (get_or lower (p a).b 0)
                (λ t. h (p a).a (low a (p a).a (link_a (p a) (rw same at t))) e small)
                (λ t. part_b (rw same at t) e small)
                (λ t v. part_b (picks_b (p a).kind (rw same at t)) (put e (p a).c v) (put_small e small (p a).c v)),
          ))
