-- One transition tried: the engine made the first one ahead of the cursor, the visit that it leads to is ready, and what the search from
-- there reports is the report on that transition. Assumes nothing.
use Prim.Native.Nat.{ℕ, suc, ◌+◌, ◌-◌, ◌≤◌}
use native.Mathlib.Omega.{arith}
use mathlib.Core.Bool.{Bool, true, false, true≢false}
use mathlib.Core.List.{List, [], ◌∷◌}
use mathlib.Core.Option.{Option}
use Rattle.std.specs.Prelude.{Some, None}
use mathlib.Core.Path.{◌≡◌, refl, sym, ◌∙◌, ap, subst}
use lib.ListN.{drop}
use Rattle.golog.specs.declared.State.{State}
use Rattle.golog.specs.Prog.{Prog}
use Rattle.golog.specs.Transitions.{Configuration, Transition, is_none}
use Rattle.runs.specs.Search.{Verdict}
use Rattle.runs.specs.Guide.{Guide}
use Rattle.runs.specs.Bounded.{join, flagged}
use Rattle.engine.specs.Frames.{Frame}
use Rattle.engine.specs.Going.{transitions_of, move_of, MakesNext, MadeNext, CanGoOn, GoesOn}
use Rattle.engine.specs.declared.Cursor.{Cursor}
use Rattle.engine.specs.declared.Taken.{Taken}
use Rattle.engine.proofs.Frames.{frame_same}
use Rattle.engine.proofs.Codes.{code_bound}
use Rattle.search.specs.Outcome.{Reported, told}
use Rattle.search.specs.Moves.{passes, left_over, entries, noted}
use Rattle.search.specs.Searching.{verdict_from, Ready, configured, guide_of, verdict_at, branches_at, Going, Follows}
use Rattle.search.specs.declared.Task.{Task}
use Rattle.search.specs.declared.Visit.{Visit}
use Rattle.search.specs.declared.Outcome.{Outcome}
use Rattle.search.proofs.Rows.{branch, branch_one, held_back, let_pass}

-- the same report by other names of its parts
renamed :
    (s : List ℕ) (p : Prog) (trace trace' : List ℕ) (o : Outcome) (cut : Bool)
    {n n' d d' l l' : ℕ} {st st' : State} {g g' : Guide}
    → n ≡ n' → d ≡ d' → l ≡ l' → st ≡ st' → g ≡ g'
    → Reported n d trace trace' o (join (flagged cut) (verdict_from s l ((p, st), g)))
    → Reported n' d' trace trace' o (join (flagged cut) (verdict_from s l' ((p, st'), g')))
renamed s p trace trace' o cut en ed el es eg R = rw (← en, ← ed, ← el, ← es, ← eg) R

-- two readings of a visit have the same transitions ahead
pub ahead_same : {s w moves : List ℕ} {trace : ℕ} {t : Task} {q : Visit} {k : Cursor} {flags : List Bool} {numbers : List ℕ} (g h : Going s w moves trace t q k flags numbers)
    → g.ahead ≡ h.ahead
ahead_same {s} {q = q} {k = k} g h =
    g.listed.ahead_are
    ∙ ap (λ (p : Prog). drop k.next (transitions_of s (configured q p))) (frame_same g.ready.visited.frame h.ready.visited.frame)
    ∙ sym h.listed.ahead_are

-- the first of the transitions ahead was made
pub record First (s : List ℕ) (q : Visit) (p : Prog) (ahead : List Transition) (w : List ℕ) (x : Taken) : Type 0 where
  pub step : Transition
  pub later : List Transition
  pub split : ahead ≡ step ∷ later
  pub made : MadeNext s (configured q p) (q.left - 1) w (q.depth + 1) x step later

module _ {s w moves : List ℕ} {trace : ℕ} {t : Task} {q : Visit} {k : Cursor} {flags : List Bool} {numbers : List ℕ} (g : Going s w moves trace t q k flags numbers) where
  -- what the engine is asked
  pub can : CanGoOn s q.state w q.depth k
  can =
      let l = g.some_left in
      let e : q.left ≡ suc (q.left - 1) = omega arith in
      record {
        left = q.left - 1;
        program = g.program;
        ahead = g.ahead;
        frame = subst (λ (n : ℕ). Frame s n w q.depth g.program) e g.ready.visited.frame;
        listed = g.listed;
      }

  pub first : {w₁ : List ℕ} {x : Taken} → GoesOn s q.state q.depth k w w₁ (Some x) → is_none g.ahead ≡ false → First s q g.program g.ahead w₁ x
  unfolding can
  first {w₁} {x} M some = go g.ahead some (M.makes can)
    where
      go : (xs : List Transition) → is_none xs ≡ false → MakesNext s (configured q g.program) (q.left - 1) w₁ (q.depth + 1) (Some x) xs → First s q g.program xs w₁ x
      go [] e m = absurd (true≢false e)
      go (y ∷ ys) e m = record { step = y; later = ys; split = refl; made = m }

  -- there is one
  pub some_made : {w₁ : List ℕ} → GoesOn s q.state q.depth k w w₁ None → ¬ (is_none g.ahead ≡ false)
  unfolding can
  some_made {w₁} M some = go g.ahead some (M.makes can)
    where
      go : (xs : List Transition) → is_none xs ≡ false → ¬ (MakesNext s (configured q g.program) (q.left - 1) w₁ (q.depth + 1) None xs)
      go [] e m = true≢false e
      go (y ∷ ys) e m = m

  module _ {w₁ : List ℕ} {x : Taken} (F : First s q g.program g.ahead w₁ x) (cut : Bool) where
    abbrev from_next : Configuration × Guide → Verdict
    from_next d = verdict_from s (q.left - 1) d

    -- where it leads
    abbrev pub leads : Prog
    leads = F.step.1.0

    pub small : x.entry ≤ 65536
    small = code_bound s x.entry F.step.0 F.made.known F.made.move_is

    one : (before after : List ℕ) (o : Outcome)
        → Reported q.n q.depth before after o (join (flagged cut) (branch from_next (guide_of moves t q) F.step))
        → Reported q.n q.depth before after o (branches_at s moves t q cut (F.step ∷ []))
    one before after o = subst (Reported q.n q.depth before after o) (sym (branch_one from_next (guide_of moves t q) cut F.step))

    -- held back by the guide
    pub back : (before : List ℕ) → passes (guide_of moves t q) (move_of x.entry) ≡ false
        → Reported q.n q.depth before before (told cut) (branches_at s moves t q cut (F.step ∷ []))
    back before e =
        one before before (told cut)
        (held_back from_next (guide_of moves t q) F.step.0 F.step.1 q.n q.depth before before (told cut) cut
        (ap (passes (guide_of moves t q)) (sym F.made.move_is) ∙ e))

    -- let pass: the visit that it leads to
    module _ {v : Visit} (Y : Follows moves q x v) where
      pub child : Ready s w₁ moves trace t v leads
      child =
          let r = g.ready in
          let l = g.some_left in
          record {
            visited =
                record {
                  accepted = r.visited.accepted;
                  frame = rw (Y.left_is, Y.depth_is) F.made.frame;
                  used_up = Y.used_up;
                };
            traced = omega (arith, r.traced, Y.one_more, Y.left_is);
            few = omega (arith, r.few, Y.one_more, Y.depth_is);
            deep = omega (arith, r.deep, Y.depth_is, Y.left_is);
          }

      pub forth :
          (before after : List ℕ) (o : Outcome)
          → passes (guide_of moves t q) (move_of x.entry) ≡ true
          → Reported v.n v.depth before after o (verdict_at s moves t v cut leads)
          → Reported q.n q.depth before (noted (move_of x.entry) q.n o after) o (branches_at s moves t q cut (F.step ∷ []))
      forth before after o e R =
          let m = F.made.move_is in
          one before (noted (move_of x.entry) q.n o after) o
          (subst (λ (y : Option ℕ). Reported q.n q.depth before (noted y q.n o after) o (join (flagged cut) (branch from_next (guide_of moves t q) F.step))) (sym m)
          (let_pass from_next (guide_of moves t q) F.step.0 F.step.1 q.n q.depth before after o cut (ap (passes (guide_of moves t q)) (sym m) ∙ e)
          (renamed s leads before after o cut (Y.moves_are ∙ ap (λ (y : Option ℕ). q.n + entries y) m) Y.depth_is Y.left_is (Y.state_is ∙ F.made.state_is)
          (Y.guide_is t ∙ ap (left_over (guide_of moves t q)) m) R)))
