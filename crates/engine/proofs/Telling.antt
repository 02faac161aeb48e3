-- What the tables of a state say of the program in a frame is what the definition says of its configuration. Assumes nothing.
use Rattle.std.proofs.Common.{◌≡◌, ℕ, suc, ◌≤◌, Bool, List, length, sym, refl, ap, ◌∙◌, subst, ap₂, arith}
use mathlib.Core.List.Memᴰ
use mathlib.Core.List.{Memᴰ}
use Rattle.sheet.specs.Check.{Accepts}
use Rattle.golog.specs.declared.State.{State}
use Rattle.golog.specs.Prog.{Prog}
use Rattle.golog.specs.Transitions.{Transition, final}
use Rattle.golog.specs.Distance.{distance}
use Rattle.remaining.proofs.Same.{rest_final_lem}
use Rattle.demands.specs.Decoded.{world_of}
use Rattle.demands.specs.Compact.{extended_records}
use Rattle.demands.proofs.Compact.{all_lower}
use Rattle.leaves.specs.Tallies.{finals_of}
use Rattle.ends.specs.Ends.{final_by_table, count_by_table, soon_by_table, Totalled}
use Rattle.ends.specs.declared.Totals.{Totals}
use Rattle.ends.proofs.Tabled.{final_in, count_in}
use Rattle.ends.proofs.Endings.{soon_in}
use Rattle.engine.specs.Tables.{finals_at, distances_in, counts_at, extended_size_of, Surveyed}
use Rattle.engine.specs.Frames.{Frame}
use Rattle.engine.specs.Going.{transitions_of, is_final, Tells}
use Rattle.engine.proofs.Going.{rest_transitions_of, transition_of, listed, listed_length}

module _ {s w : List ℕ} {left d : ℕ} {p : Prog} (accepted : Accepts s) (F : Frame s left w d p) (st : State) where
  pub final_told :
      {finals : List Bool} → finals ≡ finals_of (world_of s) st (extended_records s) (extended_size_of s) → final_by_table finals F.rest ≡ is_final s (p, st)
  final_told e =
      ap (λ (l : List Bool). final_by_table l F.rest) e
      ∙ final_in (world_of s) st (extended_records s) (extended_size_of s) F.rest F.roomy.within
      ∙ rest_final_lem (world_of s) st (extended_records s) (all_lower s accepted) F.rest
      ∙ ap (λ (q : Prog). final (world_of s) q st) F.stands_for

  module _ {flags : List Bool} {numbers : List ℕ} (S : Surveyed s st d flags numbers) where
    count_told : count_by_table (finals_at d flags) (counts_at d numbers) F.rest ≡ length (transitions_of s (p, st))
    count_told =
        let c = S.tabled.counted in
        ap₂ (λ (l : List Bool) (k : List ℕ). count_by_table l k F.rest) S.tabled.finals_are c.counts_are
        ∙ count_in (world_of s) st (extended_records s) (extended_size_of s) c.lower c.plain F.rest F.roomy.within
        ∙ listed_length accepted F st

    -- what the table of distances tells of the transitions
    far_told : (x : Transition) → Memᴰ x (transitions_of s (p, st)) → soon_by_table (finals_at d flags) (distances_in numbers) (counts_at d numbers) F.rest ≤ suc (distance x.1.0)
    far_told x k =
        let c = S.tabled.counted in
        let y = Memᴰ.of_map (transition_of s st) (rest_transitions_of s st F.rest) (subst (Memᴰ x) (sym (listed accepted F st)) k) in
        let e = ap₂ (λ (l : List Bool) (k : List ℕ). soon_by_table l (distances_in numbers) k F.rest) S.tabled.finals_are c.counts_are in
        let h = soon_in (extended_records s) (extended_size_of s) (distances_in numbers) S.prepared.distances (world_of s) c.lower c.plain st F.rest F.roomy.within y.0 y.1 in
        omega (arith, e, h, ap (λ (q : Transition). distance q.1.0) y.2)

    pub tells :
        {x : Totals} → Totalled (finals_at d flags) (distances_in numbers) (counts_at d numbers) F.rest x
        → Tells s (p, st) record { done = x.done; soon = x.soon; first = record { next = 0; end = x.count } }
    tells T = record {
      final_is = T.done_is ∙ final_told S.tabled.finals_are;
      first = record { ahead_are = refl; end_is = T.count_is ∙ count_told };
      far = λ x k. rw T.soon_is (far_told x k);
    }
