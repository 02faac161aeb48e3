-- Tables that were filled by one pass over the sheet's records are those of the sheet, and of a state. Assumes nothing.
use Rattle.std.proofs.Common.{◌≡◌, ℕ, ◌-◌, ◌≤◌, Bool, true, List, map, length, get_or, drop, replicate, sym, refl, ap, ◌∙◌, subst, arith, length-drop, get_or-drop, ext_get_or}
use lib.ListN.{length-replicate, get_or-eq_default, length-map}
use Rattle.records.specs.Table.{up_to}
use Rattle.records.proofs.Fills.{get_d_same, default_at, length_up}
use Rattle.sheet.specs.Layout.{layout_of, fluents_in, formulas_in, effects_in, actions_in}
use Rattle.sheet.proofs.Accepted.{laid}
use Rattle.golog.specs.declared.State.{State}
use Rattle.remaining.specs.Leaves.{leaf_at}
use Rattle.demands.specs.Decoded.{world_of, interrupts_in}
use Rattle.demands.specs.Compact.{extended_records}
use Rattle.demands.proofs.Compact.{all_lower, all_plain}
use Rattle.state.specs.Truths.{truths_of, AreTruths}
use Rattle.state.specs.Conflicts.{allowed_by}
use Rattle.state.proofs.Truths.{are_truths}
use Rattle.leaves.specs.Tallies.{capped_count, counts_of, Tallied}
use Rattle.leaves.specs.Endable.{Endable, final_bounds_of, skips_of, Skips, FinalsKnown, Tallyable}
use Rattle.leaves.specs.Distances.{Distances, distances_of}
use Rattle.leaves.proofs.Marking.{bounds_above, bounds_after, places_few}
use Rattle.leaves.proofs.Measuring.{distances_below}
use Rattle.leaves.proofs.Skipping.{skips_settled}
use Rattle.leaves.proofs.Entries.{finals_whole, counts_whole}
use Rattle.engine.specs.Tables.{Only, flag_places, endable_in, truths_from, truths_at, finals_at, number_places, skips_in, distances_in, may_conflict_in, counts_from, counts_at}
use Rattle.engine.specs.Tables.{extended_size_of, ListsMayConflict, Prepared, Judged, ConflictedAt, Surveyed}
use Rattle.sheet.specs.Check.{Accepts}
use Rattle.engine.proofs.Actions.{acts_read}
use Rattle.engine.proofs.Seen.{sees_possible, sees}
use Rattle.engine.proofs.Tables.{finals_long, counts_long, prepared_again, none_by}
use Rattle.engine.proofs.Windows.{only_same}

module _ (s : List ℕ) (O : Accepts s) where
  few_places : extended_size_of s ≤ 260
  few_places = places_few (interrupts_in s) _ (laid s O).p

  -- what the formulas say in a state
  pub truths_told :
      (st : State) (old : List Bool) {truths : List Bool} → truths ≡ truths_of (formulas_in s (layout_of s)) st.values (layout_of s).q old → AreTruths (world_of s) st (layout_of s).q truths
  truths_told st old {truths} e =
      let l = layout_of s in
      subst (AreTruths (world_of s) st l.q) (sym e) (are_truths (fluents_in s l) (formulas_in s l) (effects_in s l) (actions_in s l) st l.q old)

  -- once told of a sheet
  pub prepared :
      {flags : List Bool} {numbers : List ℕ} (marks : List Bool)
      → length flags ≡ flag_places → length numbers ≡ number_places
      → endable_in flags ≡ marks
      → marks ≡ final_bounds_of true (extended_records s) (extended_size_of s)
      → ((d i : ℕ) → get_or (counts_at d numbers) i 0 ≡ 0)
      → skips_in numbers ≡ skips_of (extended_records s) (extended_size_of s) marks
      → distances_in numbers ≡ distances_of (extended_records s) (extended_size_of s)
      → ListsMayConflict s (may_conflict_in numbers)
      → Prepared s flags numbers
  prepared {flags} {numbers} marks n k e eb ec es ed J =
      let low = all_lower s O in
      let plain = all_plain s O in
      let e₂ = e ∙ eb in
      let E : Endable (extended_records s) (extended_size_of s) (endable_in flags) =
      subst (Endable (extended_records s) (extended_size_of s)) (sym e₂) (bounds_above (extended_records s) low plain (extended_size_of s)) in
      let S = skips_settled (extended_records s) (extended_size_of s) (endable_in flags) low plain E in
      let e₄ = es ∙ ap (skips_of (extended_records s) (extended_size_of s)) (sym e) in
      record {
        flags_long = n;
        numbers_long = k;
        none_final = λ i l. ap (λ (x : List Bool). get_or x i true) e₂ ∙ bounds_after true (extended_records s) (extended_size_of s) i l;
        none_counted = λ d i l. ec d i;
        skipping = subst (Skips (extended_records s) (extended_size_of s) (endable_in flags)) (sym e₄) S;
        distances = subst (Distances (extended_records s) (extended_size_of s)) (sym ed) (distances_below (extended_records s) (extended_size_of s) low plain);
        may_conflict = J;
      }

  module _ {flags : List Bool} {numbers : List ℕ} (P : Prepared s flags numbers) where
    -- what a pass over the records in doubt goes by
    pub skips_by : (finals : List Bool) → finals ≡ endable_in flags → Skips (extended_records s) (extended_size_of s) finals (skips_in numbers)
    skips_by finals e =
        subst (λ (x : List Bool). Skips (extended_records s) (extended_size_of s) x (skips_in numbers)) (sym e) P.skipping

    -- told of a state
    pub judged :
        (st : State) (d : ℕ) (flags' : List Bool) → length flags' ≡ length flags → Only (truths_from d) 772 flags flags'
        → AreTruths (world_of s) st (layout_of s).q (truths_at d flags')
        → FinalsKnown (extended_records s) (extended_size_of s) (truths_at d flags') st.running (finals_at d flags')
        → ((i : ℕ) → extended_size_of s ≤ i → get_or (finals_at d flags') i true ≡ get_or (endable_in flags) i true)
        → Judged s st d flags' numbers
    judged st d flags' n K H D A =
        let W = world_of s in
        let Q = prepared_again P {o = truths_from d} {n = 772} (omega arith) K n {p = 586} {m = 0} (omega arith) (only_same numbers) refl P.none_counted in
        let F = D W st _ (sees_possible s O st (truths_at d flags') H) in
        record {
          prepared = Q;
          truths_are = H;
          decides = D;
          finals_are = finals_whole W st (extended_records s) (extended_size_of s) few_places (finals_at d flags') (finals_long Q d) F (λ i l. A i l ∙ P.none_final i l);
        }

  module _ {st : State} {d : ℕ} {flags : List Bool} {numbers : List ℕ} (J : Judged s st d flags numbers) where
    -- what is asked before transitions are counted
    pub tallyable : Tallyable (extended_records s) (extended_size_of s) (actions_in s (layout_of s)) (truths_at d flags) st.running (finals_at d flags)
    tallyable =
        record { lower = all_lower s O; plain = all_plain s O; acts_known = acts_read s O; finals_known = J.decides }

    -- behind the records no transition is counted
    nil_counts : drop (extended_size_of s) (counts_at d numbers) ≡ replicate (260 - extended_size_of s) 0
    nil_counts =
        let m = extended_size_of s in
        let n = length-drop m (counts_at d numbers) in
        let k = counts_long J.prepared d in
        ext_get_or 0 (drop m (counts_at d numbers)) (replicate (260 - m) 0) (omega (arith, n, k, length-replicate {A = ℕ} (260 - m) 0))
        (λ i l. get_or-drop m (counts_at d numbers) i 0 ∙ J.prepared.none_counted d _ (omega arith) ∙ sym (get_d_same 0 (260 - m) i))

    counts_after : (i : ℕ) → extended_size_of s ≤ i → get_or (counts_of (world_of s) st (extended_records s) (extended_size_of s)) i 0 ≡ 0
    unfolding counts_of
    counts_after i l =
        let made = map capped_count (up_to (leaf_at (world_of s) st (extended_records s)) (extended_size_of s)) in
        let few : length made ≤ i = simp (length-map, length_up) l in
        default_at 0 made (260 - extended_size_of s) i ∙ get_or-eq_default made 0 few

    -- counted in a state
    pub surveyed :
        (numbers' : List ℕ) (conflicted : List Bool) → length numbers' ≡ length numbers → Only (counts_from d) 260 numbers numbers' → ConflictedAt s d flags numbers conflicted
        → Tallied (extended_records s) (extended_size_of s) (actions_in s (layout_of s)) (truths_at d flags) conflicted st.running
        (counts_at d numbers) (counts_at d numbers')
        → Surveyed s st d flags numbers'
    surveyed numbers' conflicted n K B T =
        let W = world_of s in
        let P = J.prepared in
        let S = sees s O st (truths_at d flags) J.truths_are P.may_conflict B in
        let c = T W st S ∙ counts_whole W st (extended_records s) (extended_size_of s) (counts_at d numbers) nil_counts in
        let here : (i : ℕ) → extended_size_of s ≤ i → get_or (counts_at d numbers') i 0 ≡ 0 = λ i l. ap (λ (x : List ℕ). get_or x i 0) c ∙ counts_after i l in
        record {
          prepared = prepared_again P {o = 260} {n = 0} (omega arith) (only_same flags) refl (omega arith) K n (λ e i l. none_by d e i P.numbers_long K n (P.none_counted e i l) (here i l));
          truths_are = J.truths_are;
          tabled =
              record {
                counted = record {
                  can = allowed_by (actions_in s (layout_of s)) (truths_at d flags) conflicted;
                  sees = S;
                  lower = all_lower s O;
                  plain = all_plain s O;
                  counts_are = c;
                };
                finals_are = J.finals_are;
              };
        }
