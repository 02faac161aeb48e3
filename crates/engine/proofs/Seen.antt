-- What the truths of a state tell of an accepted sheet: every record that runs is seen as it is. Assumes nothing.
use Rattle.std.proofs.Common.{◌≡◌, ℕ, ◌<◌, Bool, true, false, T, List, sym, refl, ◌∙◌, ⊎_elim}
use mathlib.Core.Bool.{false≢true}
use Rattle.records.specs.Records.{action_at}
use Rattle.records.proofs.Truth.{and_right, or_left, is_true}
use Rattle.kinds.specs.Programs.{field_a, field_c, acts}
use Rattle.kinds.proofs.ProgramFields.{formula_below}
use Rattle.sheet.specs.Layout.{layout_of, effects_in, actions_in}
use Rattle.sheet.specs.Check.{Accepts}
use Rattle.sheet.proofs.Lower.{fields_of, action_of}
use Rattle.golog.specs.declared.State.{State}
use Rattle.golog.specs.World.{special, conflicting, possible_by, says_in, possible}
use Rattle.demands.specs.Decoded.{world_of, records_of, interrupts_in}
use Rattle.demands.specs.Compact.{extended_records}
use Rattle.state.specs.Truths.{said_by, AreTruths}
use Rattle.state.specs.Conflicts.{Conflicted, allowed_by}
use Rattle.state.specs.Ranges.{ConditionsBelow}
use Rattle.state.proofs.Noting.{allowed_possible}
use Rattle.state.proofs.Excluding.{exclusive_none}
use Rattle.state.proofs.Performed.{possible_same}
use Rattle.leaves.specs.Tallies.{SeesRecord, Sees}
use Rattle.leaves.proofs.Seen.{table_seen}
use Rattle.engine.specs.Tables.{extended_size_of, ExclusiveIn, ListsMayConflict}
use Rattle.engine.proofs.Actions.{action_known, conditions_below, inside_range}

module _ (s : List ℕ) (accepted : Accepts s) (st : State) (truths : List Bool) (H : AreTruths (world_of s) st (layout_of s).q truths) where
  module _
      (can : ℕ → Bool) (always : (a : ℕ) → T (special a) → can a ≡ true)
      (tells : (i : ℕ) → i < (layout_of s).p → T (acts (records_of s i).kind) → can (records_of s i).a ≡ possible (world_of s) (records_of s i).a st) where
    -- by the roles of its fields, what a record asks of the state is told
    seen : (i : ℕ) → i < (layout_of s).p → SeesRecord (world_of s) st truths can (records_of s i)
    seen i l =
        let r = records_of s i in
        let f = fields_of s accepted i l in
        record {
          condition = λ t. H r.c (formula_below _ _ i (field_c r.kind) f.c t);
          test = λ t. H r.a (formula_below _ _ i (field_a r.kind) f.a t);
          act = tells i l;
        }

    sees_by : Sees (world_of s) st (extended_records s) (extended_size_of s) truths can st.running
    sees_by = table_seen (world_of s) st truths can always (interrupts_in s) (records_of s) (layout_of s).p _ seen

  -- by what is possible
  pub sees_possible : Sees (world_of s) st (extended_records s) (extended_size_of s) truths (λ (a : ℕ). possible (world_of s) a st) st.running
  unfolding possible_by
  sees_possible = sees_by _ (λ a t. or_left (special a) _ (is_true (special a) t)) (λ i l t. refl)

  -- by which actions are in conflict, where all that may be are listed
  pub sees :
      {list : List ℕ} {conflicted : List Bool} → ListsMayConflict s list → Conflicted (effects_in s (layout_of s)) (actions_in s (layout_of s)) list truths conflicted
      → Sees (world_of s) st (extended_records s) (extended_size_of s) truths (allowed_by (actions_in s (layout_of s)) truths conflicted) st.running
  sees {conflicted = conflicted} J B = sees_by _ (λ a t. or_left (special a) _ (is_true (special a) t)) tells
    where
      none : (a : ℕ) → ConditionsBelow (effects_in s (layout_of s)) (layout_of s).q (action_at (actions_in s (layout_of s)) a).first (action_at (actions_in s (layout_of s)) a).count
          → ExclusiveIn s a → conflicting (said_by truths) (world_of s).effect ((world_of s).action a).first ((world_of s).action a).count ≡ false
      none a low A = exclusive_none _ _ _ _ A (world_of s) st (layout_of s).q truths H (λ q. refl) low

      tells : (i : ℕ) → i < (layout_of s).p → T (acts (records_of s i).kind)
          → allowed_by (actions_in s (layout_of s)) truths conflicted (records_of s i).a ≡ possible (world_of s) (records_of s i).a st
      tells i l t =
          let a = (records_of s i).a in
          let known = action_known s accepted i l t in
          let low = conditions_below s accepted a known in
          let r = action_at (actions_in s (layout_of s)) a in
          allowed_possible (world_of s).size a (inside_range s accepted a known (said_by truths)) B
          (λ e. ⊎_elim (λ k. k) (λ A. absurd (false≢true (sym (none a low A) ∙ and_right (said_by truths r.precondition) _ e))) (J.all i l t))
          ∙ possible_same _ _ (said_by truths) (says_in (world_of s) st) _ H (world_of s).size a (action_of s accepted a known).0 low
