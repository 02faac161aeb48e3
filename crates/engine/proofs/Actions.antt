-- Every action that a record of an accepted sheet makes is one of the sheet, start or stop, and can be performed by its tables. Assumes
-- nothing.
use Rattle.std.proofs.Common.{◌≡◌, ℕ, zero, suc, ◌+◌, ◌-◌, ◌<◌, Bool, true, false, T, List, get_or, sym, ap, ◌∙◌, subst, arith}
use native.Mathlib.Decide.{dec_lt}
use Rattle.records.specs.Records.{action_at}
use Rattle.records.specs.declared.Program.{Program}
use Rattle.kinds.specs.Programs.{field_a, acts}
use Rattle.kinds.proofs.ProgramFields.{action_below}
use Rattle.sheet.specs.Layout.{layout_of, effects_in, actions_in}
use Rattle.sheet.specs.Check.{Accepts}
use Rattle.sheet.proofs.Accepted.{laid}
use Rattle.sheet.proofs.Lower.{fields_of, action_of, effect_of}
use Rattle.remaining.specs.Extended.{empty, virtual}
use Rattle.remaining.proofs.Started.{table_below, table_above}
use Rattle.golog.specs.World.{straying}
use Rattle.golog.proofs.Possible.{inside_none}
use Rattle.demands.specs.Decoded.{world_of, records_of, interrupts_in}
use Rattle.demands.specs.Compact.{extended_records}
use Rattle.state.specs.Ranges.{InActions, Performable, ConditionsBelow}
use Rattle.leaves.specs.Tallies.{ReadsActions}
use Rattle.engine.specs.Going.{IsAction}
use Rattle.sheet.proofs.Parts.{part_length, in_order, actions_long}

module _ (s : List ℕ) (accepted : Accepts s) where
  -- the action of a record of the sheet that performs one
  pub action_known : (i : ℕ) → i < (layout_of s).p → T (acts (records_of s i).kind) → (records_of s i).a < (layout_of s).a
  action_known i l t = action_below _ _ i (field_a (records_of s i).kind) (fields_of s accepted i l).a t

  act_known : (i : ℕ) → i < (layout_of s).p → T (acts (records_of s i).kind) → IsAction s (records_of s i).a
  act_known i l t =
      let a = action_known i l t in
      let b = (laid s accepted).a in
      (omega arith, λ h. a)

  virtual_known : (b : Bool) (n k : ℕ) → T (acts (get_or (virtual b n) k empty).kind) → IsAction s (get_or (virtual b n) k empty).a
  unfolding field_a
  virtual_known true n zero t = (omega arith, λ h. absurd (omega arith))
  virtual_known true n (suc zero) t = (omega arith, λ h. absurd (omega arith))
  virtual_known true n (suc (suc zero)) t = absurd t
  virtual_known true n (suc (suc (suc zero))) t = absurd t
  virtual_known true n (suc (suc (suc (suc k)))) t = absurd t
  virtual_known false n k t = absurd t

  pub acts_known : (i : ℕ) → T (acts (extended_records s i).kind) → IsAction s (extended_records s i).a
  acts_known i = go (dec_lt i (layout_of s).p)
    where
      -- where it is known of r, it is known of the record that r is
      same : {r : Program} → extended_records s i ≡ r → (T (acts r.kind) → IsAction s r.a) → T (acts (extended_records s i).kind) → IsAction s (extended_records s i).a
      same e = subst (λ (r : Program). T (acts r.kind) → IsAction s r.a) (sym e)

      go : Dec (i < (layout_of s).p) → T (acts (extended_records s i).kind) → IsAction s (extended_records s i).a
      go (yes l) = same (table_below (interrupts_in s) (records_of s) (layout_of s).p i l) (act_known i l)
      go (no l) =
          let n = (layout_of s).p in
          let e : i ≡ n + (i - n) = omega arith in
          same (ap (extended_records s) e ∙ table_above (interrupts_in s) (records_of s) n (i - n)) (virtual_known (interrupts_in s) n (i - n))

  in_actions : (a : ℕ) → IsAction s a → InActions (actions_in s (layout_of s)) a
  in_actions a known h = let k = known.1 h in omega (arith, actions_long s (layout_of s) (laid s accepted))

  pub acts_read : ReadsActions (actions_in s (layout_of s)) (extended_records s)
  acts_read i t = in_actions _ (acts_known i t)

  -- it can be performed by the tables, and its effects' conditions are among the formulas
  pub performable : (a : ℕ) → IsAction s a → Performable (effects_in s (layout_of s)) (actions_in s (layout_of s)) (layout_of s).f a
  performable a known =
      let f = laid s accepted in
      let o = in_order f in
      let l = layout_of s in
      let effects = part_length s l.effects l.actions o.effects (omega (arith, o.actions, o.programs, o.end)) in
      record {
        known = in_actions a known;
        range = λ h. let r = (action_of s accepted a (known.1 h)).1 in omega (arith, effects, f.at_actions);
        names = λ h i l m. let r = (action_of s accepted a (known.1 h)).1 in (effect_of s accepted i (omega arith)).1;
      }

  pub conditions_below :
      (a : ℕ)
      → a < (layout_of s).a
      → ConditionsBelow (effects_in s (layout_of s)) (layout_of s).q (action_at (actions_in s (layout_of s)) a).first (action_at (actions_in s (layout_of s)) a).count
  conditions_below a known i l m = let r = (action_of s accepted a known).1 in (effect_of s accepted i (omega arith)).0

  -- each value that its range gives lies in its fluent's domain
  pub inside_range :
      (a : ℕ)
      → a < (layout_of s).a
      → (says : ℕ → Bool)
      → straying says (world_of s).size (world_of s).effect ((world_of s).action a).first ((world_of s).action a).count ≡ false
  inside_range a known says =
      let r = (world_of s).action a in
      inside_none says (world_of s).size (world_of s).effect r.first r.count
      (λ i (l, m). let k = (action_of s accepted a known).1 in (effect_of s accepted i (omega arith)).2)
