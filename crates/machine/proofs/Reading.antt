-- What the rules give of an action: its range can be read, it asks formulas that there are, and so can be performed in an environment.
-- Assumes nothing.
use Prim.Native.Nat.{ℕ, ◌+◌, ◌*◌, ◌≤◌, ◌<◌}
use mathlib.Core.List.{List}
use native.Mathlib.Omega.{arith}
use lib.ListN.{length}
use Rattle.records.specs.Records.{action_at}
use Rattle.state.specs.Ranges.{Names, ConditionsBelow}
use Rattle.state.specs.Exclusion as exclusion
use Rattle.possible.specs.Possible.{ReadableRange, Readable, AsksBelow}
use Rattle.machine.specs.declared.Shape.{Shape}
use Rattle.machine.specs.Ruled.{RuledActions, RuledTables}

module _ {effects actions : List ℕ} {v : Shape} (R : RuledActions effects actions v) {a : ℕ} (l : a < v.a) where
  abbrev first : ℕ
  first = (action_at actions a).first

  abbrev count : ℕ
  count = (action_at actions a).count

  pub range_few : (action_at actions a).first + (action_at actions a).count ≤ 512
  range_few = omega (arith, R.few_effects, (R.each_action a l).range)

  range_names : Names effects v.f first count
  range_names i x y = (R.each_effect i (omega (arith, (R.each_action a l).range))).fluent

  pub range_conditions : ConditionsBelow effects v.q (action_at actions a).first (action_at actions a).count
  range_conditions i x y = (R.each_effect i (omega (arith, (R.each_action a l).range))).condition

  pub range_readable :
      {table : List ℕ} (n : ℕ) → v.f ≤ n → 8 * v.q ≤ length table → ReadableRange effects table n (action_at actions a).first (action_at actions a).count
  range_readable n most room = record {
    few = range_few;
    long = omega (arith, R.effects_long, (R.each_action a l).range);
    names = λ i x y. omega (arith, range_names i x y);
    conditions = λ i x y. omega (arith, range_conditions i x y);
  }

  pub asks_below : AsksBelow effects actions v.q a
  asks_below = record { precondition = (R.each_action a l).precondition; conditions = range_conditions }

  pub exclusion_readable : {formulas : List ℕ} → 6 * v.q ≤ length formulas → exclusion.Readable formulas effects (action_at actions a).first (action_at actions a).count
  exclusion_readable long = record {
    range = omega (arith, R.effects_long, (R.each_action a l).range);
    names = λ i x y. omega (arith, range_names i x y, R.few_fluents);
    conditions = λ i x y. omega (arith, range_conditions i x y, R.few_formulas);
    long = λ i x y. omega (arith, range_conditions i x y);
  }

pub readable_action :
    {fluents formulas effects actions programs table : List ℕ} {v : Shape} → RuledTables fluents formulas effects actions programs v → {a : ℕ} → a < v.a
    → 8 * v.q ≤ length table → Readable fluents effects actions table a
readable_action R {a} l room =
    let M = R.once.moves in
    record {
      action = omega (arith, M.few_actions);
      known = omega (arith, M.actions_long);
      precondition = omega (arith, (M.each_action a l).precondition);
      range = range_readable M l 32 M.few_fluents room;
      values = λ i x y. R.each_value i (omega (arith, (M.each_action a l).range));
    }
