-- To be believed: the world of four tables' bytes. Assumes nothing.
use Rattle.std.specs.Prelude.{ℕ, List}
use Rattle.records.specs.Records.{fluent_at, formula_at, effect_at, action_at}
use Rattle.golog.specs.World.{World}

-- document 01, "The sheet": domain sizes, formulas, effects and actions by their numbers
abbrev pub world : (fluents formulas effects actions : List ℕ) → World
world fluents formulas effects actions = record {
  size = λ (x : ℕ). (fluent_at fluents x).size;
  formula = formula_at formulas;
  effect = effect_at effects;
  action = action_at actions;
}
