-- Own vocabulary: what the rules of the format give of the five tables of a sheet with placeholders. Assumes nothing.
use Rattle.std.specs.Prelude.{ℕ, ◌+◌, ◌*◌, ◌%◌, ◌≤◌, ◌<◌, List, T, length}
use Rattle.records.specs.declared.Effect.{Effect}
use Rattle.records.specs.declared.Action.{Action}
use Rattle.records.specs.Records.{effect_at, action_at, program_at, ProgramTable}
use Rattle.records.specs.Placeholders.{environments}
use Rattle.kinds.specs.Programs.{acts}
use Rattle.golog.specs.World.{start}
use Rattle.truths.specs.Held.{RuledFormulas}
use Rattle.possible.specs.Possible.{GivesValue}
use Rattle.enabled.specs.Filled.{Ruled}
use Rattle.machine.specs.declared.Shape.{Shape}

-- an effect's condition is a formula, and it names a fluent
pub record RuledEffect (v : Shape) (r : Effect) : Type 0 where
  pub condition : r.condition < v.q
  pub fluent : r.fluent < v.f

-- an action's precondition is a formula, and its range lies among the effects
pub record RuledAction (v : Shape) (r : Action) : Type 0 where
  pub precondition : r.precondition < v.q
  pub range : r.first + r.count ≤ v.e

-- the effects and the actions, which are no more than document 01 allows
pub record RuledActions (effects actions : List ℕ) (v : Shape) : Type 0 where
  pub few_fluents : v.f ≤ 32
  pub few_formulas : v.q ≤ 512
  pub few_effects : v.e ≤ 512
  pub few_actions : v.a ≤ 64
  pub effects_long : 4 * v.e ≤ length effects
  pub actions_long : 6 * v.a ≤ length actions
  pub each_effect : (i : ℕ) → i < v.e → RuledEffect v (effect_at effects i)
  pub each_action : (a : ℕ) → a < v.a → RuledAction v (action_at actions a)

-- besides, records perform actions of the table
pub record RuledOnce (formulas effects actions programs : List ℕ) (v : Shape) : Type 0 where
  pub moves : RuledActions effects actions v
  pub formulas_long : 6 * v.q ≤ length formulas
  pub programs_long : ProgramTable programs v.p
  pub acts_known : (i : ℕ) → i < v.p → T (acts (program_at programs i).kind) → (program_at programs i).a < v.a
  pub each_record : (i : ℕ) → i < v.p → Ruled v.q i (program_at programs i)

-- besides, formulas name lower ones, and effects give values of their fluents' domains or what stands in a placeholder
pub record RuledTables (fluents formulas effects actions programs : List ℕ) (v : Shape) : Type 0 where
  pub once : RuledOnce formulas effects actions programs v
  pub each_formula : RuledFormulas formulas v.q
  pub each_value : (i : ℕ) → i < v.e → GivesValue fluents (effect_at effects i)

-- an entry of a history is start, stop or an action of the table in an environment; above them is the code of a test
abbrev pub IsEntry : Shape → (entry : ℕ) → Type 0
IsEntry v entry = entry < start → (entry < 64 * environments) × (entry % 64 < v.a)
