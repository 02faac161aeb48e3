-- Own vocabulary: actions whose effects contradict each other in no state, told from the sheet alone. Assumes nothing.
use Rattle.std.specs.Prelude.{Option, None, Some, ℕ, ◌+◌, ◌*◌, ◌≤◌, ◌<◌, ◌≡◌, Bool, true, false, cond, ◌&&◌, List, T, ltb, length, get_or}
use Rattle.records.specs.declared.Formula.{Formula}
use Rattle.state.specs.declared.exclusion.Asked.{Asked}
use Rattle.records.specs.Records.{formula_at, effect_at, action_at}
use Rattle.kinds.specs.Formulas.{asks_value}
use Rattle.records.specs.Some.{InRange}
use Rattle.state.specs.Ranges.{Names, ConditionsBelow}

-- a formula asks that a fluent has a value, one that a fluent may have
abbrev pub asks_in_domain : Formula → Bool
asks_in_domain r = asks_value r.kind && ltb r.a 16

-- which fluent and which value, if any
abbrev pub asked_of : Formula → Option Asked
asked_of r = cond (asks_in_domain r) (Some (record { fluent = r.x; value = r.a })) None

-- two conditions exclude each other: that one fluent has two values
pub record Excluded (c d : Formula) : Type 0 where
  pub one : T (asks_value c.kind)
  pub other : T (asks_value d.kind)
  pub fluent : c.x ≡ d.x
  pub values : ¬ (c.a ≡ d.a)

-- of the k effects from number i on, those that give one fluent different values stand under such conditions
abbrev pub Exclusive : (formulas effects : List ℕ) (i k : ℕ) → Type 0
Exclusive formulas effects i k =
    (a b : ℕ) → InRange i k a → InRange i k b → (effect_at effects a).fluent ≡ (effect_at effects b).fluent → ¬ ((effect_at effects a).value ≡ (effect_at effects b).value)
    → Excluded (formula_at formulas (effect_at effects a).condition) (formula_at formulas (effect_at effects b).condition)

-- they lie in the tables of a sheet
pub record Readable (formulas effects : List ℕ) (i k : ℕ) : Type 0 where
  pub range : 4 * (i + k) ≤ length effects
  pub names : Names effects 32 i k
  pub conditions : ConditionsBelow effects 512 i k
  pub long : (a : ℕ) → i ≤ a → a < i + k → 6 * (effect_at effects a).condition + 6 ≤ length formulas

-- so do those of each marked action
pub record ReadableAll (formulas effects actions : List ℕ) (marks : List Bool) : Type 0 where
  pub known : (a : ℕ) → get_or marks a false ≡ true → 6 * a + 6 ≤ length actions
  pub each : (a : ℕ) → get_or marks a false ≡ true → Readable formulas effects (action_at actions a).first (action_at actions a).count

-- some of the marked actions, and those left out contradict themselves in no state
pub record MayConflict (formulas effects actions : List ℕ) (marks may : List Bool) : Type 0 where
  pub within : (a : ℕ) → get_or may a false ≡ true → get_or marks a false ≡ true
  pub rest : (a : ℕ) → get_or marks a false ≡ true → get_or may a false ≡ false → Exclusive formulas effects (action_at actions a).first (action_at actions a).count
