-- Own vocabulary: what is known of an action before it is performed: it has a record, whose range of effects lies in their table. Assumes
-- nothing.
use Rattle.std.specs.Prelude.{ℕ, ◌+◌, ◌*◌, ◌≤◌, ◌<◌, List, length}
use Rattle.records.specs.Records.{effect_at, action_at}
use Rattle.golog.specs.World.{start}

-- of the count effects from number first on: each names a fluent below n
abbrev pub Names : (effects : List ℕ) (n first count : ℕ) → Type 0
Names effects n first count = (i : ℕ) → first ≤ i → i < first + count → (effect_at effects i).fluent < n

-- each has its condition among the first n formulas
abbrev pub ConditionsBelow : (effects : List ℕ) (n first count : ℕ) → Type 0
ConditionsBelow effects n first count = (i : ℕ) → first ≤ i → i < first + count → (effect_at effects i).condition < n

-- a is start, stop or an action of the table
abbrev pub InActions : (actions : List ℕ) (a : ℕ) → Type 0
InActions actions a = a < start → 6 * a + 6 ≤ length actions

-- and its range lies in the table of effects and names fluents below n
pub record Performable (effects actions : List ℕ) (n a : ℕ) : Type 0 where
  pub known : InActions actions a
  pub range : a < start → 4 * ((action_at actions a).first + (action_at actions a).count) ≤ length effects
  pub names : a < start → Names effects n (action_at actions a).first (action_at actions a).count
