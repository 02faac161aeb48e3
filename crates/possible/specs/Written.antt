-- Own vocabulary: the tables of a sheet with placeholders (document 02, F-6), what its formulas say and its effects give in an environment,
-- and the world that the tables are of, written out. Assumes nothing.
use Rattle.std.specs.Prelude.{ℕ, ◌/◌, ◌%◌, ◌≡◌, Bool, cond, List, eqb}
use Rattle.records.specs.declared.Effect.{Effect}
use Rattle.records.specs.Records.{fluent_at, effect_at, action_at}
use Rattle.sets.specs.Sets.{member, set_at}
use Rattle.golog.specs.World.{World, conflicting, strays, straying, each}
use Rattle.golog.specs.Written.{resolved, effect_read, action_read}
use Rattle.truths.specs.Held.{WrittenFrom}

-- the world of four tables, written out (golog/specs/Written.antt)
pub record Written (fluents formulas effects actions : List ℕ) (W : World) : Type 0 where
  pub size_is : (x : ℕ) → W.size x ≡ (fluent_at fluents x).size
  pub formula_is : WrittenFrom formulas W
  pub effect_is : (n : ℕ) → W.effect n ≡ effect_read (n / 512) (effect_at effects (n % 512))
  pub action_is : (n : ℕ) → W.action n ≡ action_read (n / 64) (action_at actions (n % 64))

-- domain sizes
abbrev pub size_in : (fluents : List ℕ) → ℕ → ℕ
size_in fluents x = (fluent_at fluents x).size

-- what formula q says in e, by a table of the environments in which each holds
abbrev pub said_at : (table : List ℕ) (e q : ℕ) → Bool
said_at table e q = member (set_at table q) e

-- an effect with the value that it gives in e
abbrev pub resolved_effect : (e : ℕ) → Effect → Effect
resolved_effect e r = record { condition = r.condition; fluent = r.fluent; value = resolved e r.value }

-- the effects with the values that they give in e, as a table again: the last of an effect's four bytes is its value
unfoldable pub resolved_table : (e : ℕ) (effects : List ℕ) → List ℕ
resolved_table e effects = each (λ (k byte : ℕ). cond (eqb (k % 4) 3) (resolved e byte) byte) 0 effects

-- in e two of the count effects from number first on hold and give one fluent different values
abbrev pub conflicting_in : (effects table : List ℕ) (first count e : ℕ) → Bool
conflicting_in effects table first count e = conflicting (said_at table e) (effect_at (resolved_table e effects)) first count

-- in e an effect, or one of those, holds and gives a value outside its fluent's domain
abbrev pub strays_in : (fluents table : List ℕ) → Effect → (e : ℕ) → Bool
strays_in fluents table r e = strays (said_at table e) (size_in fluents) (resolved_effect e r)

abbrev pub straying_in : (fluents effects table : List ℕ) (first count e : ℕ) → Bool
straying_in fluents effects table first count e = straying (said_at table e) (size_in fluents) (effect_at (resolved_table e effects)) first count
