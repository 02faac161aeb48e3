-- Own vocabulary: effects as two functions read them, one that tells whether a formula holds and one that tells the value that a byte means:
-- `holds q b` and `meant v w` say what these may answer. Assumes nothing.
use Rattle.std.specs.Prelude.{ℕ, ◌+◌, ◌≤◌, ◌<◌, ◌≡◌, Bool, List}
use Rattle.records.specs.Records.{effect_at}

-- they may be asked of each of the count effects from number first on
pub record MayAsk (holds meant : ℕ → Type 0) (effects : List ℕ) (first count : ℕ) : Type 0 where
  pub condition : (i : ℕ) → first ≤ i → i < first + count → holds (effect_at effects i).condition
  pub value : (i : ℕ) → first ≤ i → i < first + count → meant (effect_at effects i).value

-- so read, those effects say what those of the table do, by `says`
pub record Reads (holds : ℕ → Bool → Type 0) (meant : ℕ → ℕ → Type 0) (says : ℕ → Bool) (effects table : List ℕ) (first count : ℕ) : Type 0 where
  pub condition : (i : ℕ) → first ≤ i → i < first + count → (b : Bool) → holds (effect_at effects i).condition b → b ≡ says (effect_at table i).condition
  pub value : (i : ℕ) → first ≤ i → i < first + count → (v : ℕ) → meant (effect_at effects i).value v → v ≡ (effect_at table i).value
  pub fluent : (i : ℕ) → first ≤ i → i < first + count → (effect_at effects i).fluent ≡ (effect_at table i).fluent
