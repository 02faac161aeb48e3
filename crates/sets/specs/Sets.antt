-- Own vocabulary: sets of environments. A set is eight words of 32 bits, bit e % 32 of word e / 32 for environment e; in a table the sets
-- stand one after the other. Assumes nothing.
use Rattle.std.specs.Prelude.{ℕ, ◌+◌, ◌*◌, ◌/◌, ◌%◌, ◌≤◌, ◌<◌, ◌≡◌, Bool, List, ◌⊎◌, length, get_or, take, drop}
use Rattle.records.specs.Mask.{has_bit}
use Rattle.records.specs.Some.{some_from}

-- the words of a set
abbrev pub set_words : ℕ
set_words = 8

-- whether environment e is in the set
unfoldable pub member : (set : List ℕ) (e : ℕ) → Bool
member set e = has_bit (get_or set (e / 32) 0) (e % 32)

-- the set has exactly the environments of which U says so
pub record Has (U : ℕ → Bool) (set : List ℕ) : Type 0 where
  pub len : length set ≡ set_words
  pub each : (e : ℕ) → e < 256 → member set e ≡ U e

-- the word has the bits that one of the first k words of the set has
pub record Gathered (set : List ℕ) (k word : ℕ) : Type 0 where
  pub each : (i : ℕ) → has_bit word i ≡ some_from (λ (j : ℕ). has_bit (get_or set j 0) i) 0 k

-- set i of a table
unfoldable pub set_at : (table : List ℕ) (i : ℕ) → List ℕ
set_at table i = take set_words (drop (set_words * i) table)

-- x is set i of the table now, and every other word is as it was
pub record PutSet (i : ℕ) (x : List ℕ) (table table' : List ℕ) : Type 0 where
  pub len : length table' ≡ length table
  pub here : set_at table' i ≡ x
  pub others : (j : ℕ) → ¬ (j ≡ i) → set_at table' j ≡ set_at table j
  pub words : (k : ℕ) → (k < set_words * i) ⊎ (set_words * i + set_words ≤ k) → get_or table' k 0 ≡ get_or table k 0
