-- To be believed: two sheets that differ in the bound alone (document 01: "Raising the bound alone puts a higher D .. into the trailer").
-- Assumes nothing.
use Rattle.std.specs.Prelude.{◌≡◌, ℕ, ◌+◌, ◌-◌, ◌/◌, ◌%◌, List, length, get_or, set}

-- as many bytes, and all the same but the two of D, the eighth and the seventh from the end
pub record SameButBound (s s' : List ℕ) : Type 0 where
  pub len : length s' ≡ length s
  pub bytes : (i : ℕ) → ¬ (i + 8 ≡ length s) → ¬ (i + 7 ≡ length s) → get_or s' i 0 ≡ get_or s i 0

-- the sheet with the bound d put into those two bytes: "Two-byte numbers (u16) .. are little-endian"
unfoldable pub with_bound : List ℕ → (d : ℕ) → List ℕ
with_bound s d = set (set s (length s - 8) (d % 256)) (length s - 7) (d / 256)
