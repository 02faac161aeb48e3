-- Own vocabulary: the words of an entry that were written. Assumes nothing.
use Rattle.std.specs.Prelude.{ℕ, ◌+◌, ◌<◌, ◌≡◌, List, get_or, length}

-- an entry was written at `at`, and no word before it
pub record Entered (at next header : ℕ) (key w w' : List ℕ) : Type 0 where
  pub len : length w' ≡ length w
  pub next_is : get_or w' at 0 ≡ next
  pub header_is : get_or w' (at + 1) 0 ≡ header
  pub key_is : (k : ℕ) → k < length key → get_or w' (at + 2 + k) 0 ≡ get_or key k 0
  pub below : (k : ℕ) → k < at → get_or w' k 0 ≡ get_or w k 0
