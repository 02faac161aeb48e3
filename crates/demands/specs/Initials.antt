-- To be believed: two sheets that differ in initial values of fluents outside a set alone (document 02, F-5: "Two accepted sheets that
-- differ only in initial values of fluents outside the union"). Assumes nothing.
use Rattle.std.specs.Prelude.{false, List, ◌≡◌, ℕ, ◌+◌, ◌*◌, ◌<◌, length, get_or, set}
use Rattle.records.specs.Mask.{has_bit}
use Rattle.sheet.specs.Layout.{layout_of}

-- where the initial value of fluent x stands: the second byte of its record
abbrev pub initial_at : List ℕ → (x : ℕ) → ℕ
initial_at s x = (layout_of s).fluents + (2 * x + 1)

-- as many bytes, and all the same but the initial values of fluents that are outside the set, bit x for fluent x
pub record SameButInitials (names : ℕ) (s s' : List ℕ) : Type 0 where
  pub len : length s' ≡ length s
  pub bytes : (i : ℕ) → ((x : ℕ) → x < (layout_of s).f → has_bit names x ≡ false → ¬ (i ≡ initial_at s x)) → get_or s' i 0 ≡ get_or s i 0

-- the sheet with the initial value v of fluent x put into that byte
unfoldable pub with_initial : List ℕ → (x v : ℕ) → List ℕ
with_initial s x v = set s (initial_at s x) v
