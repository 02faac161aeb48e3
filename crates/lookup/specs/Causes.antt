-- To be believed: the causes of a look-up's numbers (document 01, "Who can cause which number"). Assumes nothing.
use Rattle.std.specs.Prelude.{◌≡◌, List, ◌⊎◌, ℕ, ◌≤◌}
use Rattle.sheet.specs.Layout.{layout_of}
use Rattle.sheet.specs.Causes.{Cause}

-- "every call that takes a sheet checks all nine"; "12: lookup of a fluent not below F"
abbrev pub LookCause : List ℕ → (x : ℕ) → (number place : ℕ) → Type 0
LookCause s x number place = Cause s number place ⊎ ((number ≡ 12) × (place ≡ 0) × ((layout_of s).f ≤ x))
