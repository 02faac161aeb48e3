-- Own vocabulary: places of a list written one after the other by a loop: x of them from `to` on hold g 0, g 1, .., all others are as they
-- were. Assumes nothing.
use Rattle.std.specs.Prelude.{ℕ, ◌+◌, ◌≤◌, ◌<◌, ◌≡◌, List, get_or, length}

pub record Laid (to : ℕ) (g : ℕ → ℕ) (w w' : List ℕ) (x : ℕ) : Type 0 where
  pub len : length w' ≡ length w
  pub laid : (k : ℕ) → k < x → get_or w' (to + k) 0 ≡ g k
  pub below : (k : ℕ) → k < to → get_or w' k 0 ≡ get_or w k 0
  pub above : (k : ℕ) → to + x ≤ k → get_or w' k 0 ≡ get_or w k 0
