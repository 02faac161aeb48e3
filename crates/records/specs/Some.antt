-- To be believed: whether one, or every one, of the numbers of a range has what a test says. That the two readings agree is proved in
-- proofs/Some.antt. Assumes nothing.
use Rattle.std.specs.Prelude.{ℕ, zero, suc, ◌+◌, ◌≤◌, ◌<◌, Bool, true, false, ◌&&◌, ◌||◌}

-- number a is one of the k from i on
abbrev pub InRange : (i k a : ℕ) → Type 0
InRange i k a = (i ≤ a) × (a < i + k)

-- one of the k numbers from i on has it
unfoldable pub some_from : (ℕ → Bool) → (i k : ℕ) → Bool
some_from has i zero = false
some_from has i (suc k) = has i || some_from has (suc i) k

-- each of the k numbers from i on has it
unfoldable pub every_from : (ℕ → Bool) → (i k : ℕ) → Bool
every_from has i zero = true
every_from has i (suc k) = has i && every_from has (suc i) k
