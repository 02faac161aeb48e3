-- To be believed: the lowest number at which a rule fails (document 01: "the lowest faulty record"), as it is meant; below it as it is
-- computed. That the two are one is proved in proofs/Lowest.antt. Assumes nothing.
use Rattle.std.specs.Prelude.{ℕ, zero, suc, ◌<◌, Bool, cond}

-- of n records, record p breaks the rule, and every lower one keeps it
pub record LowestFaulty (Rule : ℕ → Type 0) (n p : ℕ) : Type 0 where
  pub exists : p < n
  pub faulty : ¬ Rule p
  pub lower : (i : ℕ) → i < p → Rule i

-- from number i on, k numbers left: the first at which the rule fails, or the end
unfoldable pub lowest_from : (ℕ → Bool) → ℕ → ℕ → ℕ
lowest_from ok i zero = i
lowest_from ok i (suc k) = let later : ℕ = lowest_from ok (suc i) k in cond (ok i) later i

-- the lowest number below n at which the rule fails, or n where there is none
unfoldable pub lowest : (ℕ → Bool) → ℕ → ℕ
lowest ok n = lowest_from ok 0 n
