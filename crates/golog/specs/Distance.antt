-- Own vocabulary: how far a program is from its end: a lower bound on the transitions until what remains is final, whatever the states.
-- That each transition brings the end at most one nearer, and that what is final is at distance 0, is proved in proofs/Distance.antt.
-- Assumes nothing.
use Rattle.std.specs.Prelude.{ℕ, zero, suc, ◌+◌, min}
use Rattle.golog.specs.Prog.{Prog, nil, act, test, sequence, choice, together, over, star, iteration, if_then_else, while, interrupt, pick}

-- the least of the numbers below n, or that at 0 where there is none
unfoldable pub least_below : (ℕ → ℕ) → (n : ℕ) → ℕ
least_below f zero = f 0
least_below f (suc n) = min (f n) (least_below f n)

unfoldable pub distance : Prog → ℕ
distance nil = 0
distance (act a) = 1
distance (test q) = 1
-- both parts must end
distance (sequence a b) = distance a + distance b
-- either may
distance (choice a b) = min (distance a) (distance b)
-- no round need be made
distance (star a) = 0
distance (if_then_else q a b) = min (distance a) (distance b)
-- the condition may fail
distance (while q a) = 0
distance (together a b) = distance a + distance b
distance (over a b) = distance a + distance b
distance (iteration a) = 0
-- interrupts may not run
distance (interrupt q a) = 0
-- any value may be chosen
distance (pick n f) = least_below (λ (v : ℕ). distance (f v)) n
