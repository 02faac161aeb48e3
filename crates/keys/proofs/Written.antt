-- What a key that was written holds: nodes without higher bits, pair after pair. Assumes nothing.
use Prim.Native.Nat.{ℕ, ◌+◌, ◌-◌, ◌*◌, ◌/◌, ◌<◌}
use mathlib.Core.Path.{◌≡◌, subst}
use mathlib.Core.Bool.{Bool, true, false}
use mathlib.Core.List.{List}
use native.Mathlib.Omega.{arith}
use native.Mathlib.Decide.{dec_lt}
use Rattle.keys.specs.Packed.{limit_of, words_of, Coded, CodedPair, Whole}

-- nodes without higher bits, word after word
pub coded_all : (wide : Bool) (w : List ℕ) (i n : ℕ) → ((k : ℕ) → k < words_of wide n → Whole wide w i n k)
    → (j : ℕ) → j < n → Coded (limit_of wide) w (i + 3 * j)
coded_all true w i n f j h = f j h
coded_all false w i n f j h = go (dec_lt (2 * (j / 2)) j)
  where
    P : CodedPair w (i + 6 * (j / 2)) (n - 2 * (j / 2))
    P = f (j / 2) (omega arith)

    go : Dec (2 * (j / 2) < j) → Coded 4096 w (i + 3 * j)
    go (yes l) = let e : i + 6 * (j / 2) + 3 ≡ i + 3 * j = omega arith in subst (Coded 4096 w) e (P.second (omega arith))
    go (no l) = let e : i + 6 * (j / 2) ≡ i + 3 * j = omega arith in subst (Coded 4096 w) e P.first
