-- Powers of 16. Assumes nothing.
use mathlib.Core.Path.{◌≡◌, refl, sym, ◌∙◌, ap}
use Prim.Native.Nat.{ℕ, zero, suc, ◌*◌, ◌^◌}
use native.Mathlib.Nat.{pow-succ'}
use native.Mathlib.Omega.{arith}
use lib.Pow.{pow-add}

pub four_bits : (m : ℕ) → 2 ^ (4 * m) ≡ 16 ^ m
four_bits zero = refl
four_bits (suc m) =
    ap (λ (n : ℕ). 2 ^ n) (omega arith)
    ∙ pow-add 2 4 (4 * m)
    ∙ ap (λ (n : ℕ). 16 * n) (four_bits m)
    ∙ sym (pow-succ' 16 m)
