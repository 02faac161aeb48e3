-- Four bits a digit. Assumes nothing.
use mathlib.Core.Path.{ap}
use Prim.Native.Nat.{ℕ, ◌*◌, ◌^◌, ◌≤◌}
use native.Mathlib.Nat.{pow-le-pow_right, one-le-pow}
use native.Mathlib.Omega.{arith}
use lib.Pow.{pow-lt}
use Rattle.positions.proofs.Powers.{four_bits}
use Rattle.positions.proofs.apart_of.Goals as goal

pub returns : goal.returns
returns c =
    let m = c.saturating_sub.result in
    let small : m ≤ 15 = omega (arith, c.saturating_sub.ensures) in
    let few : 16 ^ m ≤ 16 ^ 15 = pow-le-pow_right (omega arith) small in
    omega (
      arith,
      pow-lt {i = 4 * m} {j = 64} (omega (arith, c.saturating_sub.ensures)),
      four_bits m,
      one-le-pow m 16 (omega arith),
      ap (λ (n : ℕ). 16 ^ n) c.saturating_sub.ensures,
    )
