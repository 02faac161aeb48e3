-- The set of one value is its power of 2, below 2 ^ 32. Assumes nothing.
use Prim.Native.Nat.{ℕ, ◌*◌, ◌%◌, ◌^◌}
use mathlib.Core.Path.{◌≡◌, ap, ◌∙◌}
use native.Mathlib.Omega.{arith}
use lib.Pow.{pow-lt}
use Rattle.records.specs.Mask.{has_bit}
use Rattle.records.specs.Placeholders.{look}
use Rattle.sets.proofs.Bits.{bit_one}
use Rattle.sets.proofs.Members.{has_by}
use Rattle.sets.proofs.holding.Goals as goal

pub returns : goal.returns
returns c =
    let v = c.args.v in
    let d = c.args.c in
    let word : 1 * 2 ^ v % 2 ^ 32 ≡ 2 ^ v = omega (arith, pow-lt c.requires.1) in
    has_by c.among.ensures (λ e l. ap (λ (m : ℕ). has_bit m (look e d)) word ∙ bit_one v (look e d))
