-- The words of set i are copied. Assumes nothing.
use Prim.Native.Nat.{◌+◌, ◌-◌, ◌*◌}
use mathlib.Core.Path.{◌≡◌}
use native.Mathlib.Omega.{arith}
use Rattle.sets.specs.Sets.{set_at}
use Rattle.sets.proofs.set_at.Goals as goal

pub returns : goal.returns
unfolding set_at
returns c =
    let few : 8 * c.args.i + 8 - 8 * c.args.i ≡ 8 = omega arith in
    rw few at c.copy_from_slice.ensures.after
