-- Every row is row v, which has the environments with v in placeholder 1. Assumes nothing.
use Prim.Native.Nat.{◌*◌, ◌/◌, ◌%◌, ◌^◌}
use mathlib.Core.Path.{◌∙◌}
use native.Mathlib.Omega.{arith}
use lib.Bits.{bit_and}
use lib.ListN.{get_or}
use Rattle.sets.proofs.Bits.{bit_row}
use Rattle.sets.proofs.Members.{has_equal, put_row}
use Rattle.sets.proofs.given_row.Goals as goal

pub returns : goal.returns
returns c = has_equal (bit_and (get_or c.args.x (c.args.v / 2) 0 / 2 ^ (16 * (c.args.v % 2))) 65535 * 65537)
    (λ e l. bit_row (get_or c.args.x (c.args.v / 2) 0) (16 * (c.args.v % 2)) (e % 32) (omega arith) ∙ put_row c.args.x e c.args.v c.requires)
