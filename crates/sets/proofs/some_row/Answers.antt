-- Every row is the or of all rows. Assumes nothing.
use Prim.Native.Nat.{◌*◌, ◌/◌}
use lib.Bits.{bit_and, bit_or}
use Rattle.sets.proofs.Members.{has_equal}
use Rattle.sets.proofs.Values.{bit_row_any}
use Rattle.sets.proofs.some_row.Goals as goal

pub returns : goal.returns
returns c = has_equal (bit_and (bit_or c.gathered-two.result (c.gathered-two.result / 65536)) 65535 * 65537) (bit_row_any _ _ c.gathered-two.ensures)
