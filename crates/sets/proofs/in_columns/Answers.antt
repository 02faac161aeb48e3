-- Every row has the bits of the values. Assumes nothing.
use Prim.Native.Nat.{◌*◌, ◌%◌}
use mathlib.Core.Path.{ap, ◌∙◌}
use native.Mathlib.Omega.{arith}
use lib.Bits.{bit_and}
use Rattle.records.specs.Mask.{has_bit}
use Rattle.sets.proofs.Bits.{bit_twice}
use Rattle.sets.proofs.Members.{has_equal}
use Rattle.sets.proofs.in_columns.Goals as goal

pub returns : goal.returns
returns c = has_equal (bit_and c.args.values 65535 * 65537) (λ e l. bit_twice c.args.values (e % 32) (omega arith) ∙ ap (has_bit c.args.values) (omega arith))
