-- Every bit of a full word is set, and none of 0. Assumes nothing.
use Prim.Native.Nat.{◌%◌}
use mathlib.Core.Path.{sym, ◌∙◌}
use native.Mathlib.Omega.{arith}
use Rattle.sets.proofs.Bits.{bit_full, bit_none}
use Rattle.sets.proofs.Members.{has_equal}
use Rattle.sets.proofs.whole.Goals as goal

pub returns-then-all : goal.returns-then-all
returns-then-all c = has_equal 4294967295 (λ e l. bit_full 32 (e % 32) (omega arith) ∙ sym c.if-all.true)

pub returns-else-all : goal.returns-else-all
returns-else-all c = has_equal 0 (λ e l. bit_none (e % 32) ∙ sym c.if-all.false)
