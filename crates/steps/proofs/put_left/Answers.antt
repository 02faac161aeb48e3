-- In a sequence what the right part left stands alone; else the left part is put beside it. Assumes nothing.
use mathlib.Core.Path.{refl}
use Rattle.steps.proofs.Wrapping.{beside_left}
use Rattle.steps.proofs.put_left.Goals as goal

pub returns : goal.returns
returns c = record { entry_is = refl; wraps = beside_left _ _ _ _ _ _ c.if-tag-eq-SEQUENCE.false c.put_copy_left.ensures }
