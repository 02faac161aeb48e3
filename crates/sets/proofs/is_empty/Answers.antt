-- The or of the words is 0 where no word has a bit. Assumes nothing.
use native.Mathlib.Omega.{arith}
use borrow.Author.Tests.{eqb-true, eqb-false}
use Rattle.sets.proofs.Empty.{no_member, some_member}
use Rattle.sets.proofs.is_empty.Goals as goal

pub returns : goal.returns
returns c = (
  λ t. no_member _ c.gathered.ensures (eqb-true _ 0 t),
  λ f. some_member _ c.gathered.ensures (omega arith) (eqb-false _ 0 f),
)
