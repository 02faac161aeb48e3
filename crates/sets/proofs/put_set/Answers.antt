-- The words of x replace those of set i. Assumes nothing.
use borrow.Author.Rules.{rules}
use native.Mathlib.Omega.{arith}
use Rattle.sets.proofs.Tables.{put_is}
use Rattle.sets.proofs.put_set.Goals as goal

pub returns : goal.returns
returns c = rw c.copy_from_slice.ensures.after (put_is _ _ _ (search rules) c.requires _ (omega arith))
