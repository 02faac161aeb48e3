-- The sets of the lower formulas give the next one. Assumes nothing.
use Rattle.truths.proofs.Filling.{filled_more}
use Rattle.truths.proofs.fill.Goals as goal

pub loop-i-preserved : goal.loop-i-preserved
loop-i-preserved c = filled_more c.loop-i.invariant c.next_set-set.ensures c.put_set.ensures
