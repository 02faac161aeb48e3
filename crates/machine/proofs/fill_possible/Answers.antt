-- Each turn puts the set of a marked action, which does not touch the sets that it is told by. Assumes nothing.
use Rattle.machine.proofs.Filling.{actions_skip, actions_more}
use Rattle.machine.proofs.fill_possible.Goals as goal
use Rattle.machine.proofs.fill_possible.Goals.{then-mark-ne0, else-mark-ne0}

pub loop-a-preserved : goal.loop-a-preserved
loop-a-preserved c =
    elim c.if-mark-ne0.branch [
      | then-mark-ne0 w ↦ rw w.table-is (actions_more c.loop-a.invariant w.set_of-set.ensures w.put_set.ensures)
      | else-mark-ne0 w ↦ rw w.table-is (actions_skip c.loop-a.invariant w.if-mark-ne0.false)
    ]
