use Rattle.possible.specs.Written.{conflicting_in}
use Rattle.possible.proofs.Removing.{RemovedBelow}
use Rattle.possible.proofs.agreeing.Given as goal

abbrev pub invariant-loop-e : goal.invariant-loop-e
invariant-loop-e l = RemovedBelow l.set (conflicting_in l.effects l.table l.first l.count) l.e l.left
