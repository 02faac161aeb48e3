use Rattle.state.proofs.Noting.{Marking}
use Rattle.state.proofs.conflicts.in_conflict.Given as goal

abbrev pub invariant-loop-j : goal.invariant-loop-j
invariant-loop-j l = Marking l.effects l.actions l.list l.truths l.marks l.j
