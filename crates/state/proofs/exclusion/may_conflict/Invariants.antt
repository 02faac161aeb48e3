use Rattle.state.proofs.Excluding.{MayConflictBelow}
use Rattle.state.proofs.exclusion.may_conflict.Given as goal

abbrev pub invariant-loop-a : goal.invariant-loop-a
invariant-loop-a l = MayConflictBelow l.formulas l.effects l.actions l.marks l.may l.a
