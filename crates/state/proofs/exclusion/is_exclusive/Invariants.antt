use Rattle.state.proofs.Excluding.{AskedBefore}
use Rattle.state.proofs.exclusion.is_exclusive.Given as goal

abbrev pub invariant-loop-i : goal.invariant-loop-i
invariant-loop-i l = AskedBefore l.formulas l.effects l.first l.fluents l.noted l.i
