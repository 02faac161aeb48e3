use Rattle.truths.specs.Evaluated.{Filled}
use Rattle.truths.proofs.fill.Given as goal

abbrev pub invariant-loop-i : goal.invariant-loop-i
invariant-loop-i l = Filled l.formulas l.values l.i l.initial.table l.table
