use Rattle.machine.specs.Told.{ActionsFilled}
use Rattle.machine.proofs.fill_possible.Given as goal

abbrev pub invariant-loop-a : goal.invariant-loop-a
invariant-loop-a l = ActionsFilled l.fluents l.effects l.actions l.marks l.a l.initial.table l.table
