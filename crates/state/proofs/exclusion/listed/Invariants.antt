use Rattle.state.proofs.Excluding.{Listing}
use Rattle.state.proofs.exclusion.listed.Given as goal

abbrev pub invariant-loop-a : goal.invariant-loop-a
invariant-loop-a l = Listing l.marks l.list l.n l.a
