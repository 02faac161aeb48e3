use mathlib.Core.Bool.{Bool, true}
use Rattle.leaves.specs.Running.{records}
use Rattle.records.proofs.Fills.{Filled}
use Rattle.leaves.specs.Endable.{final_bound_at}
use Rattle.leaves.proofs.bounds.Given as goal

abbrev pub invariant-loop-i : goal.invariant-loop-i
invariant-loop-i l = Filled true (final_bound_at l.most (records l.p)) (λ (b : Bool). b) 260 l.marks l.i
