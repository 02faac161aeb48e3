use mathlib.Core.Bool.{Bool, false}
use Rattle.leaves.specs.Running.{records}
use Rattle.records.proofs.Fills.{Filled}
use Rattle.enabled.specs.Spans.{sees_at}
use Rattle.enabled.proofs.seeing.Given as goal

abbrev pub invariant-loop-i : goal.invariant-loop-i
invariant-loop-i l = Filled false (sees_at (records l.p) l.c) (λ (b : Bool). b) 260 l.marks l.i
