use Prim.Native.Nat.{ℕ}
use Rattle.leaves.specs.Running.{records}
use Rattle.records.proofs.Fills.{Filled}
use Rattle.leaves.specs.Distances.{distance_at}
use Rattle.leaves.proofs.distances.Given as goal

abbrev pub invariant-loop-i : goal.invariant-loop-i
invariant-loop-i l = Filled 0 (distance_at (records l.p)) (λ (d : ℕ). d) 260 l.distances l.i
