use Prim.Native.Nat.{ℕ}
use Rattle.records.proofs.Fills.{Filled}
use Rattle.leaves.specs.Running.{records}
use Rattle.positions.specs.Levels.{digits_at}
use Rattle.positions.proofs.digits.Given as goal

abbrev pub invariant-loop-i : goal.invariant-loop-i
invariant-loop-i l = Filled 0 (digits_at (records l.p) l.endable l.spans) (λ (d : ℕ). d) 260 l.digits l.i
