use Prim.Native.Nat.{ℕ}
use Rattle.records.specs.Records.{program_at}
use Rattle.records.proofs.Fills.{Filled}
use Rattle.height.specs.Height.{height_at}
use Rattle.height.proofs.height.Given as goal

abbrev pub invariant-loop-i : goal.invariant-loop-i
invariant-loop-i l = Filled 0 (height_at (program_at l.t)) (λ (x : ℕ). x) 256 l.h l.i
