use Prim.Native.Nat.{ℕ}
use Rattle.leaves.specs.Running.{records, size}
use Rattle.records.proofs.Fills.{Filled}
use Rattle.enabled.specs.Spans.{span_at}
use Rattle.enabled.proofs.spans.Given as goal

abbrev pub invariant-loop-i : goal.invariant-loop-i
invariant-loop-i l =
    Filled 0 (span_at (records l.p) (size l.p)) (λ (k : ℕ). k) 260 l.spans l.i
