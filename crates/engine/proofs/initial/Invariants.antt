use Rattle.std.proofs.Common.{ℕ, List}
use Rattle.records.specs.Records.{fluent_at}
use Rattle.records.proofs.Fills.{Filled}
use Rattle.engine.proofs.initial.Given as goal

abbrev pub invariant-loop-x : goal.invariant-loop-x
invariant-loop-x l = Filled 0 (λ (x : ℕ) (lower : List ℕ). (fluent_at l.fluents x).initial) (λ (v : ℕ). v) 32 l.values l.x
