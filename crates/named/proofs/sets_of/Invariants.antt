use Prim.Native.Nat.{ℕ}
use Rattle.records.proofs.Fills.{Filled}
use Rattle.named.specs.Tables.{most_sets, set_in}
use Rattle.named.proofs.sets_of.Given as goal

abbrev pub invariant-loop-i : goal.invariant-loop-i
invariant-loop-i l = Filled 0 (set_in l.formulas) (λ (v : ℕ). v) most_sets l.sets l.i
