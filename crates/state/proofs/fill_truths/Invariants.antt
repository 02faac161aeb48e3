use mathlib.Core.Bool.{Bool}
use Rattle.state.specs.Truths.{truth_in}
use Rattle.records.proofs.Fills.{Refilled}
use Rattle.state.proofs.fill_truths.Given as goal

abbrev pub invariant-loop-i : goal.invariant-loop-i
invariant-loop-i l = Refilled (truth_in l.formulas l.fn.s.values) (λ (b : Bool). b) l.initial.truths l.truths l.i
