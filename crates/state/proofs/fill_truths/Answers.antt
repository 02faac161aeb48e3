-- The loop fills the table upwards: what formula i says of the places filled so far is the definition's entry i. Assumes nothing.
use mathlib.Core.Path.{◌∙◌}
use mathlib.Core.List.{map-id}
use native.Mathlib.Nat.{le_antisymm}
use mathlib.Core.Bool.{Bool, false}
use native.Mathlib.Omega.{arith}
use Rattle.state.specs.Truths.{truths_of}
use Rattle.records.proofs.Fills.{refill_start, refill_at, refill_more}
use Rattle.kinds.proofs.Truth.{truth_same}
use Rattle.state.proofs.fill_truths.Goals as goal

pub loop-i-init : goal.loop-i-init
loop-i-init c = refill_start _ (λ (b : Bool). b) _

pub loop-i-preserved : goal.loop-i-preserved
loop-i-preserved c =
    let (lower, plain) = c.requires.lower_formulas in
    refill_more _ _ c.loop-i.invariant (omega arith)
    (c.truth_at-r.ensures ∙ truth_same _ _ _ _ _ (plain _ (omega arith)) (lower _ (omega arith)) (refill_at _ _ c.loop-i.invariant false))

pub returns : goal.returns
unfolding truths_of
returns c =
    let e = le_antisymm c.loop-i.auto.i-end c.loop-i-test.false in
    rw (← e) (c.loop-i.invariant.same ∙ simp map-id)
