-- Each turn looks at one action; what is left out contradicts itself in no state. Assumes nothing.
use native.Mathlib.Omega.{arith}
use mathlib.Core.Path.{sym, ◌∙◌}
use mathlib.Core.Bool.{false≢true}
use Rattle.state.proofs.Excluding.{below_none, below_more, below_done}
use Rattle.state.proofs.exclusion.may_conflict.Goals as goal
use Rattle.state.proofs.exclusion.may_conflict.Goals.{then-marks-a, else-marks-a}

pub loop-a-init : goal.loop-a-init
loop-a-init c = below_none _ _ _ _

pub loop-a-preserved : goal.loop-a-preserved
loop-a-preserved c =
    elim c.if-marks-a.branch [
      | then-marks-a w ↦ below_more _ _ _ _ c.loop-a.invariant (omega arith) (λ t. w.if-marks-a.true)
          (λ m f. (rw w.action_at.ensures.record at w.action_may_conflict.ensures) (sym w.may-is ∙ f))
      | else-marks-a w ↦ below_more _ _ _ _ c.loop-a.invariant (omega arith) (λ t. sym w.may-is ∙ t)
          (λ m f. absurd (false≢true (sym w.if-marks-a.false ∙ m)))
    ]

pub returns : goal.returns
returns c = below_done _ _ _ _ c.loop-a.invariant c.requires.0 (omega arith)
