-- Each turn judges one action of the list; what it marks is conflicted, and what is not listed stays unmarked. Assumes nothing.
use mathlib.Core.Path.{sym}
use native.Mathlib.Omega.{arith}
use Rattle.state.proofs.Noting.{marking_none, marking_more, marking_done}
use Rattle.state.proofs.conflicts.in_conflict.Goals as goal

pub loop-j-init : goal.loop-j-init
loop-j-init c = marking_none _ _ _ _

pub loop-j-preserved : goal.loop-j-preserved
loop-j-preserved c =
    let (l, p) = c.requires _ (c.loop-j.j, omega arith, sym c.value_in-a.ensures) in
    marking_more _ _ _ _ c.loop-j.invariant c.value_in-a.ensures l (rw (← c.action_at.ensures.record) c.is_in_conflict.ensures)

pub returns : goal.returns
returns c = marking_done _ _ _ _ c.loop-j.invariant (omega arith)
