-- Of the environments in which the precondition holds, those in which effects stray are taken out, and those in which they contradict each other.
-- Assumes nothing.
use Rattle.possible.proofs.Allowed.{set_compared, set_uncompared}
use Rattle.possible.proofs.set_of.Goals as goal

pub returns-then-may_conflict : goal.returns-then-may_conflict
returns-then-may_conflict c =
    set_compared _ _ _ _ c.requires c.action_at-r.ensures.record c.set_at-held.ensures c.inside-left.ensures _ c.agreeing.ensures

pub returns : goal.returns
returns c =
    rw c.if-may_conflict.false (set_uncompared _ _ _ _ c.requires c.action_at-r.ensures.record c.set_at-held.ensures c.inside-left.ensures)
