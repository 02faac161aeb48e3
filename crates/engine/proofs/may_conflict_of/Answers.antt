-- Of the actions that records perform, those that may conflict are listed. Assumes nothing.
use Rattle.std.proofs.Common.{rules}
use Rattle.engine.proofs.Conflicting.{readable, listed_may_conflict}
use Rattle.engine.proofs.may_conflict_of.Goals as goal

pub may_conflict-may_conflict-requires : goal.may_conflict-may_conflict-requires
may_conflict-may_conflict-requires c =
    let P = rw (c.programs.ensures.table, c.found.ensures.found) at c.performed-performed.ensures in
    let known = readable c.args.s.now c.actions.ensures.accepted P in
    (search rules, rw (c.formulas.ensures.table, c.effects.ensures.table, c.actions.ensures.table) known)

pub returns : goal.returns
returns c =
    let P = rw (c.programs.ensures.table, c.found.ensures.found) at c.performed-performed.ensures in
    listed_may_conflict c.args.s.now c.actions.ensures.accepted P
    (rw (c.formulas.ensures.table, c.effects.ensures.table, c.actions.ensures.table) at c.may_conflict-may_conflict.ensures) c.listed.ensures
