-- The list and what the formulas say stand in the tables. Assumes nothing.
use Rattle.engine.proofs.conflicted_at.Goals as goal

pub in_conflict-requires : goal.in_conflict-requires
in_conflict-requires c =
    let known = c.requires.may_conflict.known in
    rw (c.effects.ensures.table, c.actions.ensures.table) known

pub returns : goal.returns
returns c =
    rw (c.effects.ensures.table, c.actions.ensures.table, c.truths_at.ensures) at c.in_conflict.ensures
