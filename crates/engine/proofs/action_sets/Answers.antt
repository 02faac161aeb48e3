-- The sets are those of the sheet's actions, by the law of Named. Assumes nothing.
use Rattle.sheet.proofs.Accepted.{laid}
use Rattle.engine.proofs.Named.{ranged, actions_named}
use Rattle.engine.proofs.action_sets.Goals as goal

pub action_sets-requires : goal.action_sets-requires
action_sets-requires c =
    let s = c.args.s.now in
    let O = c.actions.ensures.accepted in
    rw (c.effects.ensures.table, c.actions.ensures.table, c.found.ensures.found) ((laid s O).a, ranged s O)

pub returns : goal.returns
returns c =
    actions_named c.args.s.now c.actions.ensures.accepted c.args.sets.now c.requires
    (rw (c.effects.ensures.table, c.actions.ensures.table, c.found.ensures.found) at c.action_sets.ensures)
