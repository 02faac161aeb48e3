-- The one action is looked at, whose range lies in the sheet's tables. Assumes nothing.
use Rattle.std.proofs.Common.{false, replicate, ◌∙◌, arith, get_or-set_same}
use Rattle.sheet.proofs.Accepted.{laid}
use Rattle.engine.proofs.Conflicting.{listed_at}
use Rattle.engine.proofs.only_conflicted.Goals as goal

pub action_at-r-requires : goal.action_at-r-requires
action_at-r-requires c =
    omega (arith, c.requires.1, c.actions.ensures.long)

pub is_in_conflict-requires : goal.is_in_conflict-requires
is_in_conflict-requires c =
    let (small, p) = listed_at c.args.s.now c.actions.ensures.accepted c.args.a c.requires.1 in
    rw (c.effects.ensures.table, c.action_at-r.ensures.record, c.actions.ensures.table) (p.range (omega arith), p.names (omega arith))

pub bounds-conflicted-a : goal.bounds-conflicted-a
bounds-conflicted-a c =
    omega (arith, c.requires.1, (laid _ c.actions.ensures.accepted).a)

pub returns : goal.returns
returns c =
    get_or-set_same (replicate 64 false) c.args.a _ false (omega (arith, c.requires.1, (laid _ c.actions.ensures.accepted).a))
    ∙ (rw (c.effects.ensures.table, c.truths_at.ensures, c.action_at-r.ensures.record, c.actions.ensures.table) at c.is_in_conflict.ensures)
