-- The search stands ready at the first configuration, throughout, with an index that says nothing at first; what is settled is the verdict on
-- the sheet. Assumes nothing.
use Rattle.std.proofs.Common.{refl}
use Rattle.sheet.proofs.Accepted.{laid}
use Rattle.engine.proofs.Tables.{blank}
use Rattle.explored.proofs.Recalling.{nothing_noted}
use Rattle.first.proofs.plan.Goals as goal

pub stand-requires-clause-flags_len : goal.stand-requires-clause-flags_len
stand-requires-clause-flags_len c = (refl, refl, blank)

pub deepen-o-requires : goal.deepen-o-requires
deepen-o-requires c =
    (c.stand.ensures.stands, (laid _ c.stand.ensures.stands.accepted).d, nothing_noted c.args.s.now _ c.begin.ensures)
