-- A plan is settled and handed out, what is no plan stays, by the laws of Told. Assumes nothing.
use Rattle.std.proofs.Common.{length}
use Rattle.sheet.proofs.Accepted.{laid}
use Rattle.first.proofs.Asking.{no_plan}
use Rattle.first.proofs.Told.{fewest_first, none_told, first_short, first_told}
use Rattle.first.proofs.settle.Goals as goal

pub returns-in_default : goal.returns-in_default
returns-in_default c = record { answer = none_told c.requires.fewest_found.0 c.args.trace.now (no_plan c.args.o c.in_default.not-Found) }

pub grow-h-requires : goal.grow-h-requires
grow-h-requires c =
    let p = c.requires in
    let start = fewest_first p.fewest_found.0 _ _ c.in-Found.is p.fewest_found.1 (laid _ p.standing.0.accepted).d in
    (p.standing.0, start.0, start.1, p.standing.2)

pub hand_out-requires : goal.hand_out-requires
hand_out-requires c =
    let E = c.grow-h.ensures.answer in
    (E.0, first_short c.args.s.now c.grow-h.result (length c.args.trace.now) E.1 E.0 c.requires.standing.1)

pub returns : goal.returns
returns c =
    let E = c.grow-h.ensures.answer in
    let l = first_short c.args.s.now c.grow-h.result (length c.args.trace.now) E.1 E.0 c.requires.standing.1 in
    record { answer = first_told c.args.s.now c.grow-h.result E.1 E.0 l c.hand_out.ensures.trace }
