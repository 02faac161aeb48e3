-- The search stands ready; what it reports of the plan asked for is the answer, by the laws of Asking. Assumes nothing.
use Rattle.std.proofs.Common.{◌≤◌, arith, length-take-le}
use Rattle.sheet.proofs.Accepted.{laid}
use Rattle.first.proofs.Asking.{asked_yes, asked_no, no_plan}
use Rattle.first.proofs.ask.Goals as goal

pub explore-o-requires : goal.explore-o-requires
explore-o-requires c =
    let p = c.requires in
    let e = length-take-le c.args.i c.args.h.entries (omega (arith, p.2.places, p.2.few, p.3)) in
    (p.0, p.1, omega (arith, p.1, (laid _ p.0.accepted).d, p.2.places), omega (arith, e, p.2.few, p.3), p.4)

pub returns-in_default : goal.returns-in_default
returns-in_default c =
    let a = c.args in
    let p = c.requires in
    let E = c.explore-o.ensures in
    let few : a.t ≤ 64 = omega (arith, p.1, (laid _ p.0.accepted).d) in
    record {
      answer = asked_no a.s.now a.t a.h a.i a.window p.3 few p.2 E.answer (no_plan c.explore-o.result c.in_default.not-Found);
      stands = E.stands;
      index = E.index;
    }

pub returns-clause-answer : goal.returns-clause-answer
returns-clause-answer c =
    let a = c.args in
    let p = c.requires in
    asked_yes a.s.now a.t a.h a.i a.window p.3 (omega (arith, p.1, (laid _ p.0.accepted).d)) p.2 c.explore-o.ensures.answer _ _ c.explore-o.auto.trace c.in-Found.is
