-- The work is long enough or it is not; a history longer than the bound is refused; else whether it is accepted is replay's answer. The work
-- is cleared. Assumes nothing.
use native.Mathlib.Omega.{arith}
use mathlib.Core.Path.{sym, ◌∙◌, ap}
use lib.Seq.{length-take-le}
use Rattle.std.specs.Prelude.{Err}
use Rattle.sheet.specs.declared.Layout.{Layout}
use Rattle.sheet.proofs.Accepted.{laid}
use Rattle.sheet.proofs.Found.{answered}
use Rattle.planner.proofs.Demands.{eleven_reply, replay_cleared}
use Rattle.planner.proofs.Reported.{replaying, longer, cleared}
use Rattle.planner.proofs.replay_on.Goals as goal

pub returns-then-work-required : goal.returns-then-work-required
returns-then-work-required c =
    let r = eleven_reply _ _ _ (answered c.found-found.ensures.of) c.args.work.now c.if-work-required.true c.args.history.now in
    record {
      answer = ap Err c.from.ensures ∙ sym r.0;
      work = sym r.1;
    }

pub returns-then-found-history : goal.returns-then-found-history
returns-then-found-history c =
    let s = c.args.s.now in
    let w = c.found-found.result.words in
    let work = c.args.work.now in
    let O = c.found-found.ensures.of in
    let e = ap (λ (l : Layout). l.d) O.layout_is in
    record {
      answer = longer s w _ (answered O) work c.if-work-required.false c.args.history.now (omega (arith, e, c.if-found-history.true));
      work = cleared w work _ (c.fill.ensures.after (λ y e. e)) c.if-work-required.false ∙ sym (replay_cleared s w _ (answered O) work c.if-work-required.false);
    }

pub accepts-requires : goal.accepts-requires
accepts-requires c =
    let O = c.found-found.ensures.of in
    let e = ap (λ (l : Layout). l.d) O.layout_is in
    (length-take-le c.found-found.result.words c.args.work.now c.if-work-required.false ∙ O.words_are, omega (arith, e, (laid _ O.accepted).d, c.if-found-history.false))

pub returns : goal.returns
returns c =
    let s = c.args.s.now in
    let w = c.found-found.result.words in
    let work = c.args.work.now in
    let p = answered c.found-found.ensures.of in
    let r = replaying s w _ p work c.if-work-required.false c.args.history.now c.accepts.result c.accepts.ensures.answer in
    record {
      answer = r;
      work = cleared w work _ c.accepts.ensures.work c.if-work-required.false ∙ sym (replay_cleared s w _ p work c.if-work-required.false);
    }
