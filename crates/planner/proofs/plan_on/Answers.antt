-- The stages in rising order; then what is reported of the verdict is planning's answer and trace, and work and index are cleared. Assumes nothing.
use Prim.Native.Nat.{◌≤◌}
use native.Mathlib.Omega.{arith}
use mathlib.Core.Path.{sym, ◌∙◌, ap}
use lib.ListN.{length}
use lib.Seq.{length-take-le}
use Rattle.std.specs.Prelude.{Err}
use Rattle.sheet.specs.declared.Layout.{Layout}
use Rattle.sheet.proofs.Found.{answered}
use Rattle.demands.specs.Decoded.{bound_of}
use Rattle.planner.proofs.Demands.{ten, eleven, plan_cleared}
use Rattle.planner.proofs.Reported.{planning, cleared}
use Rattle.planner.proofs.plan_on.Goals as goal

pub returns-then-trace-found : goal.returns-then-trace-found
returns-then-trace-found c =
    let O = c.found-found.ensures.of in
    let e = ap (λ (l : Layout). l.d) O.layout_is in
    let r = ten _ _ _ (answered O) c.args.work.now c.args.trace.now (omega (arith, e, c.if-trace-found.true)) c.args.index.now in
    record {
      answer = ap Err c.from.ensures ∙ sym r.0;
      trace = sym r.1;
      work = sym r.2;
      index = sym r.3;
    }

pub returns-then-work-words : goal.returns-then-work-words
returns-then-work-words c =
    let O = c.found-found.ensures.of in
    let e = ap (λ (l : Layout). l.d) O.layout_is in
    let r = eleven _ _ _ (answered O) c.args.work.now c.if-work-words.true c.args.trace.now c.args.index.now
    (omega (arith, e, c.if-trace-found.false)) in
    record {
      answer = ap Err c.from-then-work-words.ensures ∙ sym r.0;
      trace = sym r.1;
      work = sym r.2;
      index = sym r.3;
    }

pub plan-requires : goal.plan-requires
plan-requires c =
    let O = c.found-found.ensures.of in
    let e = ap (λ (l : Layout). l.d) O.layout_is in
    (length-take-le c.found-found.result.words c.args.work.now c.if-work-words.false ∙ O.words_are, omega (arith, e, c.if-trace-found.false))

pub returns : goal.returns
returns c =
    let s = c.args.s.now in
    let w = c.found-found.result.words in
    let work = c.args.work.now in
    let trace = c.args.trace.now in
    let O = c.found-found.ensures.of in
    let p = answered O in
    let e = ap (λ (l : Layout). l.d) O.layout_is in
    let long : bound_of s ≤ length trace = omega (arith, e, c.if-trace-found.false) in
    let r = planning s w _ p work trace c.if-work-words.false long c.plan.new.trace c.plan.result c.plan.ensures.answer in
    let q = plan_cleared s w _ p work c.if-work-words.false trace long c.args.index.now in
    record {
      answer = c.answer_of.ensures ∙ r.0;
      trace = r.1;
      work = cleared w work _ c.plan.ensures.work c.if-work-words.false ∙ sym q.0;
      index = c.plan.ensures.index ∙ sym q.1;
    }
