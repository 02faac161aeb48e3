-- Each way out is told by its law of Looking: over, or nothing later matters, or at the bound; else the verdict is that on the transitions.
-- Assumes nothing.
use native.Mathlib.Omega.{arith}
use Rattle.search.proofs.Looking.{told_over, told_last, surveyed_over, surveyed_last, surveyed_far, surveyed_on}
use Rattle.search.proofs.look.Goals as goal

pub returns-then-is_over : goal.returns-then-is_over
returns-then-is_over c =
    let E = c.is_final-end.ensures in told_over E.tables E.written c.is_over.ensures E.answer c.if-is_over.true

pub returns-then-only_final : goal.returns-then-only_final
returns-then-only_final c =
    let E = c.is_final-end.ensures in
    told_last E.tables E.written c.is_over.ensures E.answer c.if-is_over.false (c.only_final.ensures.0 c.if-only_final.true)

pub returns-then-is_over-2 : goal.returns-then-is_over-2
returns-then-is_over-2 c =
    let E = c.survey-x.ensures in surveyed_over E.tables E.written c.is_over-2.ensures E.answer c.if-is_over-2.true

pub returns-then-q-eq0 : goal.returns-then-q-eq0
returns-then-q-eq0 c =
    let E = c.survey-x.ensures in
    let z = c.if-q-eq0.true in
    rw c.unfound.ensures
    (surveyed_last E.tables E.written c.is_over-2.ensures E.answer c.if-is_over-2.false (c.only_final.ensures.1 c.if-only_final.false z) z c.is_spent.ensures)

pub returns-then-too_far : goal.returns-then-too_far
returns-then-too_far c =
    let E = c.survey-x.ensures in
    surveyed_far E.tables E.written c.is_over-2.ensures E.answer c.if-is_over-2.false (omega (arith, c.if-q-eq0.false)) (c.too_far.ensures c.if-too_far.true)

pub returns : goal.returns
returns c =
    let E = c.survey-x.ensures in
    surveyed_on E.tables E.written c.is_over-2.ensures E.answer c.if-is_over-2.false (omega (arith, c.if-q-eq0.false))
