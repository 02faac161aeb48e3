-- The formulas of an accepted sheet name lower ones and have no placeholders, and the range of its first action lies in the table of effects and
-- names its fluents. Assumes nothing.
use Rattle.std.proofs.Common.{◌<◌, arith}
use Rattle.sheet.specs.Layout.{layout_of}
use Rattle.sheet.proofs.Accepted.{laid}
use Rattle.sheet.proofs.Lower.{lower_formulas, plain_formulas}
use Rattle.engine.proofs.Actions.{performable}
use Rattle.timed_cases.proofs.performing.perform_first.Goals as goal

pub fill_truths-requires-clause-lower_formulas : goal.fill_truths-requires-clause-lower_formulas
fill_truths-requires-clause-lower_formulas g c =
    let s = c.args.s.now in
    let accepted = c.found.ensures.of.accepted in
    rw (c.formulas.ensures.table, c.found.ensures.found) (lower_formulas s accepted, plain_formulas s accepted)

pub compare-requires : goal.compare-requires
compare-requires g c =
    let s = c.args.s.now in
    let accepted = c.found.ensures.of.accepted in
    let none = rw c.found.ensures.found at c.if-l-eq0.false in
    let some : 0 < (layout_of s).a = omega (arith, none) in
    let P = performable s accepted 0 (omega arith, λ h. some) in
    rw (c.action_at-r.ensures.record, c.actions.ensures.table, c.effects.ensures.table, c.found.ensures.found)
    (P.range (omega arith), (laid s accepted).f, P.names (omega arith))
