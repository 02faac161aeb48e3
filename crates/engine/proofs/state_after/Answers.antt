-- A test leaves the state; an action that the sheet has is performed by its tables. Assumes nothing.
use Rattle.std.proofs.Common.{ℕ, sym, refl, ap, ◌∙◌}
use mathlib.Core.Option.{Option}
use Rattle.sheet.specs.Layout.{layout_of, effects_in, actions_in}
use Rattle.sheet.specs.declared.Layout.{Layout}
use Rattle.golog.specs.World.{says_in, after}
use Rattle.demands.specs.Decoded.{world_of}
use Rattle.state.specs.Truths.{said_by}
use Rattle.state.proofs.Performed.{perform_same}
use Rattle.engine.proofs.Codes.{is_test, is_move, action_of_code}
use Rattle.engine.proofs.Actions.{performable, conditions_below}
use Rattle.sheet.proofs.Found.{in_sheet}
use Rattle.engine.proofs.state_after.Goals as goal

pub returns-then-entry-eq-TEST : goal.returns-then-entry-eq-TEST
returns-then-entry-eq-TEST c =
    sym (ap (λ (x : Option ℕ). after (world_of c.args.s.now) x c.args.st) (is_test c.args.entry c.if-entry-eq-TEST.true))

pub perform-requires : goal.perform-requires
perform-requires c =
    let O = c.found-n.ensures.of in
    let s = c.args.s.now in
    let a = action_of_code s c.args.entry _ c.requires.known refl c.if-entry-eq-TEST.false in
    let p = performable s O.accepted c.args.entry a in
    (rw (c.effects.ensures.table, c.actions.ensures.table, ap (λ (l : Layout). l.f) O.layout_is) p, (in_sheet O).f)

pub returns : goal.returns
returns c =
    let s = c.args.s.now in
    let e = c.args.entry in
    let st = c.args.st in
    let O = c.found-n.ensures.of in
    let l = layout_of s in
    let known = action_of_code s e _ c.requires.known refl c.if-entry-eq-TEST.false in
    let is = perform_same (effects_in s l) (actions_in s l) (said_by c.args.truths.now) (says_in (world_of s) st) l.q c.requires.truths e st
    (λ h. conditions_below s O.accepted e (known.1 h)) in
    (rw (c.effects.ensures.table, c.actions.ensures.table) at c.perform.ensures)
    ∙ is ∙ sym (ap (λ (x : Option ℕ). after (world_of s) x st) (is_move e c.if-entry-eq-TEST.false))
