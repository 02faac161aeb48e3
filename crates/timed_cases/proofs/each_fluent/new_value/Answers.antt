-- Up to number i no effect changes the fluent, so that what the rest of the range gives is what the whole range gives; the loop is left
-- at the first effect that does, or at the range's end. Assumes nothing.
use native.Mathlib.Omega.{arith}
use Rattle.state.proofs.Performed.{passed_none, passed_more, passed_found, passed_all}
use Rattle.timed_cases.proofs.each_fluent.new_value.Goals as goal

pub effects-init : goal.effects-init
effects-init c = passed_none _ _ _ _ _ _

pub effects-preserved : goal.effects-preserved
effects-preserved c =
    passed_more _ _ _ _ c.effects.invariant (omega arith) c.effect_at-e.ensures.record c.changes_value.ensures
    c.if-changes_value.false

pub returns-after-effects : goal.returns-after-effects
returns-after-effects c = passed_all _ _ _ _ c.effects.invariant (omega arith)

pub returns-then-changes_value : goal.returns-then-changes_value
returns-then-changes_value c =
    passed_found _ _ _ _ c.effects.invariant (omega arith) c.effect_at-e.ensures.record c.changes_value.ensures c.if-changes_value.true
