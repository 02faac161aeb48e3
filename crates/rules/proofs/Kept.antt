-- The test of a fluent, an effect and an action is true exactly where the record keeps its rule. Assumes nothing.
use mathlib.Core.Path.{◌≡◌}
use mathlib.Core.Bool.{true}
use mathlib.Core.Logic.{◌↔◌}
use Prim.Native.Nat.{ℕ}
use borrow.Author.Tests.{leb-true, ltb-true, le-leb, lt-ltb}
use lib.Dec.{leb, ltb}
use Rattle.records.proofs.Truth.{and_left, and_right, and_three}
use Rattle.rules.specs.Rules.{fluent_ok, effect_ok, action_ok}
use Rattle.rules.specs.Kept.{FluentRule, EffectRule, ActionRule}
use Rattle.records.specs.declared.Fluent.{Fluent}
use Rattle.records.specs.declared.Effect.{Effect}
use Rattle.records.specs.declared.Action.{Action}

pub fluent_exactly : (r : Fluent) → (fluent_ok r ≡ true) ↔ FluentRule r
unfolding fluent_ok
fluent_exactly r = (
  λ e. let t = and_three (leb 1 r.size) (leb r.size 16) (ltb r.initial r.size) e in (leb-true _ _ t.0, leb-true _ _ t.1, ltb-true _ _ t.2),
  λ (l, m, h). simp (le-leb _ _ l, le-leb _ _ m, lt-ltb _ _ h),
)

pub effect_exactly : (nf nq size : ℕ) (r : Effect) → (effect_ok nf nq size r ≡ true) ↔ EffectRule nf nq size r
unfolding effect_ok
effect_exactly nf nq size r = (
  λ e. let t = and_three (ltb r.condition nq) (ltb r.fluent nf) (ltb r.value size) e in (ltb-true _ _ t.0, ltb-true _ _ t.1, ltb-true _ _ t.2),
  λ (l, m, h). simp (lt-ltb _ _ l, lt-ltb _ _ m, lt-ltb _ _ h),
)

pub action_exactly : (nq ne : ℕ) (r : Action) → (action_ok nq ne r ≡ true) ↔ ActionRule nq ne r
unfolding action_ok
action_exactly nq ne r = (
  λ e. (ltb-true _ _ (and_left _ _ e), leb-true _ _ (and_right (ltb r.precondition nq) _ e)),
  λ (l, m). simp (lt-ltb _ _ l, le-leb _ _ m),
)
