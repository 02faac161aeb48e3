-- Up to number i the fluents noted have their new values and the others their old ones, in whatever table the effects read so stand. Assumes nothing.
use Prim.Native.Nat.{ℕ, ◌<◌}
use mathlib.Core.Path.{◌≡◌, refl, sym, ap, ◌∙◌}
use mathlib.Core.Bool.{false}
use native.Mathlib.Omega.{arith}
use borrow.Author.Rules.{rules}
use borrow.Author.Tests.{not-true}
use lib.ListN.{length, get_or, length-set}
use Rattle.records.specs.declared.Effect.{Effect}
use Rattle.records.specs.Records.{effect_at}
use Rattle.records.proofs.Truth.{and_right}
use Rattle.state.proofs.Giving.{unset_all, unset_more, giving_none, giving_passed, giving_more, giving_all, giving_done}
use Rattle.state.proofs.effects.new_values.Goals as goal
use Rattle.state.proofs.effects.new_values.Goals.{then-holds-given+else-left-eq0, else-holds-given}

same_effect : (d : Effect) {x v : ℕ} → x ≡ d.fluent → v ≡ d.value → record { condition = d.condition; fluent = x; value = v } ≡ d
same_effect d p q i = record { condition = d.condition; fluent = p i; value = q i }

pub loop-i-init : goal.loop-i-init
loop-i-init g c = (search rules, search rules, sym (unset_all 32 _), λ says table R. giving_none _ _ _ _ _ _)

pub overflow_sub-left : goal.overflow_sub-left
overflow_sub-left g c =
    let x = c.effect_at-e.result.fluent in
    let below : x < c.args.n = rw c.effect_at-e.ensures.record (c.requires.range.2 _ (omega arith) (omega arith)) in
    let free : get_or c.loop-i.given x false ≡ false = not-true _ (and_right c.holds.result _ c.if-holds-given.true) in
    omega (arith, c.loop-i.invariant.2, unset_more c.loop-i.given x (omega (arith, c.loop-i.invariant.1, c.requires.range.1)) c.args.n below free)

pub returns-then-left-eq0 : goal.returns-then-left-eq0
returns-then-left-eq0 g c says table R =
    let e = c.effect_at-e.ensures.record in
    let i = c.loop-i.i in
    let below : c.effect_at-e.result.fluent < c.args.n = rw e (c.requires.range.2 _ (omega arith) (omega arith)) in
    let h = rw e at c.holds.ensures in
    let m = rw e at c.meant.ensures in
    let d = effect_at table i in
    let more = giving_more _ _ _ _ _ _ (c.loop-i.invariant.3 says table R) (omega arith)
    (same_effect d (ap (λ (r : Effect). r.fluent) e ∙ R.fluent i (omega arith) (omega arith)) (R.value i (omega arith) (omega arith) _ m))
    (R.condition i (omega arith) (omega arith) _ h) c.if-holds-given.true below c.requires.range.1 c.loop-i.invariant.0 in
    giving_done _ _ _ _ _ _ more _ refl refl c.if-left-eq0.true (λ j f l. omega (arith, R.fluent j f l, c.requires.range.2 j f l))

pub loop-i-preserved : goal.loop-i-preserved
loop-i-preserved g c =
    let x = c.effect_at-e.result.fluent in
    let e = c.effect_at-e.ensures.record in
    let i = c.loop-i.i in
    let v = c.loop-i.invariant in
    let below : x < c.args.n = rw e (c.requires.range.2 _ (omega arith) (omega arith)) in
    let inside : x < length c.loop-i.given = omega (arith, v.1, c.requires.range.1) in
    let h = rw e at c.holds.ensures in
    elim c.if-holds-given.branch [
      | then-holds-given+else-left-eq0 w ↦
          let m = rw e at w.meant.ensures in
          let free : get_or c.loop-i.given x false ≡ false = not-true _ (and_right c.holds.result _ w.if-holds-given.true) in
          rw (w.given-is, w.new-is, w.left-is) (
            v.0,
            length-set c.loop-i.given x _ ∙ v.1,
            omega (arith, v.2, unset_more c.loop-i.given x inside c.args.n below free),
            λ says table R. giving_more _ _ _ _ _ _ (v.3 says table R) (omega arith)
                (same_effect (effect_at table i) (ap (λ (r : Effect). r.fluent) e ∙ R.fluent i (omega arith) (omega arith)) (R.value i (omega arith) (omega arith) _ m))
                (R.condition i (omega arith) (omega arith) _ h) w.if-holds-given.true below c.requires.range.1 v.0,
          )
      | else-holds-given w ↦ rw (w.given-is, w.new-is, w.left-is) (
        v.0,
        v.1,
        v.2,
        λ says table R. giving_passed _ _ _ _ _ _ (v.3 says table R) (omega arith)
            (same_effect (effect_at table i) (ap (λ (r : Effect). r.fluent) e ∙ R.fluent i (omega arith) (omega arith)) refl)
            (R.condition i (omega arith) (omega arith) _ h) w.if-holds-given.false,
      )
    ]

pub returns : goal.returns
returns g c says table R = giving_all _ _ _ _ _ _ (c.loop-i.invariant.3 says table R) _ refl refl (omega arith)
