-- Up to number i what each fluent was given is noted, in whatever table the effects read so stand. Assumes nothing.
use Prim.Native.Nat.{ℕ, ◌+◌}
use mathlib.Core.Path.{◌≡◌, refl, sym, ap, ◌∙◌}
use mathlib.Core.Bool.{true, false}
use native.Mathlib.Omega.{arith}
use borrow.Author.Rules.{rules}
use lib.ListN.{get_or}
use Rattle.std.proofs.lemmas.List.{map-set}
use Rattle.std.specs.Prelude.{None}
use Rattle.records.specs.declared.Effect.{Effect}
use Rattle.state.specs.Conflicts.{differs}
use Rattle.state.proofs.Noting.{code, differs_code, noted_none, noted_passed, noted_more, noted_other, noted_all}
use Rattle.state.proofs.effects.conflict.Goals as goal
use Rattle.state.proofs.effects.conflict.Goals.{then-holds+else-is_some_and, else-holds}

pub loop-i-init : goal.loop-i-init
loop-i-init g c says table R = noted_none _ _ _

pub returns-then-is_some_and : goal.returns-then-is_some_and
returns-then-is_some_and g c says table R =
    let e = c.effect_at-condition.ensures.record in
    let h = rw e at c.holds.ensures in
    let m = rw e at c.meant-given.ensures in
    let other : differs (code (get_or c.loop-i.noted c.effect_at-condition.result.fluent None)) (c.meant-given.result + 1) ≡ true = search rules in
    sym (noted_other says table c.args.first (c.loop-i.invariant says table R) refl (R.condition c.loop-i.i (omega arith) (omega arith) _ h) (omega arith) c.if-holds.true
    (ap (λ (r : Effect). r.fluent) e ∙ R.fluent c.loop-i.i (omega arith) (omega arith))
    (ap (λ (v : ℕ). v + 1) (R.value c.loop-i.i (omega arith) (omega arith) _ m)) _ (omega arith) (differs_code c.loop-i.noted _ _ ∙ other))

pub loop-i-preserved : goal.loop-i-preserved
loop-i-preserved g c says table R =
    let N = c.loop-i.invariant says table R in
    let e = c.effect_at-condition.ensures.record in
    let n = c.requires.range.1 c.loop-i.i (omega arith) (omega arith) in
    let h = rw e at c.holds.ensures in
    let f = R.condition c.loop-i.i (omega arith) (omega arith) _ h in
    elim c.if-holds.branch [
      | then-holds+else-is_some_and w ↦
          let m = rw e at w.meant-given.ensures in
          let same : differs (code (get_or c.loop-i.noted c.effect_at-condition.result.fluent None)) (w.meant-given.result + 1) ≡ false = search rules in
          rw (w.noted-is, map-set) (noted_more says table c.args.first N refl f (omega arith) w.if-holds.true
          (ap (λ (r : Effect). r.fluent) e ∙ R.fluent c.loop-i.i (omega arith) (omega arith))
          (ap (λ (v : ℕ). v + 1) (R.value c.loop-i.i (omega arith) (omega arith) _ m)) (rw e n) (differs_code c.loop-i.noted _ _ ∙ same))
      | else-holds w ↦ rw w.noted-is (noted_passed says table c.args.first N refl f w.if-holds.false)
    ]

pub returns : goal.returns
returns g c says table R = sym (noted_all _ _ _ (c.loop-i.invariant says table R) _ (omega arith))
