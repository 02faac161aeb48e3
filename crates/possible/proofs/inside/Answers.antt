-- Up to number i those environments are taken out in which an effect strays; one whose byte is a value does so in none. Assumes nothing.
use Prim.Native.Nat.{◌+◌, ◌-◌}
use mathlib.Core.Path.{◌≡◌, sym, ap, ◌∙◌}
use native.Mathlib.Omega.{arith}
use Rattle.records.specs.Records.{effect_at}
use Rattle.possible.specs.Possible.{GivesValue}
use Rattle.possible.proofs.Straying.{value_stays, staying_none, staying_more}
use borrow.Author.Rules.{rules}
use Rattle.possible.proofs.inside.Goals as goal
use Rattle.possible.proofs.inside.Goals.{then-effect-ge-CHOICES, else-effect-ge-CHOICES}

pub loop-i-init : goal.loop-i-init
loop-i-init c =
    let none : c.args.first - c.args.first ≡ 0 = omega arith in
    rw none (staying_none _ _ _ _ _ (search rules))

pub loop-i-preserved : goal.loop-i-preserved
loop-i-preserved c =
    let v = c.loop-i.invariant in
    let first = c.args.first in
    let e = c.effect_at-effect.ensures.record in
    let here : first + (c.loop-i.i - first) ≡ c.loop-i.i = omega arith in
    let next : c.loop-i.i + 1 - first ≡ c.loop-i.i - first + 1 = omega arith in
    let is = e ∙ ap (effect_at c.args.effects.now) (sym here) in
    let gives : GivesValue c.args.fluents.now c.effect_at-effect.result = rw e (c.requires.1 _ (omega arith) (omega arith)) in
    elim c.if-effect-ge-CHOICES.branch [
      | then-effect-ge-CHOICES w ↦ rw (w.left-is, next) (staying_more _ _ _ _ _ _ v is (omega (arith, here)) w.staying-less.ensures)
      | else-effect-ge-CHOICES w ↦ rw (w.left-is, next) (staying_more _ _ _ _ _ _ v is (omega (arith, here)) (value_stays _ _ _ gives v.has.len w.if-effect-ge-CHOICES.false))
    ]
