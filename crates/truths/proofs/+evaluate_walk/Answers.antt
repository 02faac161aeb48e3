-- Evaluation by the parts of a formula, and a walk by its last value and those below: lower formulas, then values left. Assumes nothing.
use native.Mathlib.Omega.{arith}
use Rattle.std.proofs.lemmas.Grind.{common_steps}
use Rattle.sets.proofs.Members.{has_by}
use Rattle.truths.specs.Evaluated.{said_in}
use Rattle.truths.proofs.Said.{says}
use Rattle.truths.proofs.Walking.{walk_none, walk_every, walk_some}
use Rattle.truths.proofs.Evaluating.{evaluated}
use Rattle.truths.proofs.+evaluate_walk.Goals as goal

pub evaluate-returns-in-Some-Not : goal.evaluate-returns-in-Some-Not
unfolding said_in
evaluate-returns-in-Some-Not t c W s from v H =
    let a = c.evaluate.ensures W s from v H in
    evaluated c.requires c.formula_at-r.ensures.record W s from v
    (has_by c.others.ensures (λ e l. let x = a.each e l in grind (arith, common_steps)))

pub evaluate-returns-in-Some-And : goal.evaluate-returns-in-Some-And
unfolding said_in
evaluate-returns-in-Some-And t c W s from v H =
    let a = c.evaluate-in-Some-And.ensures W s from v H in
    let b = c.evaluate-in-Some-And-2.ensures W s from v H in
    evaluated c.requires c.formula_at-r.ensures.record W s from v
    (has_by c.both.ensures (λ e l. let x = a.each e l in let y = b.each e l in grind (arith, common_steps)))

pub evaluate-returns-in-Some-Or : goal.evaluate-returns-in-Some-Or
unfolding said_in
evaluate-returns-in-Some-Or t c W s from v H =
    let a = c.evaluate-in-Some-Or.ensures W s from v H in
    let b = c.evaluate-in-Some-Or-2.ensures W s from v H in
    evaluated c.requires c.formula_at-r.ensures.record W s from v
    (has_by c.either.ensures (λ e l. let x = a.each e l in let y = b.each e l in grind (arith, common_steps)))

pub evaluate-returns-in-Some-ForSome : goal.evaluate-returns-in-Some-ForSome
unfolding said_in
evaluate-returns-in-Some-ForSome t c W s from v H =
    evaluated c.requires c.formula_at-r.ensures.record W s from v
    (has_by (c.walk.ensures W s from v H) (λ e l. grind (arith, common_steps)))

pub evaluate-returns-in-Some-ForEvery : goal.evaluate-returns-in-Some-ForEvery
unfolding said_in
evaluate-returns-in-Some-ForEvery t c W s from v H =
    evaluated c.requires c.formula_at-r.ensures.record W s from v
    (has_by (c.walk-in-Some-ForEvery.ensures W s from v H) (λ e l. grind (arith, common_steps)))

pub evaluate-returns-in_default : goal.evaluate-returns-in_default
evaluate-returns-in_default t c W s from v H = evaluated c.requires c.formula_at-r.ensures.record W s from v
    (c.atom_set.ensures (says W s))

pub walk-returns-then-left-eq0 : goal.walk-returns-then-left-eq0
walk-returns-then-left-eq0 t c W s from v H =
    walk_none (says W s c.args.a) c.args.c c.args.every (omega (arith, c.if-left-eq0.true)) c.whole.ensures

pub walk-returns-then-every : goal.walk-returns-then-every
walk-returns-then-every t c W s from v H =
    walk_every (says W s c.args.a) c.args.c c.args.every c.args.left (omega (arith, c.if-left-eq0.false)) c.requires.2
    (c.evaluate-inner.ensures W s from v H) c.given-last.ensures (c.walk-lower.ensures W s from v H) c.if-every.true c.both.ensures

pub walk-returns : goal.walk-returns
walk-returns t c W s from v H =
    walk_some (says W s c.args.a) c.args.c c.args.every c.args.left (omega (arith, c.if-left-eq0.false)) c.requires.2
    (c.evaluate-inner.ensures W s from v H) c.given-last.ensures (c.walk-lower.ensures W s from v H) c.if-every.false c.either.ensures
