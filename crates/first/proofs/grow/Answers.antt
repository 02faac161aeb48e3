-- One entry more is settled at each turn, and there are at most 64. Assumes nothing.
use Rattle.std.proofs.Common.{arith}
use Rattle.first.proofs.Settled.{settled_first}
use Rattle.first.proofs.grow.Goals as goal

pub loop-settled-init : goal.loop-settled-init
loop-settled-init c = let p = c.requires in (p.0, p.3, p.1, p.2, omega arith)

pub narrow-best-requires : goal.narrow-best-requires
narrow-best-requires c = let v = c.loop-settled.invariant in (v.0, v.2, v.3, omega arith, v.1)

pub loop-settled-smaller : goal.loop-settled-smaller
loop-settled-smaller c = omega (arith, c.loop-settled.invariant.3.within.few, c.loop-settled-test.true)

pub loop-settled-preserved : goal.loop-settled-preserved
loop-settled-preserved c =
    let v = c.loop-settled.invariant in
    let E = c.narrow-best.ensures in
    (E.stands, E.index, v.2, E.answer, omega (arith, v.3.within.few, c.loop-settled-test.true))

pub returns-clause-answer : goal.returns-clause-answer
returns-clause-answer c = let v = c.loop-settled.invariant in (v.3.within, settled_first v.2 v.3 c.loop-settled-test.false)
