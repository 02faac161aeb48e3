-- The bound half way between those tried and the plan at hand: a plan of fewer transitions takes its place, or more bounds are tried, by the
-- laws of Deepened. Assumes nothing.
use Rattle.std.proofs.Common.{arith}
use Rattle.first.proofs.Asking.{no_plan}
use Rattle.first.proofs.Deepened.{lowest, lowering_found, lowering_none}
use Rattle.first.proofs.lower.Goals as goal

pub loop-tried-smaller-in-Found-explore : goal.loop-tried-smaller-in-Found-explore
loop-tried-smaller-in-Found-explore c =
    let half = c.half_way-left.ensures in
    (lowering_found c.loop-tried.invariant.2 c.half_way-left.result half.1 c.explore.ensures.answer c.explore.auto.trace half.0 _ _ c.in-Found-explore.is).1

pub loop-tried-preserved-in-Found-explore : goal.loop-tried-preserved-in-Found-explore
loop-tried-preserved-in-Found-explore c =
    let half = c.half_way-left.ensures in
    let X = lowering_found c.loop-tried.invariant.2 c.half_way-left.result half.1 c.explore.ensures.answer c.explore.auto.trace half.0 _ _ c.in-Found-explore.is in
    (c.explore.ensures.stands, c.explore.ensures.index, X.0)

pub loop-tried-preserved : goal.loop-tried-preserved
loop-tried-preserved c =
    let z = no_plan _ c.in_default-explore.not-Found in
    let X = lowering_none c.loop-tried.invariant.2 c.half_way-left.result c.half_way-left.ensures.1 c.explore.ensures.answer c.explore.auto.trace z in
    (c.explore.ensures.stands, c.explore.ensures.index, X)

pub returns-clause-answer : goal.returns-clause-answer
returns-clause-answer c = lowest c.loop-tried.invariant.2.so_far (omega (arith, c.loop-tried-test.false))
