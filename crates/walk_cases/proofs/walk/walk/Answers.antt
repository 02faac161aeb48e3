-- Each transition goes on from the survey's cursor (Making), so that what it leaves stands in the next frame. Assumes nothing.
use Rattle.std.proofs.Common.{◌≤◌, arith, ap, ◌∙◌}
use Rattle.sheet.specs.declared.Layout.{Layout}
use Rattle.walk_cases.proofs.Making.{first_goes_on}
use Rattle.walk_cases.proofs.walk.walk.Goals as goal

pub make-requires : goal.make-requires
make-requires g c =
    let F = c.loop-d.invariant.2.3 in
    let e = ap (λ (l : Layout). l.d) c.found-bound.ensures.of.layout_is in (
      c.tell.ensures.tables,
      first_goes_on F (omega (arith, c.loop-d.invariant.2.1, e, c.loop-d-test.true)) (c.in_ok-k.ensures.answer _ _ F),
    )

pub loop-d-preserved : goal.loop-d-preserved
loop-d-preserved g c =
    let F = c.loop-d.invariant.2.3 in
    let e = ap (λ (l : Layout). l.d) c.found-bound.ensures.of.layout_is in
    let l : 1 ≤ c.loop-d.invariant.2.0 = omega (arith, c.loop-d.invariant.2.1, e, c.loop-d-test.true) in
    let one = first_goes_on F l (c.in_ok-k.ensures.answer _ _ F) in
    let M = c.in-Some.ensures.answer one in (
      c.in-Some.ensures.places ∙ c.loop-d.invariant.0,
      c.tell.ensures.tables.prepared,
      (one.left, omega (arith, c.loop-d.invariant.2.1, l), M.0, M.1),
    )
