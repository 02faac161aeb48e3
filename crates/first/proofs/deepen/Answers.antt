-- At each bound the search stands ready and the bounds below are tried; the next one is higher, and at most D. Assumes nothing.
use Rattle.std.proofs.Common.{◌≡◌, suc, sym, ap, ◌∙◌, subst, add-one, arith}
use Rattle.sheet.specs.declared.Layout.{Layout}
use Rattle.sheet.proofs.Accepted.{laid}
use Rattle.demands.specs.Decoded.{bound_of}
use Rattle.first.proofs.Deepened.{Tried, tried_none, tried_on, tried_out, all_tried}
use Rattle.first.proofs.deepen.Goals as goal

pub loop-low-init : goal.loop-low-init
loop-low-init c =
    let p = c.requires in
    let e = ap (λ (l : Layout). l.d) c.found-d.ensures.of.layout_is in
    (p.0, p.2, record { bound = e; room = omega (arith, e, p.1); tried = tried_none c.args.s.now; inside = omega arith })

pub surveys-begun-requires : goal.surveys-begun-requires
surveys-begun-requires c = c.loop-low.invariant.0.prepared.numbers_long

pub explore-o-requires : goal.explore-o-requires
explore-o-requires c =
    let v = c.loop-low.invariant in
    let few = c.next_bound-t.ensures.1 in
    (v.0, omega (arith, few, v.2.bound), omega (arith, few, v.2.room), omega arith, v.1)

pub lower-requires : goal.lower-requires
lower-requires c =
    let B = c.loop-low.invariant.2 in
    let few = c.next_bound-t.ensures.1 in
    let stops = sym c.is_more.ensures ∙ c.if-not-is_more.true in
    let out = tried_out B.tried c.next_bound-t.result (omega (arith, few, B.bound)) c.explore-o.ensures.answer (omega (arith, few, B.room)) stops in
    (c.explore-o.ensures.stands, omega (arith, c.explore-o.auto.trace, B.bound, B.room), out, c.explore-o.ensures.index)

pub surveys-requires : goal.surveys-requires
surveys-requires c = c.explore-o.ensures.stands.prepared.numbers_long

pub overflow_add-low : goal.overflow_add-low
overflow_add-low c =
    let v = c.loop-low.invariant in omega (arith, v.2.bound, (laid _ v.0.accepted).d, c.next_bound-t.ensures.1)

pub loop-low-preserved : goal.loop-low-preserved
loop-low-preserved c =
    let B = c.loop-low.invariant.2 in
    let t = c.next_bound-t.result in
    let few = c.next_bound-t.ensures.1 in
    let on = tried_on B.tried t (omega (arith, few, B.bound)) c.explore-o.ensures.answer (sym c.is_more.ensures ∙ c.if-not-is_more.false) in (
      c.explore-o.ensures.stands,
      c.explore-o.ensures.index,
      record {
        bound = B.bound;
        room = omega (arith, c.explore-o.auto.trace, B.room);
        tried = subst (Tried c.args.s.now) (sym (add-one t)) on;
        inside = omega (arith, few);
      },
    )

pub returns-clause-answer : goal.returns-clause-answer
returns-clause-answer c =
    let B = c.loop-low.invariant.2 in
    let e : c.loop-low.low ≡ suc (bound_of c.args.s.now) = omega (arith, B.bound, B.inside, c.loop-low-test.false) in
    all_tried c.loop-low.best (subst (Tried c.args.s.now) e B.tried)
