-- While what is known is below the rank at hand, the next window ends between them; each answer brings them nearer, by the law of Settled.
-- Assumes nothing.
use Rattle.std.proofs.Common.{refl, inl, inr, arith}
use Rattle.search.specs.declared.Window.{Window}
use Rattle.first.proofs.Settled.{narrowing_none, narrowing_inside, narrowing_on, narrowing_met}
use Rattle.first.proofs.narrow.Goals as goal
use Rattle.first.proofs.narrow.Goals.{in-Some, in-None}

pub loop-low-init : goal.loop-low-init
loop-low-init c =
    let p = c.requires in
    let e = c.rank_at-high.ensures.0 in
    (p.0, p.4, p.1, record { narrowing = narrowing_none p.3 p.2; at_most = omega (arith, e); past = λ l. omega (arith, e, l) })

pub ask-requires : goal.ask-requires
ask-requires c =
    let v = c.loop-low.invariant in (v.0, v.2.bounded, v.3.narrowing.within, narrowing_inside v.3.narrowing, v.1)

pub rank_at-requires-in-loop-low : goal.rank_at-requires-in-loop-low
rank_at-requires-in-loop-low c =
    let H = c.loop-low.invariant.3 in
    let w : Window = record { low = c.loop-low.low; high = c.loop-low.high } in
    let past = H.past (omega (arith, c.rank_at.ensures.0, c.loop-low-test.true)) in
    let nearer = narrowing_on H.narrowing w c.loop-low.invariant.2 refl past H.at_most c.ask.result {low' = c.match-ask.low} {h' = c.match-ask.best} c.ask.ensures.answer
    (elim c.match-ask.branch [
      | in-Some w ↦ inl (_, w.in-Some.is, w.best-is, w.low-is)
      | in-None w ↦ inr (w.in-None.is, w.best-is, w.low-is)
    ]) in
    nearer.0.within

pub loop-low-smaller : goal.loop-low-smaller
loop-low-smaller c =
    let H = c.loop-low.invariant.3 in
    let w : Window = record { low = c.loop-low.low; high = c.loop-low.high } in
    let past = H.past (omega (arith, c.rank_at.ensures.0, c.loop-low-test.true)) in
    let nearer = narrowing_on H.narrowing w c.loop-low.invariant.2 refl past H.at_most c.ask.result {low' = c.match-ask.low} {h' = c.match-ask.best} c.ask.ensures.answer
    (elim c.match-ask.branch [
      | in-Some w ↦ inl (_, w.in-Some.is, w.best-is, w.low-is)
      | in-None w ↦ inr (w.in-None.is, w.best-is, w.low-is)
    ]) in
    nearer.1

pub loop-low-preserved : goal.loop-low-preserved
loop-low-preserved c =
    let H = c.loop-low.invariant.3 in
    let w : Window = record { low = c.loop-low.low; high = c.loop-low.high } in
    let past = H.past (omega (arith, c.rank_at.ensures.0, c.loop-low-test.true)) in
    let nearer = narrowing_on H.narrowing w c.loop-low.invariant.2 refl past H.at_most c.ask.result {low' = c.match-ask.low} {h' = c.match-ask.best} c.ask.ensures.answer
    (elim c.match-ask.branch [
      | in-Some w ↦ inl (_, w.in-Some.is, w.best-is, w.low-is)
      | in-None w ↦ inr (w.in-None.is, w.best-is, w.low-is)
    ]) in
    let e = c.rank_at-in-loop-low.ensures.0 in
    let m = c.middle-high.ensures in (
      c.ask.ensures.stands,
      c.ask.ensures.index,
      c.loop-low.invariant.2,
      record { narrowing = nearer.0; at_most = omega (arith, e, m.0); past = λ k. m.1 (omega (arith, e, k)) },
    )

pub returns-clause-answer : goal.returns-clause-answer
returns-clause-answer c = narrowing_met c.loop-low.invariant.3.narrowing (omega (arith, c.rank_at.ensures.0, c.loop-low-test.false))
