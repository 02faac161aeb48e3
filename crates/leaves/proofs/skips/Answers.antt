-- The table is filled downwards, by the law of Skipping: a record in doubt is the first from itself on, another leaves the one from the
-- next on. Assumes nothing.
use mathlib.Core.Path.{◌≡◌, sym, ◌∙◌}
use mathlib.Core.Logic.{inl, inr}
use native.Mathlib.Omega.{arith}
use lib.ListN.{length-set, length-replicate}
use Rattle.leaves.proofs.Skipping.{none, more, all}
use Rattle.leaves.proofs.skips.Goals as goal
use Rattle.leaves.proofs.skips.Goals.{then-doubt_at, else-doubt_at}

pub loop-i-init : goal.loop-i-init
loop-i-init c = (length-replicate 261 c.places-m.result, none)

pub loop-i-preserved : goal.loop-i-preserved
loop-i-preserved c =
    let (long, v) = c.loop-i.invariant in
    let d = c.doubt_at.ensures in (
      simp length-set long,
      more (omega arith) (omega arith) (omega arith) v (elim c.if-doubt_at.branch [
        | then-doubt_at w ↦ inl (sym d ∙ w.if-doubt_at.true, w.first-is)
        | else-doubt_at w ↦ inr (sym d ∙ w.if-doubt_at.false, w.first-is)
      ]),
    )

pub returns : goal.returns
returns c =
    let (long, v) = c.loop-i.invariant in
    let e = c.places-m.ensures.0 in
    let z : c.loop-i.i ≡ 0 = omega arith in
    rw (← e) (all _ _ _ (omega arith) long (rw (z, c.bounds-sure.ensures, ← e) at v))
