-- The table of heights is filled upwards, by the law of Fills; the last entry is the root's. Assumes nothing.
use mathlib.Core.Path.{◌≡◌, ap, ◌∙◌}
use Prim.Native.Nat.{ℕ}
use native.Mathlib.Nat.{le_antisymm}
use native.Mathlib.Omega.{arith}
use Rattle.records.specs.Table.{up_to}
use Rattle.records.specs.declared.Program.{Program}
use Rattle.records.specs.Records.{program_at}
use Rattle.records.proofs.Fills.{start, at, more, up_at}
use Rattle.kinds.specs.Programs.{links}
use Rattle.height.specs.Height.{height_at, height_over, rise}
use Rattle.height.proofs.Heights.{heights_le}
use Rattle.height.proofs.Links.{over_same}
use Rattle.height.proofs.height.Goals as goal

pub loop-i-init : goal.loop-i-init
loop-i-init c = start _ _ _ _

pub height_over-requires : goal.height_over-requires
height_over-requires c j = omega (arith, at _ _ _ _ c.loop-i.invariant j, heights_le (program_at c.args.t.now) c.loop-i.i j)

pub loop-i-preserved : goal.loop-i-preserved
unfolding height_at
loop-i-preserved c =
    let p = program_at c.args.t.now in
    let h = c.loop-i.h in
    let i = c.loop-i.i in
    let b = c.loop-i.invariant in
    let read : c.height_over.result ≡ height_over h (links (p i)) = c.height_over.ensures ∙ ap (λ (r : Program). height_over h (links r)) c.program_at.ensures.record in
    more 0 (height_at p) (λ (x : ℕ). x) 256 b (omega arith) (read ∙ over_same h (up_to (height_at p) i) (at 0 (height_at p) (λ (x : ℕ). x) 256 b) (links (p i)))

pub returns : goal.returns
unfolding rise
returns c =
    let e = le_antisymm c.loop-i.auto.i-end c.loop-i-test.false in
    at _ _ _ _ c.loop-i.invariant _ ∙ up_at 0 _ _ _ (omega (arith, e))
