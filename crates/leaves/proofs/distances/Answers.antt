-- The table is filled upwards: the distance of record i by the places filled so far is the definition's entry i. Assumes nothing.
use mathlib.Core.Path.{◌∙◌}
use mathlib.Core.List.{map-id}
use Prim.Native.Nat.{ℕ}
use native.Mathlib.Nat.{le_antisymm}
use native.Mathlib.Omega.{arith}
use Rattle.records.proofs.Fills.{start, at, more}
use Rattle.leaves.specs.Distances.{distances_of}
use Rattle.leaves.proofs.Measuring.{distance_same}
use Rattle.leaves.proofs.distances.Goals as goal

pub loop-i-init : goal.loop-i-init
loop-i-init c = start 0 _ (λ (d : ℕ). d) 260

pub loop-i-preserved : goal.loop-i-preserved
loop-i-preserved c =
    let b = c.loop-i.invariant in
    let e = rw c.record-r.ensures.record at c.distance_by.ensures ∙ distance_same _ _ _ (at _ _ _ _ b) in
    more _ _ _ _ b (omega arith) (omega (arith, e, c.min.ensures))

pub returns : goal.returns
unfolding distances_of
returns c =
    let e = le_antisymm c.loop-i.auto.i-end c.loop-i-test.false ∙ c.places-m.ensures.0 in
    rw (← e) (c.loop-i.invariant.same ∙ simp map-id)
