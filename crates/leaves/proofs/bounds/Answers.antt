-- The table is filled upwards: the mark of record i by the places filled so far is the definition's entry i. Assumes nothing.
use mathlib.Core.Path.{◌∙◌}
use mathlib.Core.Bool.{Bool, true}
use mathlib.Core.List.{map-id}
use native.Mathlib.Nat.{le_antisymm}
use native.Mathlib.Omega.{arith}
use Rattle.records.proofs.Fills.{start, at, more}
use Rattle.leaves.specs.Endable.{final_bounds_of}
use Rattle.leaves.proofs.Marking.{bound_same}
use Rattle.leaves.proofs.bounds.Goals as goal

pub loop-i-init : goal.loop-i-init
loop-i-init c = start true _ (λ (b : Bool). b) 260

pub loop-i-preserved : goal.loop-i-preserved
loop-i-preserved c =
    let b = c.loop-i.invariant in
    more _ _ _ _ b (omega arith) (rw c.record-r.ensures.record at c.final_bound_by.ensures ∙ bound_same _ _ _ _ (at _ _ _ _ b))

pub returns : goal.returns
unfolding final_bounds_of
returns c =
    let e = le_antisymm c.loop-i.auto.i-end c.loop-i-test.false ∙ c.places-m.ensures.0 in
    rw (← e) (c.loop-i.invariant.same ∙ simp map-id)
