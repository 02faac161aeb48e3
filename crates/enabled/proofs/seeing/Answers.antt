-- The table is filled upwards: what record i sees by the places filled so far is the definition's entry i. Assumes nothing.
use mathlib.Core.Path.{◌∙◌}
use mathlib.Core.Bool.{Bool, false}
use mathlib.Core.List.{map-id}
use native.Mathlib.Nat.{le_antisymm}
use native.Mathlib.Omega.{arith}
use Rattle.leaves.specs.Running.{records}
use Rattle.records.proofs.Fills.{start}
use Rattle.enabled.specs.Spans.{seeing_of}
use Rattle.enabled.proofs.Listing.{seeing_more}
use Rattle.enabled.proofs.seeing.Goals as goal

pub loop-i-init : goal.loop-i-init
loop-i-init c = start false _ (λ (b : Bool). b) 260

pub loop-i-preserved : goal.loop-i-preserved
loop-i-preserved c =
    let a = c.args in
    let p = records a.p.now in
    seeing_more p a.c c.loop-i.invariant (omega arith) c.record-r.ensures.record c.sees_by.ensures

pub returns : goal.returns
unfolding seeing_of
returns c =
    let e = le_antisymm c.loop-i.auto.i-end c.loop-i-test.false ∙ c.places-m.ensures.0 in
    rw (← e) (c.loop-i.invariant.same ∙ simp map-id)
