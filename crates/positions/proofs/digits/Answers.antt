-- The table is filled upwards: the digits of record i by the places filled so far are the definition's entry i. Assumes nothing.
use mathlib.Core.Path.{◌∙◌}
use mathlib.Core.List.{map-id}
use Prim.Native.Nat.{ℕ}
use native.Mathlib.Nat.{le_antisymm}
use native.Mathlib.Omega.{arith}
use Rattle.records.proofs.Fills.{start}
use Rattle.leaves.specs.Running.{records}
use Rattle.positions.specs.Levels.{digits_of}
use Rattle.positions.proofs.Levels.{filled_few, filled_more}
use Rattle.positions.proofs.digits.Goals as goal

pub loop-i-init : goal.loop-i-init
loop-i-init c = start 0 _ (λ (d : ℕ). d) 260

pub digits_over-requires : goal.digits_over-requires
digits_over-requires c =
    filled_few (records c.args.p.now) c.args.endable.now c.args.spans.now c.loop-i.invariant (omega arith)

pub loop-i-preserved : goal.loop-i-preserved
loop-i-preserved c =
    filled_more (records c.args.p.now) c.args.endable.now c.args.spans.now
    c.loop-i.invariant (omega arith) c.record-r.ensures.record c.value_in-ends.ensures c.value_in.ensures c.digits_over.ensures

pub returns : goal.returns
unfolding digits_of
returns c = let e = le_antisymm c.loop-i.auto.i-end c.loop-i-test.false ∙ c.places-m.ensures.0 in rw (← e) (c.loop-i.invariant.same ∙ simp map-id)
