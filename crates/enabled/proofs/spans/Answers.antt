-- The table is filled upwards: what each record lists, by what the records see, is the definition's entry. Assumes nothing.
use mathlib.Core.Path.{◌∙◌}
use mathlib.Core.List.{map-id}
use Prim.Native.Nat.{ℕ}
use native.Mathlib.Nat.{le_antisymm}
use native.Mathlib.Omega.{arith}
use Rattle.records.proofs.Fills.{start, more}
use Rattle.enabled.specs.Spans.{spans_of}
use Rattle.enabled.proofs.spans.Goals as goal

pub loop-i-init : goal.loop-i-init
loop-i-init c = start 0 _ (λ (k : ℕ). k) 260

pub loop-i-preserved : goal.loop-i-preserved
loop-i-preserved c =
    more _ _ _ _ c.loop-i.invariant (omega arith) (rw (c.record-r.ensures.record, c.seeing-first.ensures, c.seeing-second.ensures) at c.span_by.ensures)

pub returns : goal.returns
unfolding spans_of
returns c =
    let e = le_antisymm c.loop-i.auto.i-end c.loop-i-test.false ∙ c.places-m.ensures.0 in
    rw (← e) (rw (← e) at c.loop-i.invariant.same ∙ simp map-id)
