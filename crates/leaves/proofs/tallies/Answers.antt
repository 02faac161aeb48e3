-- The table is filled upwards, by the law of Filling: each turn puts the record's count, whatever state is seen so. The table's length
-- stands apart, since a state need not be there. Assumes nothing.
use native.Mathlib.Omega.{arith}
use lib.ListN.{length-set}
use Rattle.records.proofs.Fills.{refill_start}
use Rattle.leaves.specs.Tallies.{capped_count}
use Rattle.leaves.proofs.Filling.{next}
use Rattle.leaves.proofs.tallies.Goals as goal

pub loop-i-init : goal.loop-i-init
loop-i-init c = (c.requires.places, λ W s S. refill_start _ capped_count _)

pub loop-i-preserved : goal.loop-i-preserved
loop-i-preserved c =
    let z = c.requires in
    let (long, v) = c.loop-i.invariant in (
      simp length-set long,
      λ W s S. next W s _ z.tallyable.lower z.tallyable.plain _ (z.tallyable.finals_known W s _ S) (v W s S) (omega (arith, c.places-m.ensures.0))
          (S.each _ (omega (arith, c.places-m.ensures.0))) S.runs
          (omega arith)
          (rw c.record-r.ensures.record at c.count_at-k.ensures),
    )
