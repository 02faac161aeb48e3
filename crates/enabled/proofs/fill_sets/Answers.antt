-- The table is filled upwards, by the laws of Filling: each turn puts the sets of a record, right in whatever state is seen so.
-- Assumes nothing.
use mathlib.Core.Path.{sym, ◌∙◌}
use mathlib.Core.Bool.{false≢true}
use native.Mathlib.Nat.{le_antisymm}
use native.Mathlib.Omega.{arith}
use Rattle.enabled.proofs.Filling.{readable, kept_none, known_none, finals_none, kept_more, known_more, finals_more}
use Rattle.enabled.proofs.fill_sets.Goals as goal
use Rattle.enabled.proofs.fill_sets.Goals.{then-goes, else-goes}

pub loop-i-init : goal.loop-i-init
loop-i-init c = (kept_none _, λ e. known_none, λ e. finals_none)

pub final_set-ends-requires : goal.final_set-ends-requires
final_set-ends-requires c =
    rw c.record-r.ensures.record
    (readable c.requires.ruled c.requires c.loop-i.invariant.0 (omega (arith, c.places-m.ensures)) (omega (arith, c.places-m.ensures.0)))

pub enabled_set-starts-requires : goal.enabled_set-starts-requires
enabled_set-starts-requires c =
    rw c.record-r.ensures.record
    (readable c.requires.ruled c.requires c.loop-i.invariant.0 (omega (arith, c.places-m.ensures)) (omega (arith, c.places-m.ensures.0)))

pub loop-i-preserved : goal.loop-i-preserved
loop-i-preserved c =
    let (kept, known, finals) = c.loop-i.invariant in
    let z = c.requires in
    let r = c.record-r.ensures.record in
    let few = c.places-m.ensures in
    elim c.if-goes.branch [
      | then-goes w ↦
          let put = rw w.table-is at c.put_set-in-loop-i.ensures in (
            kept_more (omega arith) (omega (arith, few)) put (kept_more (omega arith) (omega (arith, few)) w.put_set.ensures kept),
            λ e. known_more z.ruled c.args.running z.spans_known (omega (arith, few.0)) (omega (arith, few)) w.put_set.ensures put kept
                (rw r at c.final_set-ends.ensures) (rw r at w.enabled_set-starts.ensures) (known e),
            λ e. absurd (false≢true (sym e ∙ w.if-goes.true)),
          )
      | else-goes w ↦
          let put = rw w.table-is at c.put_set-in-loop-i.ensures in (
            kept_more (omega arith) (omega (arith, few)) put kept,
            λ e. absurd (false≢true (sym w.if-goes.false ∙ e)),
            λ e. finals_more z.ruled c.args.running z.spans_known (omega (arith, few.0)) (omega (arith, few)) put kept
                (rw r at c.final_set-ends.ensures) (finals e),
          )
    ]

pub returns-clause-all : goal.returns-clause-all
returns-clause-all c =
    let e = le_antisymm c.loop-i.auto.i-end c.loop-i-test.false ∙ c.places-m.ensures.0 in
    λ g. record { known = rw e at (c.loop-i.invariant.1 g); kept = c.loop-i.invariant.0 }

pub returns-clause-ends : goal.returns-clause-ends
returns-clause-ends c =
    let e = le_antisymm c.loop-i.auto.i-end c.loop-i-test.false ∙ c.places-m.ensures.0 in
    λ g. record { known = rw e at (c.loop-i.invariant.2 g); kept = c.loop-i.invariant.0 }
