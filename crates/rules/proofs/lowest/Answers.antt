-- The loop keeps the invariant of Scan for the rule that the test decides. Assumes nothing.
use mathlib.Core.Bool.{not}
use mathlib.Core.Path.{ap, ◌∙◌}
use native.Mathlib.Nat.{le_antisymm}
use Rattle.records.proofs.Scan.{start, more, found, done}
use Rattle.rules.proofs.lowest.Goals as goal

pub loop-i-init : goal.loop-i-init
loop-i-init g c = λ ok h. start _ _

pub returns-then-not-holds : goal.returns-then-not-holds
returns-then-not-holds g c = λ ok h.
    found _ (c.loop-i.invariant ok h) c.loop-i-test.true (h _ _ c.loop-i-test.true c.holds.ensures) (ap not c.if-not-holds.true)

pub loop-i-preserved : goal.loop-i-preserved
loop-i-preserved g c = λ ok h.
    more _ (c.loop-i.invariant ok h) c.loop-i-test.true (h _ _ c.loop-i-test.true c.holds.ensures) (ap not c.if-not-holds.false)

pub returns : goal.returns
returns g c = λ ok h. le_antisymm c.loop-i-test.false c.loop-i.auto.i-end ∙ done _ (c.loop-i.invariant ok h) c.loop-i-test.false
