-- Of the actions that records perform it is told which may conflict; the loop writes the marks one after the other. Assumes nothing.
use mathlib.Core.Path.{refl}
use native.Mathlib.Nat.{le_antisymm}
use Rattle.machine.proofs.Marking.{marks_known}
use Rattle.machine.proofs.marks_of.Goals as goal

pub returns : goal.returns
returns c =
    let e = le_antisymm c.loop-a.auto.a-end c.loop-a-test.false in
    marks_known c.args.programs.now c.performed-performed.ensures c.may_conflict-may.ensures (rw e at c.loop-a.invariant) refl
