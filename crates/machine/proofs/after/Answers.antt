-- A test leaves the state; any other entry is performed by the sets for the depth. Assumes nothing.
use Prim.Native.Nat.{◌+◌}
use native.Mathlib.Omega.{arith}
use Rattle.machine.specs.Tables.{sets_from}
use Rattle.machine.proofs.Windows.{window_at}
use Rattle.machine.proofs.Moving.{after_moved}
use Rattle.machine.proofs.after.Goals as goal

pub returns : goal.returns
returns c fluents formulas W is held =
    let x = c.sets_from-from.result in
    let same = window_at x (sets_from c.args.d) (x + 8768) 8768 c.args.numbers.now c.sets_from-from.ensures.0 (omega arith) in
    after_moved W c.args.s c.requires.0 c.requires.2 is c.if-entry-eq-TEST.false c.perform.ensures same held
