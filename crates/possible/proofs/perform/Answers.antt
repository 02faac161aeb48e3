-- Start and stop stand above every other entry and switch the flag; any other is an action in an environment, whose range is read in its record.
-- Assumes nothing.
use Prim.Native.Nat.{◌<◌}
use native.Mathlib.Omega.{arith}
use borrow.Author.Tests.{lt-ltb}
use Rattle.golog.specs.World.{start, perform_by}
use Rattle.possible.proofs.Worlds.{performed_written}
use Rattle.possible.proofs.perform.Goals as goal

pub returns-then-entry-ge-START : goal.returns-then-entry-ge-START
unfolding perform_by
returns-then-entry-ge-START c fluents formulas W n is low holds = rw (lt-ltb 65533 _ c.if-entry-ge-START.true)

pub returns : goal.returns
returns c fluents formulas W n is low holds =
    let below : c.args.entry < start = omega (arith, c.if-entry-ge-START.false) in
    performed_written is _ _ holds (c.requires.0 below) (low below) c.action_at-r.ensures.record c.new_values-values.ensures
