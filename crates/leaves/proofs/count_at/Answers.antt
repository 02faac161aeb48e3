-- Where a record performs no action, none is asked for. Assumes nothing.
use mathlib.Core.Path.{◌∙◌, ap}
use Prim.Native.Nat.{min}
use Rattle.std.proofs.Math.Nat.{min_comm}
use Rattle.kinds.proofs.Counting.{count_acts}
use Rattle.leaves.specs.Tallies.{cap}
use Rattle.leaves.proofs.count_at.Goals as goal

pub returns : goal.returns
returns c =
    c.min.ensures ∙ min_comm _ _ ∙ ap (min cap) (c.count_by.ensures ∙ rw c.can_act-can.ensures (count_acts _ _ _ _ _ _))
