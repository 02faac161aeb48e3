use Prim.Native.Nat.{◌-◌}
use Rattle.possible.proofs.Straying.{StayingIn}
use Rattle.possible.proofs.inside.Given as goal

abbrev pub invariant-loop-i : goal.invariant-loop-i
invariant-loop-i l = StayingIn l.fluents l.effects l.table l.initial.left l.first (l.i - l.first) l.left
