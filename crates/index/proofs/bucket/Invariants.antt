use Prim.Native.Nat.{◌^◌, ◌<◌}
use Rattle.index.proofs.bucket.Given as goal

abbrev pub invariant-loop-x : goal.invariant-loop-x
invariant-loop-x l = l.h < 2 ^ 33
