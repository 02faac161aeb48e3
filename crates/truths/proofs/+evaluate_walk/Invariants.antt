use Prim.Native.Nat.{◌+◌, ◌*◌}
use Rattle.truths.proofs.+evaluate_walk.Given as goal

abbrev pub decreases-evaluate : goal.decreases-evaluate
decreases-evaluate l = 32 * l.i

abbrev pub decreases-walk : goal.decreases-walk
decreases-walk l = 32 * l.a + l.left + 1
