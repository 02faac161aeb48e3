use mathlib.Core.Path.{◌≡◌}
use lib.ListN.{length}
use Rattle.leaves.proofs.Skipping.{Down}
use Rattle.leaves.proofs.skips.Given as goal

abbrev pub invariant-loop-i : goal.invariant-loop-i
invariant-loop-i l = (length l.skips ≡ 261) × Down l.endable l.sure l.m l.skips l.first l.i
