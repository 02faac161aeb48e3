use mathlib.Core.Path.{◌≡◌}
use lib.ListN.{length}
use Rattle.records.specs.Records.{program_at}
use Rattle.leaves.specs.Performed.{Performed}
use Rattle.leaves.proofs.performed.Given as goal

abbrev pub invariant-loop-i : goal.invariant-loop-i
invariant-loop-i l = (length l.marks ≡ 64) × Performed (program_at l.programs) l.i l.marks
