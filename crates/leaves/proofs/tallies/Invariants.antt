use mathlib.Core.Path.{◌≡◌}
use lib.ListN.{length}
use Rattle.records.proofs.Fills.{Refilled}
use Rattle.golog.specs.declared.State.{State}
use Rattle.golog.specs.World.{World}
use Rattle.remaining.specs.Leaves.{leaf_at}
use Rattle.state.specs.Conflicts.{allowed_by}
use Rattle.leaves.specs.Running.{records, size}
use Rattle.leaves.specs.Tallies.{capped_count, Sees}
use Rattle.leaves.proofs.tallies.Given as goal

abbrev pub invariant-loop-i : goal.invariant-loop-i
invariant-loop-i l =
    (length l.counts ≡ 260)
    × ((W : World) (s : State) → Sees W s (records l.p) (size l.p) l.truths (allowed_by l.actions l.truths l.conflicted) l.running →
    Refilled (leaf_at W s (records l.p)) capped_count l.initial.counts l.counts l.i)
