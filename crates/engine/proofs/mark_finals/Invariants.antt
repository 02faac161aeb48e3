use Rattle.std.proofs.Common.{◌≡◌, ℕ, ◌+◌, ◌-◌, ◌≤◌, Bool, true, length, get_or}
use Rattle.golog.specs.declared.State.{State}
use Rattle.golog.specs.World.{World}
use Rattle.leaves.specs.Running.{records, size}
use Rattle.leaves.specs.Tallies.{Sees}
use Rattle.leaves.proofs.Skipping.{Done}
use Rattle.engine.specs.Tables.{window, Only}
use Rattle.engine.proofs.mark_finals.Given as goal

abbrev pub invariant-loop-i : goal.invariant-loop-i
invariant-loop-i l =
    (l.to ≡ l.from + 512)
    × (length l.flags ≡ length l.initial.flags)
    × Only (l.from + 512) 260 l.initial.flags l.flags
    × ((a : ℕ) → size l.p ≤ a → get_or (window (l.from + 512) 260 l.flags) a true ≡ get_or (window (l.from + 512) 260 l.initial.flags) a true)
    × ((W : World) (s : State) (can : ℕ → Bool) → Sees W s (records l.p) (size l.p) (window l.from 512 l.initial.flags) can l.running →
    Done W s (records l.p) (size l.p) (window (l.from + 512) 260 l.initial.flags) (window (l.from + 512) 260 l.flags) l.i)

abbrev pub decreases-loop-i : goal.decreases-loop-i
decreases-loop-i l = l.size - l.i
