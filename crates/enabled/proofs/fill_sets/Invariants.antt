use mathlib.Core.Path.{◌≡◌}
use mathlib.Core.Bool.{true, false}
use Rattle.leaves.specs.Running.{records, size}
use Rattle.enabled.specs.Filled.{KnownWherever, FinalsWherever, Kept}
use Rattle.enabled.proofs.fill_sets.Given as goal

abbrev pub invariant-loop-i : goal.invariant-loop-i
invariant-loop-i l =
    Kept l.initial.table l.table
    × (l.goes ≡ true → KnownWherever (records l.p) (size l.p) l.i l.running l.initial.table l.table)
    × (l.goes ≡ false → FinalsWherever (records l.p) (size l.p) l.i l.running l.initial.table l.table)
