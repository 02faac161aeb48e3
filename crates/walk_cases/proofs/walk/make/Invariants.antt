use mathlib.Core.Path.{◌≡◌}
use lib.ListN.{length}
use Rattle.engine.specs.Going.{CanGoOn}
use Rattle.walk_cases.proofs.walk.make.Given as goal

abbrev pub invariant-loop : goal.invariant-loop
invariant-loop l =
    ((g : CanGoOn l.s l.st l.initial.work l.d l.initial.cursor) → (h : CanGoOn l.s l.st l.work l.d l.cursor) × (h.left ≡ g.left)) × (length l.work ≡ length l.initial.work)
