use Prim.Native.Nat.{ℕ}
use mathlib.Core.Path.{◌≡◌}
use lib.ListN.{get_or, length}
use Rattle.records.specs.Records.{effect_at}
use Rattle.golog.specs.World.{given}
use Rattle.state.specs.Truths.{said_by}
use Rattle.records.specs.Laid.{Laid}
use Rattle.timed_cases.proofs.each_fluent.new_values.Given as goal

abbrev pub invariant-loop-x : goal.invariant-loop-x
invariant-loop-x l =
    (length l.values ≡ 32) × Laid 0 (λ (y : ℕ). given (said_by l.truths) (effect_at l.effects) y (get_or l.values y 0) l.r.first l.r.count) l.values l.new l.x
