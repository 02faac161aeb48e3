use Prim.Native.Nat.{ℕ}
use mathlib.Core.Bool.{Bool}
use mathlib.Core.List.{List}
use mathlib.Core.Path.{◌≡◌}
use lib.ListN.{length}
use Rattle.state.specs.Reads.{Reads}
use Rattle.state.proofs.Giving.{unset, Giving}
use Rattle.state.proofs.effects.new_values.Given as goal

abbrev pub invariant-loop-i : goal.invariant-loop-i
invariant-loop-i g l =
    (length l.fn.values ≡ 32) × (length l.given ≡ 32) × (l.left ≡ unset l.given l.n)
    × ((says : ℕ → Bool) (table : List ℕ) → Reads (goal.H-post g l.fn.holds) (goal.V-post g l.fn.meant) says l.fn.effects table l.fn.r.first l.fn.r.count
    → Giving says table l.fn.values l.fn.n l.fn.r.first l.fn.r.count l.new l.given l.left l.i)
