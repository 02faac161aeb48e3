use Prim.Native.Nat.{ℕ}
use mathlib.Core.Bool.{Bool}
use mathlib.Core.List.{List}
use Rattle.state.specs.Reads.{Reads}
use Rattle.state.proofs.Noting.{codes, Noted}
use Rattle.state.proofs.effects.conflict.Given as goal

abbrev pub invariant-loop-i : goal.invariant-loop-i
invariant-loop-i g l =
    (says : ℕ → Bool) (table : List ℕ) → Reads (goal.H-post g l.fn.holds) (goal.V-post g l.fn.meant) says l.fn.effects table l.fn.first l.fn.count → Noted says table l.fn.first (codes l.noted) l.i
