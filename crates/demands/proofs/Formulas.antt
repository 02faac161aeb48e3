-- Every formula of an accepted sheet says what its kind says: the rule of formulas makes the formulas that it names lower. Assumes nothing.
use mathlib.Core.List.{List}
use mathlib.Core.Logic.{◌↔◌}
use Prim.Native.Nat.{ℕ, ◌<◌}
use lib.Dec.{T}
use Rattle.sheet.specs.Layout.{layout_of}
use Rattle.sheet.specs.Check.{Accepts}
use Rattle.sheet.proofs.Lower.{lower_formulas, plain_formulas}
use Rattle.kinds.proofs.Truth.{reads_parts}
use Rattle.golog.specs.declared.State.{State}
use Rattle.golog.specs.World.{holds}
use Rattle.golog.specs.Says.{Says}
use Rattle.golog.proofs.Formulas.{formula_says}
use Rattle.demands.specs.Decoded.{world_of}

-- document 01, "Formula": formula q holds in a state exactly when what it says is so
pub says_exactly :
    (s : List ℕ)
    → Accepts s
    → (q : ℕ)
    → q < (layout_of s).q
    → (state : State)
    → T (holds (world_of s) q state) ↔ Says (world_of s) state ((world_of s).formula q)
says_exactly s accepted q l state = formula_says (world_of s) q state (reads_parts q ((world_of s).formula q) (plain_formulas s accepted q l) (lower_formulas s accepted q l))
