-- After i records the marks are those of their actions: at first there are none. Assumes nothing.
use Prim.Native.Nat.{ℕ}
use mathlib.Core.Path.{refl, sym, ◌∙◌}
use mathlib.Core.Bool.{false, false≢true}
use native.Mathlib.Omega.{arith}
use lib.ListN.{replicate}
use Rattle.records.specs.declared.Program.{Program}
use Rattle.records.proofs.Fills.{get_d_same}
use Rattle.leaves.specs.Performed.{Performed}
use Rattle.leaves.proofs.performed.Goals as goal

none : (p : ℕ → Program) → Performed p 0 (replicate 64 false)
none p = record { all = λ i l. absurd (omega arith); only = λ a e. absurd (false≢true (sym (get_d_same false 64 a) ∙ e)) }

pub loop-i-init : goal.loop-i-init
loop-i-init c = (refl, none _)
