-- The code of a transition tells its move: 65536 a test, any other number that entry, which is performed by the truths of the state.
-- Assumes nothing.
use Prim.Native.Nat.{ℕ}
use mathlib.Core.Bool.{Bool, cond}
use mathlib.Core.List.{List}
use mathlib.Core.Option.{Option, none, some}
use mathlib.Core.Path.{◌≡◌, sym, ◌∙◌, ap, subst}
use borrow.Author.Tests.{ne_eqb}
use Rattle.golog.specs.declared.State.{State}
use Rattle.golog.specs.World.{World, after}
use Rattle.truths.specs.Held.{AllHold}
use Rattle.possible.specs.Written.{Written}
use Rattle.possible.specs.Possible.{PerformedState}
use Rattle.steps.specs.Laid.{test_code}
use Rattle.machine.specs.declared.Shape.{Shape}
use Rattle.machine.specs.Ruled.{RuledActions, IsEntry}
use Rattle.machine.specs.Told.{move_of}
use Rattle.machine.proofs.Reading.{range_conditions}

is_move : (entry : ℕ) → ¬ (entry ≡ test_code) → move_of entry ≡ some entry
is_move entry z = ap (λ (b : Bool). cond b none (some entry)) (ne_eqb entry test_code z)

pub after_moved :
    (W : World) (s : State) {fluents formulas effects actions table sets : List ℕ} {v : Shape} → RuledActions effects actions v → {entry : ℕ} → IsEntry v entry
    → Written fluents formulas effects actions W → ¬ (entry ≡ test_code) → {r : State} → PerformedState effects actions table entry s r → table ≡ sets
    → AllHold W s v.q sets → r ≡ after W (move_of entry) s
after_moved W s {fluents} {formulas} {v = v} R {entry} known is move P same held =
    P fluents formulas W v.q is (λ h. range_conditions R (known h).1) (subst (AllHold W s v.q) (sym same) held)
    ∙ sym (ap (λ (x : Option ℕ). after W x s) (is_move entry move))
