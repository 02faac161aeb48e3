-- What an evaluation may ask of the parts of a formula, which are lower; and a set that has what the formula says has the environments in
-- which it holds. Assumes nothing.
use Prim.Native.Nat.{ℕ, ◌<◌}
use mathlib.Core.Path.{◌≡◌, sym, subst}
use mathlib.Core.List.{List}
use native.Mathlib.Omega.{arith}
use Rattle.records.specs.declared.Formula.{Formula}
use Rattle.records.specs.Records.{formula_at}
use Rattle.sets.specs.Sets.{Has}
use Rattle.golog.specs.declared.State.{State}
use Rattle.golog.specs.World.{World}
use Rattle.truths.specs.Held.{Ruled, WrittenFrom, HoldsIn}
use Rattle.truths.specs.Evaluated.{said_in, Evaluable}
use Rattle.truths.proofs.Said.{says, said_held}

module _ {formulas table : List ℕ} {filled i : ℕ} (E : Evaluable formulas table filled i) where
  -- a lower formula
  pub evaluable_lower : {a : ℕ} → a < i → Evaluable formulas table filled a
  evaluable_lower l = record { long = omega (arith, E.long); ruled = λ j h. E.ruled j (omega arith); room = E.room }

  module _ {r : Formula} (of : r ≡ formula_at formulas i) where
    pub rule : Ruled i r
    rule = subst (Ruled i) (sym of) (E.ruled i (omega arith))

    pub evaluated : (W : World) (s : State) {values set : List ℕ} → WrittenFrom formulas W → s.values ≡ values → Has (said_in (says W s) r values) set → HoldsIn W s i set
    evaluated W s {values} {set} from v h =
        said_held W s formulas from i (E.ruled i (omega arith))
        (subst (λ (f : Formula). Has (said_in (says W s) f s.values) set) of (subst (λ (u : List ℕ). Has (said_in (says W s) r u) set) (sym v) h))

-- what an evaluation asks of its parts
pub ruleset parts = (evaluable_lower, rule)
