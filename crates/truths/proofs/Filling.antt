-- A table is filled upwards: with one set more. Assumes nothing.
use Prim.Native.Nat.{ℕ, ◌+◌, ◌<◌}
use mathlib.Core.Path.{◌≡◌, sym, subst, ◌∙◌}
use mathlib.Core.List.{List}
use mathlib.Core.Logic.{inr}
use native.Mathlib.Omega.{arith}
use native.Mathlib.Decide.{dec_lt}
use Rattle.sets.specs.Sets.{set_at, PutSet}
use Rattle.golog.specs.declared.State.{State}
use Rattle.golog.specs.World.{World}
use Rattle.truths.specs.Held.{WrittenFrom, HoldsIn}
use Rattle.truths.specs.Evaluated.{EvaluatedSet, Filled}

module _ {formulas values table₀ table : List ℕ} {i : ℕ} (F : Filled formulas values i table₀ table) where
  pub filled_more : {table' set : List ℕ} → EvaluatedSet formulas values table i i set → PutSet i set table table' → Filled formulas values (i + 1) table₀ table'
  filled_more {table'} {set} E P = record {
    len = P.len ∙ F.len;
    held = λ W s of v q l. at W s of v q (dec_lt q i) l;
    words = λ k l. P.words k (inr (omega arith)) ∙ F.words k (omega arith);
  }
    where
      at : (W : World) (s : State) → WrittenFrom formulas W → s.values ≡ values → (q : ℕ) → Dec (q < i) → q < i + 1 → HoldsIn W s q (set_at table' q)
      at W s of v q (yes b) l = subst (HoldsIn W s q) (sym (P.others q (λ e. absurd (omega arith)))) (F.held W s of v q b)
      at W s of v q (no b) l =
          let e : i ≡ q = omega arith in
          subst (λ (j : ℕ). HoldsIn W s j (set_at table' j)) e (subst (HoldsIn W s i) (sym P.here) (E W s of v (F.held W s of v)))
