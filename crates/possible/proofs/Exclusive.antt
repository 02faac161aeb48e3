-- Effects that give one fluent different value bytes only under conditions that a fluent has different values contradict each other in no
-- state and no environment: such a condition says the same in each, and equal bytes mean equal values. Assumes nothing.
use Prim.Native.Nat.{ℕ, ◌+◌, ◌-◌, ◌*◌, ◌≤◌, ◌<◌}
use mathlib.Core.Path.{◌≡◌, refl, sym, ap, subst, ◌∙◌}
use mathlib.Core.Bool.{false}
use mathlib.Core.List.{List}
use native.Mathlib.Omega.{arith}
use lib.Dec.{T}
use lib.ListN.{get_or}
use Rattle.records.specs.declared.Formula.{Formula}
use Rattle.records.specs.declared.Effect.{Effect}
use Rattle.records.specs.Records.{formula_at, effect_at}
use Rattle.records.specs.Placeholders.{reading, environments}
use Rattle.records.specs.Some.{InRange}
use Rattle.records.proofs.Truth.{is_false}
use Rattle.kinds.specs.Formulas.{field_a, asks_value}
use Rattle.kinds.proofs.FormulaKinds.{by_kind, formula_of}
use Rattle.golog.specs.declared.State.{State}
use Rattle.golog.specs.World.{World, conflicting, holds, says_in}
use Rattle.golog.specs.Written.{formula_read, resolved, effect_read}
use Rattle.golog.specs.Possible.{Conflict}
use Rattle.golog.proofs.Possible.{conflicting_exactly}
use Rattle.golog.proofs.Formulas.{value_said}
use Rattle.state.specs.Exclusion.{Exclusive}
use Rattle.possible.specs.Written.{Written}
use Rattle.possible.proofs.Worlds.{formula_written, effect_written}

-- a formula that asks that a fluent has a value is the same in every environment
asks_alike : (e : ℕ) (r : Formula) → T (asks_value r.kind) → formula_read e r ≡ r
unfolding formula_read field_a
asks_alike e r =
    by_kind (λ (kind : ℕ). T (asks_value kind) → formula_read e (formula_of kind r.x r.a r.b) ≡ formula_of kind r.x r.a r.b)
    (λ t. absurd t) (λ t. absurd t) (λ t. refl) (λ t. absurd t) (λ t. absurd t) (λ t. absurd t) (λ t. absurd t) (λ t. absurd t) (λ t. absurd t)
    (λ t. absurd t) (λ t. absurd t) (λ k t. absurd t)
    r.kind

pub exclusive_conflicts_none :
    {fluents formulas effects actions : List ℕ} {W : World} → Written fluents formulas effects actions W
    → (first count : ℕ) → first + count ≤ 512 → Exclusive formulas effects first count
    → (s : State) (e : ℕ) → e < environments → conflicting (says_in W s) W.effect (512 * e + first) count ≡ false
exclusive_conflicts_none {formulas} {effects} {W} is first count few exclusive s e small =
    is_false _ (λ t. none ((conflicting_exactly (says_in W s) W.effect (512 * e + first) count).0 (subst T (sym t) tt)))
  where
    -- a fluent has the value that a condition asks for, where it holds
    asked : (q : ℕ) → T (asks_value (formula_at formulas q).kind) → T (holds W (reading q e) s) → get_or s.values (formula_at formulas q).x 0 ≡ (formula_at formulas q).a
    asked q t h =
        let is-q = formula_written is e q small ∙ asks_alike e (formula_at formulas q) t in
        subst (λ (r : Formula). get_or s.values r.x 0 ≡ r.a) is-q (value_said W (reading q e) s (subst (λ (r : Formula). T (asks_value r.kind)) (sym is-q) t) h)

    effect_of : (a : ℕ) → InRange (512 * e + first) count a → W.effect a ≡ effect_read e (effect_at effects (a - 512 * e))
    effect_of a (l, m) =
        let number : a ≡ 512 * e + (a - 512 * e) = omega arith in
        ap W.effect number ∙ effect_written is e (a - 512 * e) (omega arith)

    none : ¬ Conflict (says_in W s) W.effect (512 * e + first) count
    none (a, (f, t), (b, (g, u), ((h, j), (same, differ)))) =
        let d = effect_of a (f, t) in
        let k = effect_of b (g, u) in
        let E = exclusive (a - 512 * e) (b - 512 * e) (omega arith, omega arith) (omega arith, omega arith)
        (sym (ap (λ (x : Effect). x.fluent) d) ∙ same ∙ ap (λ (x : Effect). x.fluent) k)
        (λ z. differ (ap (λ (x : Effect). x.value) d ∙ ap (resolved e) z ∙ sym (ap (λ (x : Effect). x.value) k))) in
        let one = asked _ E.one (subst (λ (x : Effect). T (says_in W s x.condition)) d h) in
        let other = asked _ E.other (subst (λ (x : Effect). T (says_in W s x.condition)) k j) in
        E.values (sym one ∙ ap (λ (x : ℕ). get_or s.values x 0) E.fluent ∙ other)
