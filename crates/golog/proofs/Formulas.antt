-- A formula holds exactly when what it says is so, kind by kind: each line of `truth_of` decides the same line of `Says`, since the table
-- of lower formulas has at those that it reads what these say. Assumes nothing.
use mathlib.Core.Path.{◌≡◌, refl}
use mathlib.Core.Bool.{Bool, false}
use mathlib.Core.List.{List}
use mathlib.Core.Logic.{inl, inr, ◌↔◌}
use Prim.Native.Nat.{ℕ, ◌<◌}
use native.Mathlib.Omega.{arith}
use lib.Dec.{T}
use lib.ListN.{get_or}
use Rattle.records.specs.Placeholders.{put_in}
use Rattle.records.specs.Some.{some_from, every_from}
use Rattle.records.proofs.Some.{some_iff, every_iff}
use Rattle.kinds.specs.Truth.{truth_of}
use Rattle.kinds.specs.Formulas.{field_a, asks_value, Reads}
use Rattle.kinds.proofs.FormulaKinds.{by_kind, formula_of}
use Rattle.runs.proofs.Tests.{and_iff, or_iff, eqb_iff, ltb_iff}
use Rattle.golog.specs.declared.State.{State}
use Rattle.golog.specs.World.{World, truths, holds}
use Rattle.golog.specs.Says.{value_of, Says}
use Rattle.golog.proofs.Tests.{same, not_iff, equal_iff}
use Rattle.golog.proofs.Truths.{holds_at, holds_is}

module _ (W : World) (s : State) (lower : List Bool) (x a b : ℕ) where
  -- the table has at a formula what it says
  abbrev Right : ℕ → Type 0
  Right j = get_or lower j false ≡ holds W j s

  -- for some, for every value below x in placeholder b, a
  some_says : ((v : ℕ) → v < x → Right (put_in a b v)) → T (some_from (λ (v : ℕ). get_or lower (put_in a b v) false) 0 x) ↔ ((v : ℕ) × (v < x) × T (holds W (put_in a b v) s))
  some_says h =
      let i = some_iff (λ (v : ℕ). get_or lower (put_in a b v) false) (λ v. same _) x 0 in (
        λ t. let (v, (l, m), u) = i.0 t in (v, omega arith, (equal_iff (h v (omega arith))).0 u),
        λ (v, l, u). i.1 (v, (omega arith, omega arith), (equal_iff (h v l)).1 u),
      )

  every_says : ((v : ℕ) → v < x → Right (put_in a b v)) → T (every_from (λ (v : ℕ). get_or lower (put_in a b v) false) 0 x) ↔ ((v : ℕ) → v < x → T (holds W (put_in a b v) s))
  every_says h =
      let i = every_iff (λ (v : ℕ). get_or lower (put_in a b v) false) (λ v. same _) x 0 in (
        λ t v l. (equal_iff (h v l)).0 (i.0 t v (omega arith, omega arith)),
        λ u. i.1 (λ v (l, m). (equal_iff (h v (omega arith))).1 (u v (omega arith))),
      )

  -- given that the table has what each formula says that is read
  truth_says : (kind : ℕ) → ((j : ℕ) → Reads (formula_of kind x a b) j → Right j) → T (truth_of (formula_of kind x a b) s.values lower) ↔ Says W s (formula_of kind x a b)
  unfolding truth_of Says Reads
  truth_says =
      by_kind
      (λ (kind : ℕ). ((j : ℕ) → Reads (formula_of kind x a b) j → Right j) → T (truth_of (formula_of kind x a b) s.values lower) ↔ Says W s (formula_of kind x a b))
      -- 0 true
      (λ h. same (Unit {0}))
      -- 1 false
      (λ h. same ⊥)
      -- 2 fluent x has value a
      (λ h. eqb_iff (value_of s x) a)
      -- 3 fluent x is less than a
      (λ h. ltb_iff (value_of s x) a)
      -- 4 fluents x and a have equal values
      (λ h. eqb_iff (value_of s x) (value_of s a))
      -- 5 not a
      (λ h. not_iff (get_or lower a false) (equal_iff (h a refl)))
      -- 6 a and b
      (λ h. and_iff (get_or lower a false) (get_or lower b false) (equal_iff (h a (inl refl))) (equal_iff (h b (inr refl))))
      -- 7 a or b
      (λ h. or_iff (get_or lower a false) (get_or lower b false) (equal_iff (h a (inl refl))) (equal_iff (h b (inr refl))))
      -- 8 fluent x equals a placeholder, in which a stands
      (λ h. eqb_iff (value_of s x) a)
      -- 9 for some value below x in placeholder b, a
      (λ h. some_says (λ v l. h (put_in a b v) (v, l, refl)))
      -- 10 for every value below x in placeholder b, a
      (λ h. every_says (λ v l. h (put_in a b v) (v, l, refl)))
      -- past the kinds
      (λ k h. same ⊥)

pub formula_says : (W : World) (q : ℕ) (s : State) → ((j : ℕ) → Reads (W.formula q) j → j < q) → T (holds W q s) ↔ Says W s (W.formula q)
formula_says W q s low =
    let r = W.formula q in
    rw (holds_is W s q)
    (truth_says W s (truths W s.values q) r.x r.a r.b r.kind (λ j h. holds_at W s q j (low j h)))

-- a formula that asks that a fluent has a value reads no formula
asks_alone : (x a b j kind : ℕ) → T (asks_value kind) → ¬ Reads (formula_of kind x a b) j
unfolding field_a Reads
asks_alone x a b j =
    by_kind (λ (kind : ℕ). T (asks_value kind) → ¬ Reads (formula_of kind x a b) j)
    (λ t. absurd t) (λ t. absurd t) (λ t h. h) (λ t. absurd t) (λ t. absurd t) (λ t. absurd t) (λ t. absurd t) (λ t. absurd t) (λ t. absurd t)
    (λ t. absurd t) (λ t. absurd t) (λ k t. absurd t)

-- and where it holds, the fluent has it
pub value_said : (W : World) (q : ℕ) (s : State) → T (asks_value (W.formula q).kind) → T (holds W q s) → value_of s (W.formula q).x ≡ (W.formula q).a
unfolding Says field_a
value_said W q s t h =
    let r = W.formula q in
    by_kind (λ (kind : ℕ). T (asks_value kind) → Says W s (formula_of kind r.x r.a r.b) → value_of s r.x ≡ r.a)
    (λ t. absurd t) (λ t. absurd t) (λ t e. e) (λ t. absurd t) (λ t. absurd t) (λ t. absurd t) (λ t. absurd t) (λ t. absurd t) (λ t. absurd t)
    (λ t. absurd t) (λ t. absurd t) (λ k t. absurd t)
    r.kind t ((formula_says W q s (λ j k. absurd (asks_alone r.x r.a r.b j r.kind t k))).0 h)
