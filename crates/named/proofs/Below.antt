-- A formula names a fluent exactly where it, or a formula below it, names the fluent itself: by what it names itself and by its
-- subformulas, which are lower. So bit x of its set is set exactly there. Assumes nothing.
use Prim.Native.Nat.{ℕ, zero, suc, ◌<◌}
use native.Mathlib.Omega.{arith}
use mathlib.Core.Path.{◌≡◌, refl, sym, subst, ◌∙◌}
use mathlib.Core.Bool.{Bool, true, false, ◌||◌, false≢true}
use mathlib.Core.List.{List}
use mathlib.Core.Logic.{◌⊎◌, inl, inr, ⊎_elim, ◌↔◌}
use borrow.Author.Tests.{eqb-true, eq-eqb}
use lib.Dec.{T, eqb}
use lib.ListN.{get_or}
use Rattle.records.specs.declared.Formula.{Formula}
use Rattle.records.specs.Table.{up_to}
use Rattle.records.specs.Mask.{has_bit}
use Rattle.records.proofs.Some.{some_iff}
use Rattle.records.proofs.Truth.{or_exactly, true_exactly}
use Rattle.kinds.specs.Names.{names_of}
use Rattle.kinds.specs.Formulas.{field_a, field_b, has_a, has_b, is_plain, Asks, Reads, PartsLower}
use Rattle.kinds.proofs.FormulaKinds.{by_kind, formula_of}
use Rattle.named.specs.Named.{names_at, names, formula_set, table_names}
use Rattle.named.specs.Below.{NamesItself, Part, Below, itself, through, NamesBelow}
use Rattle.named.proofs.Named.{names_is, names_at_lem, set_bit}

-- a lower formula that names the fluent, of those that have P
abbrev Lower : (lower : List Bool) → (ℕ → Type 0) → Type 0
Lower lower P = (j : ℕ) × P j × (get_or lower j false ≡ true)

module _ (lower : List Bool) (x a b y : ℕ) where
  none : (false ≡ true) ↔ (⊥ ⊎ Lower lower (λ (j : ℕ). ⊥))
  none = (λ e. absurd (false≢true e), ⊎_elim (λ h. absurd h) (λ (j, h, e). absurd h))

  own : {A : Type 0} {t : Bool} → (t ≡ true) ↔ A → (t ≡ true) ↔ (A ⊎ Lower lower (λ (j : ℕ). ⊥))
  own p = (λ e. inl (p.0 e), ⊎_elim p.1 (λ (j, h, e). absurd h))

  one : (i : ℕ) → (get_or lower i false ≡ true) ↔ Lower lower (λ (j : ℕ). i ≡ j)
  one i = (λ e. (i, refl, e), λ (j, h, e). subst (λ (k : ℕ). get_or lower k false ≡ true) (sym h) e)

  equal : (i : ℕ) → (eqb i y ≡ true) ↔ (i ≡ y)
  equal i = (eqb-true i y, eq-eqb i y)

  part : (get_or lower a false ≡ true) ↔ (⊥ ⊎ Lower lower (λ (j : ℕ). a ≡ j))
  part = (λ e. inr ((one a).0 e), ⊎_elim (λ h. absurd h) (one a).1)

  parts : ((get_or lower a false || get_or lower b false) ≡ true) ↔ (⊥ ⊎ Lower lower (λ (j : ℕ). (a ≡ j) ⊎ (b ≡ j)))
  parts =
      let both = or_exactly (get_or lower a false) (get_or lower b false) (one a) (one b) in (
        λ e. inr (⊎_elim (λ (j, h, t). (j, inl h, t)) (λ (j, h, t). (j, inr h, t)) (both.0 e)),
        ⊎_elim (λ h. absurd h) (λ (j, h, t). both.1 (⊎_elim (λ e. inl (j, e, t)) (λ e. inr (j, e, t)) h)),
      )

  names_exactly :
      (kind : ℕ)
      → (names_of (formula_of kind x a b) y lower ≡ true) ↔ (NamesItself (formula_of kind x a b) y ⊎ Lower lower (Part (formula_of kind x a b)))
  unfolding names_of NamesItself Part
  names_exactly =
      by_kind (λ (kind : ℕ). (names_of (formula_of kind x a b) y lower ≡ true) ↔ (NamesItself (formula_of kind x a b) y ⊎ Lower lower (Part (formula_of kind x a b))))
      none none (own (equal x)) (own (equal x)) (own (or_exactly (eqb x y) (eqb a y) (equal x) (equal a))) part parts parts
      (own (equal x)) part part (λ k. none)

-- a subformula is lower
part_lower : (i x a b j kind : ℕ) → (T (has_a kind) → a < i) → (T (has_b kind) → b < i) → Part (formula_of kind x a b) j → j < i
unfolding field_a field_b Part
part_lower i x a b j =
    by_kind (λ (kind : ℕ). (T (has_a kind) → a < i) → (T (has_b kind) → b < i) → Part (formula_of kind x a b) j → j < i)
    (λ p q h. absurd h) (λ p q h. absurd h) (λ p q h. absurd h) (λ p q h. absurd h) (λ p q h. absurd h)
    (λ p q h. at h (p tt)) (λ p q. ⊎_elim (λ h. at h (p tt)) (λ h. at h (q tt))) (λ p q. ⊎_elim (λ h. at h (p tt)) (λ h. at h (q tt)))
    (λ p q h. absurd h) (λ p q h. at h (p tt)) (λ p q h. at h (p tt)) (λ k p q h. absurd h)
  where
    at : {c : ℕ} → c ≡ j → c < i → j < i
    at e l = omega arith

-- what a formula asks for it names itself; and the formulas that it reads are its subformulas, where it has no placeholder
asked_itself : (x a b y kind : ℕ) → Asks (formula_of kind x a b) y → NamesItself (formula_of kind x a b) y
unfolding Asks NamesItself
asked_itself x a b y =
    by_kind (λ (kind : ℕ). Asks (formula_of kind x a b) y → NamesItself (formula_of kind x a b) y)
    (λ h. h) (λ h. h) (λ h. h) (λ h. h) (λ h. h) (λ h. h) (λ h. h) (λ h. h) (λ h. h) (λ h. absurd h) (λ h. absurd h) (λ k h. absurd h)

read_part : (x a b j kind : ℕ) → T (is_plain kind) → Reads (formula_of kind x a b) j → Part (formula_of kind x a b) j
unfolding Reads Part
read_part x a b j =
    by_kind (λ (kind : ℕ). T (is_plain kind) → Reads (formula_of kind x a b) j → Part (formula_of kind x a b) j)
    (λ t h. h) (λ t h. h) (λ t h. h) (λ t h. h) (λ t h. h) (λ t h. h) (λ t h. h) (λ t h. h) (λ t h. h) (λ t h. absurd t) (λ t h. absurd t) (λ k t h. absurd h)

module _ (formula : ℕ → Formula) where
  exactly_at : (x q : ℕ) → (names formula q x ≡ true) ↔ (NamesItself (formula q) x ⊎ Lower (up_to (names_at formula x) q) (Part (formula q)))
  exactly_at x q = let r = formula q in rw (names_is formula q x) (names_exactly (up_to (names_at formula x) q) r.x r.a r.b x r.kind)

  pub names_asked : (q x : ℕ) → Asks (formula q) x → T (names formula q x)
  names_asked q x h = let r = formula q in (true_exactly _).1 ((exactly_at x q).1 (inl (asked_itself r.x r.a r.b x r.kind h)))

  pub names_read : (q j x : ℕ) → T (is_plain (formula q).kind) → Reads (formula q) j → j < q → T (names formula j x) → T (names formula q x)
  names_read q j x t h l n =
      let r = formula q in
      (true_exactly _).1 ((exactly_at x q).1 (inr (j, read_part r.x r.a r.b j r.kind t h, names_at_lem formula q j x l ∙ (true_exactly _).0 n)))

module _ (formula : ℕ → Formula) (n : ℕ) (low : (i : ℕ) → i < n → PartsLower i (formula i)) where
  lower_part : (q j : ℕ) → q < n → Part (formula q) j → j < q
  lower_part q j l p = let r = formula q in part_lower q r.x r.a r.b j r.kind (low q l).0 (low q l).1 p

  module _ (x : ℕ) where
    below_to : (k q : ℕ) → q < k → q < n → names formula q x ≡ true → NamesBelow formula q x
    below_to zero q h l e = absurd (omega arith)
    below_to (suc k) q h l e =
        ⊎_elim (λ s. (q, itself, s))
        (λ (j, p, t). let m = lower_part q j l p in
        let (i, b, s) = below_to k j (omega arith) (omega arith) (sym (names_at_lem formula q j x m) ∙ t) in (i, through p b, s))
        ((exactly_at formula x q).0 e)

    below_from : {q j : ℕ} → Below formula q j → q < n → NamesItself (formula j) x → names formula q x ≡ true
    below_from {q} itself l s = (exactly_at formula x q).1 (inl s)
    below_from {q} (through {i = i} p b) l s =
        let m = lower_part q i l p in
        (exactly_at formula x q).1 (inr (i, p, names_at_lem formula q i x m ∙ below_from b (omega arith) s))

  pub below_exactly : (q : ℕ) → q < n → (x : ℕ) → T (names formula q x) ↔ NamesBelow formula q x
  below_exactly q l x =
      let e = true_exactly (names formula q x) in
      (λ t. below_to x (suc q) q (omega arith) l (e.0 t), λ (j, b, s). e.1 (below_from x b l s))

  pub set_exactly : (q : ℕ) → q < n → (x : ℕ) → x < 32 → T (has_bit (formula_set formula q) x) ↔ NamesBelow formula q x
  set_exactly q l x h = rw (set_bit formula q x h) (below_exactly q l x)

  -- a formula of the table, or one below it
  pub table_exactly : (x : ℕ) → T (table_names formula n x) ↔ ((q : ℕ) × (q < n) × NamesBelow formula q x)
  unfolding table_names
  table_exactly x =
      let some = some_iff (λ (q : ℕ). names formula q x) (λ q. (λ t. t, λ t. t)) n 0 in (
        λ t. let (q, (l, m), s) = some.0 t in (q, omega arith, (below_exactly q (omega arith) x).0 s),
        λ (q, l, b). some.1 (q, (omega arith, omega arith), (below_exactly q l x).1 b),
      )
