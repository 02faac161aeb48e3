-- The set of a formula depends on the lower formulas that its kind has: so tables that agree below it give it the same set; and where the
-- sets of the lower ones are those of what they name, its set is that of what it names. Assumes nothing.
use native.Mathlib.Omega.{arith}
use Rattle.std.proofs.lemmas.Grind.{common_steps}
use Prim.Native.Nat.{ℕ, ◌<◌, ◌^◌}
use mathlib.Core.Path.{◌≡◌, refl, sym, ap₂, ◌∙◌}
use mathlib.Core.Bool.{Bool, true, false, ◌||◌, cond}
use mathlib.Core.List.{List}
use borrow.Author.Tests.{ltb-true, ltb-false}
use lib.Bits.{bit_or}
use lib.Dec.{T, eqb, ltb}
use lib.ListN.{get_or}
use Rattle.records.specs.declared.Formula.{Formula}
use Rattle.records.specs.Mask.{mask_of}
use Rattle.records.proofs.Masks.{mask_or, mask_none, mask_one, mask_past}
use Rattle.kinds.specs.Names.{names_of}
use Rattle.kinds.specs.Sets.{set_bits, bit_of, set_of}
use Rattle.kinds.specs.Formulas.{field_a, field_b, has_a, has_b, PartsLower}
use Rattle.kinds.proofs.FormulaKinds.{by_kind, formula_of}

-- the set of one fluent
pub bit_is : (x : ℕ) → bit_of x ≡ mask_of (λ (y : ℕ). eqb x y) 32
bit_is x = go (ltb x set_bits) refl
  where
    go : (b : Bool) → ltb x set_bits ≡ b → cond b (2 ^ x) 0 ≡ mask_of (λ (y : ℕ). eqb x y) 32
    go true e = sym (mask_one x 32 (ltb-true x 32 e))
    go false e = sym (mask_past x 32 (ltb-false x 32 e))

module _ (x a b : ℕ) where
  module _ (lower : ℕ → List Bool) (sets : List ℕ) where
    -- the set of lower formula i is that of what it names
    abbrev Lower : ℕ → Type 0
    Lower i = get_or sets i 0 ≡ mask_of (λ (y : ℕ). get_or (lower y) i false) 32

    two : (U G : ℕ → Bool) {s t : ℕ} → s ≡ mask_of U 32 → t ≡ mask_of G 32 → bit_or s t ≡ mask_of (λ (y : ℕ). U y || G y) 32
    two U G p q = ap₂ bit_or p q ∙ mask_or U G 32

    parts : Lower a → Lower b → bit_or (get_or sets a 0) (get_or sets b 0) ≡ mask_of (λ (y : ℕ). get_or (lower y) a false || get_or (lower y) b false) 32
    parts = two (λ (y : ℕ). get_or (lower y) a false) (λ (y : ℕ). get_or (lower y) b false)

    set_by : (kind : ℕ) → (T (has_a kind) → Lower a) → (T (has_b kind) → Lower b)
        → set_of (formula_of kind x a b) sets ≡ mask_of (λ (y : ℕ). names_of (formula_of kind x a b) y (lower y)) 32
    unfolding names_of set_of field_a field_b
    set_by =
        by_kind
        (λ (kind : ℕ). (T (has_a kind) → Lower a) → (T (has_b kind) → Lower b)
        → set_of (formula_of kind x a b) sets ≡ mask_of (λ (y : ℕ). names_of (formula_of kind x a b) y (lower y)) 32)
        (λ p q. sym (mask_none 32)) (λ p q. sym (mask_none 32)) (λ p q. bit_is x) (λ p q. bit_is x) (λ p q. two (eqb x) (eqb a) (bit_is x) (bit_is a))
        (λ p q. p tt) (λ p q. parts (p tt) (q tt)) (λ p q. parts (p tt) (q tt)) (λ p q. bit_is x) (λ p q. p tt) (λ p q. p tt) (λ k p q. sym (mask_none 32))

module _ (i : ℕ) (r : Formula) (low : PartsLower i r) where
  pub set_same : (l m : List ℕ) → ((a : ℕ) → a < i → get_or l a 0 ≡ get_or m a 0) → set_of r l ≡ set_of r m
  unfolding set_of field_a field_b
  set_same l m h = grind (arith, common_steps)

  pub set_is : (lower : ℕ → List Bool) (sets : List ℕ)
      → ((a : ℕ) → a < i → get_or sets a 0 ≡ mask_of (λ (x : ℕ). get_or (lower x) a false) 32)
      → set_of r sets ≡ mask_of (λ (x : ℕ). names_of r x (lower x)) 32
  set_is lower sets h = set_by r.x r.a r.b lower sets r.kind (λ t. h r.a (low.0 t)) (λ t. h r.b (low.1 t))
