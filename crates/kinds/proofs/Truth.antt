-- What a formula says depends on the values that it asks for and on what it reads of other formulas: so values and tables that agree there
-- give it the same truth. A formula without placeholders reads lower ones only. Assumes nothing.
use Rattle.std.proofs.lemmas.Grind.{common_steps}
use Prim.Native.Nat.{ℕ, ◌<◌}
use native.Mathlib.Omega.{arith}
use mathlib.Core.Path.{◌≡◌, refl}
use mathlib.Core.Bool.{Bool, false}
use mathlib.Core.List.{List}
use mathlib.Core.Logic.{inl, inr}
use lib.Dec.{T}
use lib.ListN.{get_or}
use Rattle.records.specs.declared.Formula.{Formula}
use Rattle.records.specs.Placeholders.{put_in}
use Rattle.records.proofs.Some.{some_same, every_same}
use Rattle.kinds.specs.Truth.{truth_of}
use Rattle.kinds.specs.Formulas.{field_a, field_b, is_plain, PartsLower, Asks, Reads}
use Rattle.kinds.proofs.FormulaKinds.{by_kind, formula_of}

module _ (x a b : ℕ) where
  module _ (v v' : List ℕ) (l m : List Bool) where
    -- of each kind: values and tables that agree where it looks give it the same truth
    abbrev SaysSame : (kind : ℕ) → Type 0
    SaysSame kind =
        ((y : ℕ) → Asks (formula_of kind x a b) y → get_or v y 0 ≡ get_or v' y 0)
        → ((j : ℕ) → Reads (formula_of kind x a b) j → get_or l j false ≡ get_or m j false)
        → truth_of (formula_of kind x a b) v l ≡ truth_of (formula_of kind x a b) v' m

    says_same : (kind : ℕ) → SaysSame kind
    unfolding truth_of Asks Reads
    says_same =
        by_kind SaysSame
        (λ p q. refl) (λ p q. refl) (λ p q. rw (p x refl)) (λ p q. rw (p x refl)) (λ p q. rw (p x (inl refl), p a (inr refl)))
        (λ p q. rw (q a refl)) (λ p q. rw (q a (inl refl), q b (inr refl))) (λ p q. rw (q a (inl refl), q b (inr refl)))
        (λ p q. rw (p x refl))
        (λ p q. some_same _ _ x 0 (λ n (g, h). q (put_in a b n) (n, omega arith, refl)))
        (λ p q. every_same _ _ x 0 (λ n (g, h). q (put_in a b n) (n, omega arith, refl)))
        (λ k p q. refl)

pub truth_depends :
    (r : Formula) (v v' : List ℕ) (l m : List Bool)
    → ((y : ℕ) → Asks r y → get_or v y 0 ≡ get_or v' y 0)
    → ((j : ℕ) → Reads r j → get_or l j false ≡ get_or m j false)
    → truth_of r v l ≡ truth_of r v' m
truth_depends r v v' l m = says_same r.x r.a r.b v v' l m r.kind

-- a formula without placeholders reads lower ones
pub reads_parts : (i : ℕ) (r : Formula) → T (is_plain r.kind) → PartsLower i r → (j : ℕ) → Reads r j → j < i
unfolding field_a field_b Reads
reads_parts i r plain low j = grind (arith, common_steps)

-- so tables that agree below it give it the same truth
pub truth_same :
    (i : ℕ) (r : Formula) (values : List ℕ) (l m : List Bool)
    → T (is_plain r.kind)
    → PartsLower i r
    → ((a : ℕ) → a < i → get_or l a false ≡ get_or m a false)
    → truth_of r values l ≡ truth_of r values m
truth_same i r values l m plain low h = truth_depends r values values l m (λ y k. refl) (λ j k. h j (reads_parts i r plain low j k))
