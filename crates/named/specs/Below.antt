-- To be believed: what a formula names itself, its subformulas, and those below it, as statements: the second reading of document 02's
-- "through all its subformulas" beside the computed one (Named.antt). The theorem of proofs/Below.antt says that the two agree. Assumes
-- nothing.
use Rattle.std.specs.Prelude.{ℕ, [], ◌∷◌, ◌⊎◌, ◌≡◌, get_or}
use Rattle.records.specs.declared.Formula.{Formula}

-- a formula itself names fluent x
unfoldable pub NamesItself : Formula → (x : ℕ) → Type 0
NamesItself r x =
    get_or
    (
    ⊥ ∷  -- 0 true
    ⊥ ∷  -- 1 false
    (r.x ≡ x) ∷  -- 2 fluent x has value a
    (r.x ≡ x) ∷  -- 3 fluent x is less than a
    ((r.x ≡ x) ⊎ (r.a ≡ x)) ∷  -- 4 fluents x and a have equal values
    ⊥ ∷  -- 5 not a
    ⊥ ∷  -- 6 a and b
    ⊥ ∷  -- 7 a or b
    (r.x ≡ x) ∷  -- 8 fluent x equals placeholder a
    ⊥ ∷  -- 9 for some value below x in placeholder b, a
    ⊥ ∷  -- 10 for every value below x in placeholder b, a
    []
    )
    r.kind ⊥

-- formula j is its subformula
unfoldable pub Part : Formula → (j : ℕ) → Type 0
Part r j =
    get_or
    (
    ⊥ ∷  -- 0 true
    ⊥ ∷  -- 1 false
    ⊥ ∷  -- 2 fluent x has value a
    ⊥ ∷  -- 3 fluent x is less than a
    ⊥ ∷  -- 4 fluents x and a have equal values
    (r.a ≡ j) ∷  -- 5 not a
    ((r.a ≡ j) ⊎ (r.b ≡ j)) ∷  -- 6 a and b
    ((r.a ≡ j) ⊎ (r.b ≡ j)) ∷  -- 7 a or b
    ⊥ ∷  -- 8 fluent x equals placeholder a
    (r.a ≡ j) ∷  -- 9 for some value below x in placeholder b, a
    (r.a ≡ j) ∷  -- 10 for every value below x in placeholder b, a
    []
    )
    r.kind ⊥

-- formula j is formula q, or a subformula of it, or of one of these, and so on
pub data Below (formula : ℕ → Formula) : (q j : ℕ) → Type 0 where
  itself : {q : ℕ} → Below formula q q
  through : {q i j : ℕ} → Part (formula q) i → Below formula i j → Below formula q j

-- formula q, or one below it, names fluent x
abbrev pub NamesBelow : (formula : ℕ → Formula) (q x : ℕ) → Type 0
NamesBelow formula q x = (j : ℕ) × Below formula q j × NamesItself (formula j) x
