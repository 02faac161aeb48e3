-- Own vocabulary: what the fields of a formula are, a column for each, a place for each of the kinds 0 true, 1 false, 2 fluent x has
-- value a, 3 fluent x is less than a, 4 fluents x and a have equal values, 5 not a, 6 a and b, 7 a or b, 8 fluent x equals placeholder a,
-- 9, 10 for some, for every value below x in placeholder b, a. That these roles are document 01's rule is proved in
-- proofs/FormulaFields.antt. The functions of these names are in src/formulas.rt. Assumes nothing.
use Rattle.std.specs.Prelude.{ℕ, ◌<◌, ◌⊎◌, ◌≡◌, Bool, true, false, ◌&&◌, List, [], ◌∷◌, T, eqb, ltb, leb, get_or, Option, Some, None}
use Rattle.records.specs.Records.{formula_at}
use Rattle.records.specs.Placeholders.{put_in}
use Rattle.records.specs.declared.Formula.{Formula}
use Rattle.kinds.specs.declared.formulas.Kind.{Kind}
use Rattle.kinds.specs.declared.formulas.Kind.TheVariants.{True, False, HasValue, LessThan, EqualValues, Not, And, Or, EqualsPlaceholder, ForSome, ForEvery}
use Rattle.kinds.specs.declared.formulas.Field.{Field}
use Rattle.kinds.specs.declared.formulas.Field.TheVariants.{Unused, Fluent, Value, Limit, Lower, Placeholder, Choices}

-- the kind of a number, and its number
abbrev pub kind_of : ℕ → Option Kind
kind_of number =
    get_or
    (
    Some True ∷ Some False ∷ Some HasValue ∷ Some LessThan ∷ Some EqualValues ∷ Some Not ∷ Some And ∷ Some Or
    ∷ Some EqualsPlaceholder ∷ Some ForSome ∷ Some ForEvery ∷ []
    )
    number None

abbrev pub number_of : Kind → ℕ
number_of True = 0
number_of False = 1
number_of HasValue = 2
number_of LessThan = 3
number_of EqualValues = 4
number_of Not = 5
number_of And = 6
number_of Or = 7
number_of EqualsPlaceholder = 8
number_of ForSome = 9
number_of ForEvery = 10

-- what x, a and b are
unfoldable pub field_x : ℕ → Field
field_x kind =
    get_or (Unused ∷ Unused ∷ Fluent ∷ Fluent ∷ Fluent ∷ Unused ∷ Unused ∷ Unused ∷ Fluent ∷ Choices ∷ Choices ∷ []) kind Unused

unfoldable pub field_a : ℕ → Field
field_a kind = get_or (Unused ∷ Unused ∷ Value ∷ Limit ∷ Fluent ∷ Lower ∷ Lower ∷ Lower ∷ Placeholder ∷ Lower ∷ Lower ∷ []) kind Unused

unfoldable pub field_b : ℕ → Field
field_b kind =
    get_or (Unused ∷ Unused ∷ Unused ∷ Unused ∷ Unused ∷ Unused ∷ Lower ∷ Lower ∷ Unused ∷ Placeholder ∷ Placeholder ∷ []) kind Unused

-- a field keeps its role, in formula i of a sheet with nf fluents, where size is the domain size of fluent x
abbrev pub field_ok : (nf size i : ℕ) → Field → ℕ → Bool
field_ok nf size i Unused x = eqb x 0
field_ok nf size i Fluent x = ltb x nf
field_ok nf size i Value x = ltb x size
field_ok nf size i Limit x = leb x size
field_ok nf size i Lower x = ltb x i
field_ok nf size i Placeholder x = ltb x 2
field_ok nf size i Choices x = ltb 0 x && leb x 16

-- the kind is known, and each field keeps its role
unfoldable pub formula_ok : (nf size i : ℕ) → Formula → Bool
formula_ok nf size i r =
    leb r.kind 7
    && field_ok nf size i (field_x r.kind) r.x
    && field_ok nf size i (field_a r.kind) r.a
    && field_ok nf size i (field_b r.kind) r.b

abbrev pub is_lower : Field → Bool
is_lower Unused = false
is_lower Fluent = false
is_lower Value = false
is_lower Limit = false
is_lower Lower = true
is_lower Placeholder = false
is_lower Choices = false

abbrev pub is_value : Field → Bool
is_value Unused = false
is_value Fluent = false
is_value Value = true
is_value Limit = false
is_value Lower = false
is_value Placeholder = false
is_value Choices = false

-- it asks that fluent x has the value a
abbrev pub asks_value : ℕ → Bool
asks_value kind = is_value (field_a kind)

-- its part a, its part b is a formula
abbrev pub has_a : ℕ → Bool
has_a kind = is_lower (field_a kind)

abbrev pub has_b : ℕ → Bool
has_b kind = is_lower (field_b kind)

-- "In 5 to 7, a and b are formulas with lower numbers": of formula q, those that its kind has
abbrev pub PartsLower : (q : ℕ) → Formula → Type 0
PartsLower q r = (T (has_a r.kind) → r.a < q) × (T (has_b r.kind) → r.b < q)

-- so of the first n formulas of the table t
abbrev pub LowerFormulas : (t : List ℕ) (n : ℕ) → Type 0
LowerFormulas t n = (i : ℕ) → i < n → PartsLower i (formula_at t i)

-- what its truth depends on: the value of fluent x
unfoldable pub Asks : Formula → (x : ℕ) → Type 0
Asks r x = get_or (⊥ ∷ ⊥ ∷ (r.x ≡ x) ∷ (r.x ≡ x) ∷ ((r.x ≡ x) ⊎ (r.a ≡ x)) ∷ ⊥ ∷ ⊥ ∷ ⊥ ∷ (r.x ≡ x) ∷ []) r.kind ⊥

-- for some value below x in placeholder b, reading j is the one of a with it
abbrev pub Chosen : Formula → (j : ℕ) → Type 0
Chosen r j = (v : ℕ) × (v < r.x) × (put_in r.a r.b v ≡ j)

-- and what formula j says, where it is read in an environment
unfoldable pub Reads : Formula → (j : ℕ) → Type 0
Reads r j =
    get_or (⊥ ∷ ⊥ ∷ ⊥ ∷ ⊥ ∷ ⊥ ∷ (r.a ≡ j) ∷ ((r.a ≡ j) ⊎ (r.b ≡ j)) ∷ ((r.a ≡ j) ⊎ (r.b ≡ j)) ∷ ⊥ ∷ Chosen r j ∷ Chosen r j ∷ []) r.kind ⊥

-- it has no placeholder
abbrev pub is_plain : ℕ → Bool
is_plain kind = ltb kind 8

-- so of the first n formulas of the table t
abbrev pub PlainFormulas : (t : List ℕ) (n : ℕ) → Type 0
PlainFormulas t n = (i : ℕ) → i < n → T (is_plain (formula_at t i).kind)
