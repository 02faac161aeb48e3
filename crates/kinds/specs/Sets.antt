-- Own vocabulary: the set of the fluents that a formula names as a number, kind by kind, bit x for fluent x. That its bits are those of
-- Names.antt is proved in proofs/Names.antt. The function `names_of` is in src/formulas.rt. Assumes nothing.
use Rattle.std.specs.Prelude.{ℕ, ◌^◌, cond, List, [], ◌∷◌, ltb, get_or}
use Rattle.std.specs.Int.Bits.{bit_or}
use Rattle.records.specs.declared.Formula.{Formula}

-- the bits of a set of fluents
abbrev pub set_bits : ℕ
set_bits = 32

-- one fluent; none where there is no such bit
abbrev pub bit_of : (x : ℕ) → ℕ
bit_of x = cond (ltb x set_bits) (2 ^ x) 0

-- what a formula names, given the sets of the lower ones
unfoldable pub set_of : Formula → (lower : List ℕ) → ℕ
set_of r lower =
    get_or
    (
    0 ∷  -- 0 true
    0 ∷  -- 1 false
    bit_of r.x ∷  -- 2 fluent x has value a
    bit_of r.x ∷  -- 3 fluent x is less than a
    bit_or (bit_of r.x) (bit_of r.a) ∷  -- 4 fluents x and a have equal values
    get_or lower r.a 0 ∷  -- 5 not a
    bit_or (get_or lower r.a 0) (get_or lower r.b 0) ∷  -- 6 a and b
    bit_or (get_or lower r.a 0) (get_or lower r.b 0) ∷  -- 7 a or b
    bit_of r.x ∷  -- 8 fluent x equals placeholder a
    get_or lower r.a 0 ∷  -- 9 for some value below x in placeholder b, a
    get_or lower r.a 0 ∷  -- 10 for every value below x in placeholder b, a
    []
    )
    r.kind 0
