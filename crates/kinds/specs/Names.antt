-- To be believed: which fluents a formula names, kind by kind (document 02, F-5: "the fluents its formula names, through all its
-- subformulas"). In 9 and 10 x is a number of values and no fluent. Assumes nothing.
use Rattle.std.specs.Prelude.{ℕ, Bool, false, ◌||◌, List, [], ◌∷◌, eqb, get_or}
use Rattle.records.specs.declared.Formula.{Formula}

-- whether a formula names fluent x, given which of the lower ones do
unfoldable pub names_of : Formula → (x : ℕ) → (lower : List Bool) → Bool
names_of r x lower =
    get_or
    (
    false ∷  -- 0 true
    false ∷  -- 1 false
    eqb r.x x ∷  -- 2 fluent x has value a
    eqb r.x x ∷  -- 3 fluent x is less than a
    (eqb r.x x || eqb r.a x) ∷  -- 4 fluents x and a have equal values
    get_or lower r.a false ∷  -- 5 not a
    (get_or lower r.a false || get_or lower r.b false) ∷  -- 6 a and b
    (get_or lower r.a false || get_or lower r.b false) ∷  -- 7 a or b
    eqb r.x x ∷  -- 8 fluent x equals placeholder a
    get_or lower r.a false ∷  -- 9 for some value below x in placeholder b, a
    get_or lower r.a false ∷  -- 10 for every value below x in placeholder b, a
    []
    )
    r.kind false
