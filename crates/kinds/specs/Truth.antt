-- To be believed: what a formula says of values, kind by kind (document 01, "Formula"; document 02, F-6), where a value stands for each
-- placeholder that is free in it (golog/specs/Written.antt). That it is so is said a second time, as statements, in golog/specs/Says.antt.
-- Assumes nothing.
use Rattle.std.specs.Prelude.{ℕ, Bool, true, false, not, ◌&&◌, ◌||◌, List, [], ◌∷◌, eqb, ltb, get_or}
use Rattle.records.specs.declared.Formula.{Formula}
use Rattle.records.specs.Some.{some_from, every_from}
use Rattle.records.specs.Placeholders.{put_in}

-- document 01, "Formula": what one says of values, given what the lower ones say
unfoldable pub truth_of : Formula → (values : List ℕ) → (lower : List Bool) → Bool
truth_of r values lower =
    get_or
    (
    true ∷  -- 0 true
    false ∷  -- 1 false
    eqb (get_or values r.x 0) r.a ∷  -- 2 fluent x has value a
    ltb (get_or values r.x 0) r.a ∷  -- 3 fluent x is less than a
    eqb (get_or values r.x 0) (get_or values r.a 0) ∷  -- 4 fluents x and a have equal values
    not (get_or lower r.a false) ∷  -- 5 not a
    (get_or lower r.a false && get_or lower r.b false) ∷  -- 6 a and b
    (get_or lower r.a false || get_or lower r.b false) ∷  -- 7 a or b
    eqb (get_or values r.x 0) r.a ∷  -- 8 fluent x equals a placeholder, in which a stands
    some_from (λ (v : ℕ). get_or lower (put_in r.a r.b v) false) 0 r.x ∷  -- 9 for some value below x in placeholder b, a
    every_from (λ (v : ℕ). get_or lower (put_in r.a r.b v) false) 0 r.x ∷  -- 10 for every value below x in placeholder b, a
    []
    )
    r.kind false
