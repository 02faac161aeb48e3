-- To be believed: what formulas say, kind by kind, as statements about values: the second reading of document 01's "Formula" beside the
-- computed one (`truth_of`, kinds/specs/Truth.antt). The theorem of proofs/Formulas.antt says that the two agree. Assumes nothing.
use Rattle.std.specs.Prelude.{ℕ, ◌<◌, [], ◌∷◌, ◌⊎◌, ◌≡◌, T, get_or}
use Rattle.records.specs.declared.Formula.{Formula}
use Rattle.records.specs.Placeholders.{put_in}
use Rattle.golog.specs.declared.State.{State}
use Rattle.golog.specs.World.{World, holds}

-- the value of fluent x
abbrev pub value_of : State → ℕ → ℕ
value_of s x = get_or s.values x 0

-- what a formula says of a state; one of unknown kind never holds
unfoldable pub Says : World → State → Formula → Type 0
Says W s r =
    get_or
    (
    Unit {0} ∷  -- 0 true
    ⊥ ∷  -- 1 false
    (value_of s r.x ≡ r.a) ∷  -- 2 fluent x has value a
    (value_of s r.x < r.a) ∷  -- 3 fluent x is less than a
    (value_of s r.x ≡ value_of s r.a) ∷  -- 4 fluents x and a have equal values
    (¬ T (holds W r.a s)) ∷  -- 5 not a
    (T (holds W r.a s) × T (holds W r.b s)) ∷  -- 6 a and b
    (T (holds W r.a s) ⊎ T (holds W r.b s)) ∷  -- 7 a or b
    (value_of s r.x ≡ r.a) ∷  -- 8 fluent x equals a placeholder, in which a stands
    ((v : ℕ) × (v < r.x) × T (holds W (put_in r.a r.b v) s)) ∷  -- 9 for some value below x in placeholder b, a
    ((v : ℕ) → v < r.x → T (holds W (put_in r.a r.b v) s)) ∷  -- 10 for every value below x in placeholder b, a
    []
    )
    r.kind ⊥
