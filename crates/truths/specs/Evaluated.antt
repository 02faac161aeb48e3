-- Own vocabulary: what the functions of src/lib.rt ask and answer. What a formula says in an environment, kind by kind, is stated here from
-- what its parts say there; that formulas hold so is proved in proofs/Said.antt. Assumes nothing.
use Rattle.std.specs.Prelude.{ℕ, ◌+◌, ◌*◌, ◌≤◌, ◌<◌, ◌≡◌, Bool, true, false, not, cond, ◌&&◌, ◌||◌, List, [], ◌∷◌, T, eqb, ltb, length, get_or}
use Rattle.records.specs.declared.Formula.{Formula}
use Rattle.records.specs.Placeholders.{look, put, reading}
use Rattle.records.specs.Some.{some_from, every_from}
use Rattle.kinds.specs.Formulas.{has_a, has_b}
use Rattle.sets.specs.Sets.{Has, set_at}
use Rattle.golog.specs.declared.State.{State}
use Rattle.golog.specs.World.{World, holds}
use Rattle.truths.specs.Held.{RuledFormulas, WrittenFrom, HoldsIn, AllHold}

-- of the values below n some, or with `every` each, has what a test says
abbrev pub among_values : (every : Bool) → (ℕ → Bool) → (n : ℕ) → Bool
among_values every has n = cond every (every_from has 0 n) (some_from has 0 n)

-- what a formula says of values in the environment e, where `says q d` is what formula q says in d
unfoldable pub said_in : (says : (q d : ℕ) → Bool) → Formula → (values : List ℕ) → (e : ℕ) → Bool
said_in says r values e =
    get_or
    (
    true ∷  -- 0 true
    false ∷  -- 1 false
    eqb (get_or values r.x 0) r.a ∷  -- 2 fluent x has value a
    ltb (get_or values r.x 0) r.a ∷  -- 3 fluent x is less than a
    eqb (get_or values r.x 0) (get_or values r.a 0) ∷  -- 4 fluents x and a have equal values
    not (says r.a e) ∷  -- 5 not a
    (says r.a e && says r.b e) ∷  -- 6 a and b
    (says r.a e || says r.b e) ∷  -- 7 a or b
    eqb (get_or values r.x 0) (look e r.a) ∷  -- 8 fluent x equals placeholder a
    among_values false (λ (v : ℕ). says r.a (put e r.b v)) r.x ∷  -- 9 for some value below x in placeholder b, a
    among_values true (λ (v : ℕ). says r.a (put e r.b v)) r.x ∷  -- 10 for every value below x in placeholder b, a
    []
    )
    r.kind false

-- a formula without parts, and a placeholder if it names one
abbrev pub Atomic : Formula → Type 0
Atomic r = (has_a r.kind ≡ false) × (r.kind ≡ 8 → r.a < 2)

-- the set has the environments in which it holds, whatever the other formulas say
abbrev pub AtomSet : Formula → (values set : List ℕ) → Type 0
AtomSet r values set = (says : (q d : ℕ) → Bool) → Has (said_in says r values) set

-- a formula that goes through no values; the table is long enough for the sets of its parts
pub record Composable (r : Formula) (table : List ℕ) : Type 0 where
  pub unquantified : r.kind < 9
  pub named : r.kind ≡ 8 → r.a < 2
  pub has_a : T (has_a r.kind) → 8 * r.a + 8 ≤ length table
  pub has_b : T (has_b r.kind) → 8 * r.b + 8 ≤ length table

-- the set has the environments in which it holds, if the table has what its parts say
abbrev pub ComposedSet : Formula → (values table set : List ℕ) → Type 0
ComposedSet r values table set =
    (says : (q d : ℕ) → Bool)
    → (T (has_a r.kind) → Has (says r.a) (set_at table r.a))
    → (T (has_b r.kind) → Has (says r.b) (set_at table r.b))
    → Has (said_in says r values) set

-- formula i and the lower ones are there and keep their rules; there is room for the sets of those below `filled`
pub record Evaluable (formulas table : List ℕ) (filled i : ℕ) : Type 0 where
  pub long : 6 * i + 6 ≤ length formulas
  pub ruled : RuledFormulas formulas (i + 1)
  pub room : 8 * filled ≤ length table

-- in every world that has the formulas and every state that has the values, if the table has the sets of the formulas below `filled`
abbrev pub Wherever : (formulas values table : List ℕ) (filled : ℕ) → (World → State → Type 0) → Type 0
Wherever formulas values table filled P =
    (W : World) (s : State) → WrittenFrom formulas W → s.values ≡ values → AllHold W s filled table → P W s

-- there, the set has the environments in which formula i holds
abbrev pub EvaluatedSet : (formulas values table : List ℕ) (filled i : ℕ) (set : List ℕ) → Type 0
EvaluatedSet formulas values table filled i set = Wherever formulas values table filled (λ (W : World) (s : State). HoldsIn W s i set)

-- there, those in which formula a holds with some value, with `every` each value, below n in placeholder c
abbrev pub WalkedSet : (formulas values table : List ℕ) (filled a c n : ℕ) (every : Bool) (set : List ℕ) → Type 0
WalkedSet formulas values table filled a c n every set =
    Wherever formulas values table filled
    (λ (W : World) (s : State). Has (λ (e : ℕ). among_values every (λ (v : ℕ). holds W (reading a (put e c v)) s) n) set)

-- the table has the sets of the first n formulas in the states with these values now, and every other word is as it was
pub record Filled (formulas values : List ℕ) (n : ℕ) (table table' : List ℕ) : Type 0 where
  pub len : length table' ≡ length table
  pub held : (W : World) (s : State) → WrittenFrom formulas W → s.values ≡ values → AllHold W s n table'
  pub words : (k : ℕ) → 8 * n ≤ k → get_or table' k 0 ≡ get_or table k 0
