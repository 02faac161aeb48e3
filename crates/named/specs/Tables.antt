-- Own vocabulary: the sets of a sheet as tables, made once: of each formula, and of each action. That they are
-- the sets of Named.antt is proved in proofs/Tables.antt. Assumes nothing.
use Rattle.std.specs.Prelude.{ℕ, zero, suc, ◌+◌, ◌-◌, ◌*◌, ◌≤◌, ◌<◌, List, ◌++◌, ◌≡◌, length, get_or, replicate}
use Rattle.std.specs.Int.Bits.{bit_or}
use Rattle.records.specs.declared.Formula.{Formula}
use Rattle.records.specs.declared.Effect.{Effect}
use Rattle.records.specs.declared.Action.{Action}
use Rattle.records.specs.Records.{formula_at, effect_at, action_at}
use Rattle.records.specs.Table.{up_to}
use Rattle.kinds.specs.Sets.{set_of}
use Rattle.named.specs.Named.{formula_set, action_set}

-- the places of the two tables: a sheet has at most 512 formulas and 64 actions
abbrev pub most_sets : ℕ
most_sets = 512

abbrev pub most_actions : ℕ
most_actions = 64

-- the union of the k sets from number i on
unfoldable pub or_from : (ℕ → ℕ) → (i k : ℕ) → ℕ
or_from set i zero = 0
or_from set i (suc k) = bit_or (or_from set i k) (set (i + k))

-- formula i of the table t, given the sets of the lower ones
abbrev pub set_in : (t : List ℕ) → ℕ → (lower : List ℕ) → ℕ
set_in t i lower = set_of (formula_at t i) lower

-- the sets of the first n formulas, and none in the places after them
unfoldable pub sets_of : (t : List ℕ) (n : ℕ) → List ℕ
sets_of t n = up_to (set_in t) n ++ replicate (most_sets - n) 0

-- the union of the first n sets of a table
abbrev pub union_of : (sets : List ℕ) (n : ℕ) → ℕ
union_of sets n = or_from (λ (q : ℕ). get_or sets q 0) 0 n

-- what the conditions of the k effects from number i on name, by a table of sets
abbrev pub conditions_by : (effects sets : List ℕ) (i k : ℕ) → ℕ
conditions_by effects sets i k = or_from (λ (e : ℕ). get_or sets (effect_at effects e).condition 0) i k

-- "the union for its precondition and its effects' conditions", by a table of sets
abbrev pub action_set_by : (effects sets : List ℕ) → Action → ℕ
action_set_by effects sets r = bit_or (get_or sets r.precondition 0) (conditions_by effects sets r.first r.count)

-- so of action a; it needs none of the lower ones
abbrev pub action_set_in : (effects actions sets : List ℕ) → ℕ → (lower : List ℕ) → ℕ
action_set_in effects actions sets a lower = action_set_by effects sets (action_at actions a)

-- so of each of the first n actions, and none in the places after them
unfoldable pub action_sets_of : (effects actions sets : List ℕ) (n : ℕ) → List ℕ
action_sets_of effects actions sets n = up_to (action_set_in effects actions sets) n ++ replicate (most_actions - n) 0

-- `sets` has what each of the first n formulas names
abbrev pub AreSets : (formula : ℕ → Formula) (n : ℕ) (sets : List ℕ) → Type 0
AreSets formula n sets = (q : ℕ) → q < n → get_or sets q 0 ≡ formula_set formula q

-- `sets` has what the precondition of each of the first n actions and the conditions of its effects name
abbrev pub AreActionSets : (formula : ℕ → Formula) (effect : ℕ → Effect) (action : ℕ → Action) (n : ℕ) (sets : List ℕ) → Type 0
AreActionSets formula effect action n sets = (a : ℕ) → a < n → get_or sets a 0 ≡ action_set formula effect (action a)

-- each of the first n actions has a record, whose range lies in the table of effects
abbrev pub Ranged : (effects actions : List ℕ) (n : ℕ) → Type 0
Ranged effects actions n =
    (a : ℕ) → a < n → (6 * a + 6 ≤ length actions) × (4 * ((action_at actions a).first + (action_at actions a).count) ≤ length effects)
