-- Own vocabulary: what the functions of src/lib.rt ask of the tables, and what they answer: the environments in which an action is possible,
-- and the state after a move (golog/specs/World.antt, of the world written out). Assumes nothing.
use Rattle.std.specs.Prelude.{ℕ, ◌+◌, ◌*◌, ◌%◌, ◌≤◌, ◌<◌, ◌≡◌, Bool, false, List, ◌⊎◌, length}
use Rattle.records.specs.declared.Effect.{Effect}
use Rattle.records.specs.Records.{effect_at, action_at}
use Rattle.records.specs.Placeholders.{environments}
use Rattle.sets.specs.Sets.{Has}
use Rattle.golog.specs.declared.State.{State}
use Rattle.golog.specs.World.{World, start, conflicting, says_in, possible, perform}
use Rattle.golog.specs.Written.{entry_in}
use Rattle.truths.specs.Held.{AllHold}
use Rattle.state.specs.Ranges.{Names, ConditionsBelow}
use Rattle.possible.specs.Written.{Written, size_in}

-- the count effects from number first on lie in their table, name fluents below n, and the table of truths has a set for each condition
pub record ReadableRange (effects table : List ℕ) (n first count : ℕ) : Type 0 where
  pub few : first + count ≤ 512
  pub long : 4 * (first + count) ≤ length effects
  pub names : Names effects n first count
  pub conditions : (i : ℕ) → first ≤ i → i < first + count → 8 * (effect_at effects i).condition + 8 ≤ length table

-- an effect's fluent has a record, and its value byte is a value of the domain or means a placeholder
pub record GivesValue (fluents : List ℕ) (r : Effect) : Type 0 where
  pub known : 2 * r.fluent + 2 ≤ length fluents
  pub few : size_in fluents r.fluent ≤ 16
  pub byte : (r.value < size_in fluents r.fluent) ⊎ ((r.value ≡ 16) ⊎ (r.value ≡ 17))

-- so do those of a range
abbrev pub GiveValues : (fluents effects : List ℕ) (first count : ℕ) → Type 0
GiveValues fluents effects first count = (i : ℕ) → first ≤ i → i < first + count → GivesValue fluents (effect_at effects i)

-- action a has a record, the table of truths a set for its precondition, and its range can be read
pub record Readable (fluents effects actions table : List ℕ) (a : ℕ) : Type 0 where
  pub action : a < 64
  pub known : 6 * a + 6 ≤ length actions
  pub precondition : 8 * (action_at actions a).precondition + 8 ≤ length table
  pub range : ReadableRange effects table 32 (action_at actions a).first (action_at actions a).count
  pub values : GiveValues fluents effects (action_at actions a).first (action_at actions a).count

-- the formulas that it asks are among the first n
pub record AsksBelow (effects actions : List ℕ) (n a : ℕ) : Type 0 where
  pub precondition : (action_at actions a).precondition < n
  pub conditions : ConditionsBelow effects n (action_at actions a).first (action_at actions a).count

-- in no environment do two holding effects of its range contradict each other
abbrev pub NeverConflicts : World → State → (actions : List ℕ) (a : ℕ) → Type 0
NeverConflicts W s actions a =
    (e : ℕ) → e < environments → conflicting (says_in W s) W.effect (512 * e + (action_at actions a).first) (action_at actions a).count ≡ false

-- in every world of the tables, and every state that `table` has the truths of, the set has the environments in which the action is possible;
-- where it is not compared whether its effects contradict each other, they must not
abbrev pub PossibleSet : (fluents effects actions table : List ℕ) (a : ℕ) (compared : Bool) (set : List ℕ) → Type 0
PossibleSet fluents effects actions table a compared set =
    (formulas : List ℕ) (W : World) (s : State) (n : ℕ) → Written fluents formulas effects actions W → AsksBelow effects actions n a → AllHold W s n table
    → (compared ≡ false → NeverConflicts W s actions a) → Has (λ (e : ℕ). possible W (entry_in a e) s) set

-- an entry is an action of the table in an environment, and its range can be read
pub record PerformableEntry (effects actions table : List ℕ) (n entry : ℕ) : Type 0 where
  pub environment : entry < 64 * environments
  pub known : 6 * (entry % 64) + 6 ≤ length actions
  pub range : ReadableRange effects table n (action_at actions (entry % 64)).first (action_at actions (entry % 64)).count

-- so it is unless it is start or stop
abbrev pub Performable : (effects actions table : List ℕ) (n entry : ℕ) → Type 0
Performable effects actions table n entry = entry < start → PerformableEntry effects actions table n entry

-- in every world of the tables, if `table` has the truths of s, r is the state after the move
abbrev pub PerformedState : (effects actions table : List ℕ) (entry : ℕ) (s r : State) → Type 0
PerformedState effects actions table entry s r =
    (fluents formulas : List ℕ) (W : World) (n : ℕ) → Written fluents formulas effects actions W
    → (entry < start → ConditionsBelow effects n (action_at actions (entry % 64)).first (action_at actions (entry % 64)).count) → AllHold W s n table
    → r ≡ perform W entry s
