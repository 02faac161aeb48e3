-- Own vocabulary: what is told once of a sheet with placeholders, and what is told of a state. Assumes nothing.
use Rattle.std.specs.Prelude.{ℕ, ◌*◌, ◌≤◌, ◌<◌, ◌≡◌, Bool, true, false, not, cond, List, T, eqb, length, get_or}
use Rattle.std.proofs.Math.Option.{Option, none, some}
use Rattle.records.specs.Records.{action_at, program_at}
use Rattle.kinds.specs.Programs.{acts}
use Rattle.sets.specs.Sets.{set_words, Has, set_at}
use Rattle.golog.specs.declared.State.{State}
use Rattle.golog.specs.World.{World, possible, after}
use Rattle.golog.specs.Written.{entry_in}
use Rattle.truths.specs.Held.{AllHold}
use Rattle.state.specs.Conflicts.{most_actions}
use Rattle.state.specs.Exclusion.{Exclusive}
use Rattle.possible.specs.Written.{Written}
use Rattle.possible.specs.Possible.{Readable, AsksBelow, NeverConflicts}
use Rattle.leaves.specs.Endable.{final_bounds_of}
use Rattle.leaves.specs.Distances.{distances_of}
use Rattle.enabled.specs.Spans.{spans_of}
use Rattle.enabled.specs.Filled.{most_formulas, possible_set, table_sets, Known}
use Rattle.positions.specs.Levels.{digits_of}
use Rattle.steps.specs.Laid.{test_code}
use Rattle.machine.specs.declared.Shape.{Shape}
use Rattle.machine.specs.Tables.{spans_on, digits_on, distances_on, marks_on, sets_at, places, records_of, many_of}

-- the mark of an action: 0 where no record performs it, 1 where its effects contradict each other in no state, else 2
abbrev pub mark_of : (performed conflicts : Bool) → ℕ
mark_of performed conflicts = cond performed (cond conflicts 2 1) 0

-- the first n records perform action a
abbrev pub Performs : (programs : List ℕ) (n a : ℕ) → Type 0
Performs programs n a = (i : ℕ) × (i < n) × T (acts (program_at programs i).kind) × ((program_at programs i).a ≡ a)

-- effects of action a that give one fluent different value bytes stand under conditions that exclude each other
abbrev pub Harmless : (formulas effects actions : List ℕ) (a : ℕ) → Type 0
Harmless formulas effects actions a = Exclusive formulas effects (action_at actions a).first (action_at actions a).count

-- the marks of the actions
pub record Marks (formulas effects actions programs : List ℕ) (n : ℕ) (marks : List ℕ) : Type 0 where
  pub performed : (a : ℕ) → a < most_actions → Performs programs n a → ¬ (get_or marks a 0 ≡ 0)
  pub only : (a : ℕ) → ¬ (get_or marks a 0 ≡ 0) → Performs programs n a
  pub harmless : (a : ℕ) → get_or marks a 0 ≡ 1 → Harmless formulas effects actions a

-- what is told once stands among the numbers
pub record Told (formulas effects actions programs : List ℕ) (v : Shape) (numbers : List ℕ) : Type 0 where
  pub long : length numbers ≡ places
  pub spans_are : spans_on numbers ≡ spans_of (records_of programs v) (many_of v)
  pub digits_are :
      digits_on numbers ≡ digits_of (records_of programs v) (many_of v) (final_bounds_of true (records_of programs v) (many_of v)) (spans_of (records_of programs v) (many_of v))
  pub distances_are : distances_on numbers ≡ distances_of (records_of programs v) (many_of v)
  pub marks_are : Marks formulas effects actions programs v.p (marks_on numbers)

-- there is room for the sets of a state, and the marked actions can be read by those of formulas
pub record ReadableMarked (fluents effects actions marks table : List ℕ) : Type 0 where
  pub len : length marks ≡ most_actions
  pub room : set_words * table_sets ≤ length table
  pub each : (a : ℕ) → ¬ (get_or marks a 0 ≡ 0) → Readable fluents effects actions table a

-- the set has the environments in which action a is possible, wherever the sets of formulas tell of the state; `compared`, its effects may
-- contradict each other
abbrev pub SetOf : (fluents effects actions old : List ℕ) (a : ℕ) (compared : Bool) (set : List ℕ) → Type 0
SetOf fluents effects actions old a compared set =
    (formulas : List ℕ) (W : World) (s : State) (n : ℕ) → n ≤ most_formulas → Written fluents formulas effects actions W → AsksBelow effects actions n a
    → AllHold W s n old → (compared ≡ false → NeverConflicts W s actions a) → Has (λ (e : ℕ). possible W (entry_in a e) s) set

-- so of the marked actions among the first k; the sets of formulas and records are as they were
pub record ActionsFilled (fluents effects actions marks : List ℕ) (k : ℕ) (old table : List ℕ) : Type 0 where
  pub len : length table ≡ length old
  pub below : (j : ℕ) → j < possible_set 0 → set_at table j ≡ set_at old j
  pub each : (a : ℕ) → a < k → ¬ (get_or marks a 0 ≡ 0) → SetOf fluents effects actions old a (not (eqb (get_or marks a 0) 1)) (set_at table (possible_set a))

-- the sets are those of the state s, in every world of the tables: where formulas hold, where records are final and where they are enabled
pub record SetsKnown (fluents formulas effects actions programs : List ℕ) (v : Shape) (s : State) (table : List ℕ) : Type 0 where
  pub held : (W : World) → Written fluents formulas effects actions W → AllHold W s v.q table
  pub known : (W : World) → Written fluents formulas effects actions W → Known W s (records_of programs v) (many_of v) table

-- what is told once, and for depth d of the state s, stands among the numbers
pub record StateTold (fluents formulas effects actions programs : List ℕ) (v : Shape) (s : State) (d : ℕ) (numbers : List ℕ) : Type 0 where
  pub told : Told formulas effects actions programs v numbers
  pub sets_known : SetsKnown fluents formulas effects actions programs v s (sets_at d numbers)

-- the move of a transition by its code: none where it is a test
abbrev pub move_of : (entry : ℕ) → Option ℕ
move_of entry = cond (eqb entry test_code) none (some entry)

-- in every world of the tables, if `table` has the truths of s, r is the state after the move
abbrev pub StateAfter : (effects actions table : List ℕ) (q entry : ℕ) (s r : State) → Type 0
StateAfter effects actions table q entry s r =
    (fluents formulas : List ℕ) (W : World) → Written fluents formulas effects actions W → AllHold W s q table → r ≡ after W (move_of entry) s
