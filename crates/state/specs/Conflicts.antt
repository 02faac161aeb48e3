-- Own vocabulary: which actions' effects are compared in a state, and which of these contradict each other there (document 02, F-2). Assumes
-- nothing.
use Rattle.std.specs.Prelude.{ℕ, ◌<◌, ◌≡◌, Bool, true, false, not, ◌&&◌, ◌||◌, List, eqb, get_or}
use Rattle.records.specs.declared.Action.{Action}
use Rattle.records.specs.Records.{effect_at, action_at}
use Rattle.golog.specs.World.{special, conflicting}
use Rattle.state.specs.Truths.{said_by}
use Rattle.state.specs.Ranges.{Performable}

-- something was noted and it is another: `noted` is 0 where nothing was, and else, as `given`, from 1 on
abbrev pub differs : (noted given : ℕ) → Bool
differs noted given = not (eqb noted 0) && not (eqb noted given)

-- the actions that a sheet may have
abbrev pub most_actions : ℕ
most_actions = 64

-- a list of actions: how many there are stands behind the places for all
abbrev pub listed_count : (list : List ℕ) → ℕ
listed_count list = get_or list most_actions 0

abbrev pub Listed : (list : List ℕ) (a : ℕ) → Type 0
Listed list a = (j : ℕ) × (j < listed_count list) × (get_or list j 0 ≡ a)

-- the list has the marked numbers, and no others
pub record Lists (marks : List Bool) (list : List ℕ) : Type 0 where
  pub marked : (a : ℕ) → Listed list a → get_or marks a false ≡ true
  pub all : (a : ℕ) → get_or marks a false ≡ true → Listed list a

-- the precondition holds, but effects that hold contradict each other
abbrev pub in_conflict : (effects : List ℕ) (truths : List Bool) → Action → Bool
in_conflict effects truths r = said_by truths r.precondition && conflicting (said_by truths) (effect_at effects) r.first r.count

-- only such actions are marked, and of those listed all such
pub record Conflicted (effects actions list : List ℕ) (truths conflicted : List Bool) : Type 0 where
  pub sound : (a : ℕ) → get_or conflicted a false ≡ true → in_conflict effects truths (action_at actions a) ≡ true
  pub whole : (a : ℕ) → Listed list a → in_conflict effects truths (action_at actions a) ≡ true → get_or conflicted a false ≡ true

-- each action listed has a record, whose range lies in the table of effects and names fluents that there can be
abbrev pub ReadableListed : (effects actions list : List ℕ) → Type 0
ReadableListed effects actions list = (a : ℕ) → Listed list a → (a < most_actions) × Performable effects actions 32 a

-- whether an action is possible, by truths and by which actions are in conflict
abbrev pub allowed_by : (actions : List ℕ) (truths conflicted : List Bool) → ℕ → Bool
allowed_by actions truths conflicted a = special a || (said_by truths (action_at actions a).precondition && not (get_or conflicted a false))
