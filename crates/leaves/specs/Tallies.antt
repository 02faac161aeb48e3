-- Own vocabulary: two tables of a state, a place for each program record: whether the record is final, and how many transitions it has (document 01,
-- "Steps and endings"). Assumes nothing.
use Rattle.std.specs.Prelude.{ℕ, ◌+◌, ◌-◌, ◌<◌, min, ◌≡◌, Bool, true, false, cond, List, ◌++◌, map, T, length, get_or, drop, replicate}
use Rattle.records.specs.declared.Program.{Program}
use Rattle.records.specs.Table.{up_to}
use Rattle.kinds.specs.Programs.{has_condition, acts, tests, count_by}
use Rattle.golog.specs.declared.State.{State}
use Rattle.golog.specs.World.{World, holds, possible}
use Rattle.state.specs.Conflicts.{allowed_by}
use Rattle.state.specs.Ranges.{InActions}
use Rattle.remaining.specs.Extended.{most_records}
use Rattle.remaining.specs.Leaves.{Leaf, leaf_at}

-- counts end here: a record that the root does not reach may be of any height, and so have more transitions than a number holds
abbrev pub cap : ℕ
cap = 1000000

-- how many transitions, up to there
abbrev pub capped_count : Leaf → ℕ
capped_count l = min cap (length l.transitions)

-- the records of the table that runs: the n of the sheet, and four more where there are interrupts
abbrev pub extended_size : (interrupts : Bool) (n : ℕ) → ℕ
extended_size interrupts n = n + cond interrupts 4 0

-- whether each of the first m records of p is final, and in the places after them what nil is
unfoldable pub finals_of : World → State → (ℕ → Program) → (m : ℕ) → List Bool
finals_of W s p m = map (λ (l : Leaf). l.final) (up_to (leaf_at W s p) m) ++ replicate (most_records - m) true

-- how many transitions each of them has
unfoldable pub counts_of : World → State → (ℕ → Program) → (m : ℕ) → List ℕ
counts_of W s p m = map capped_count (up_to (leaf_at W s p) m) ++ replicate (most_records - m) 0

-- how many transitions a record has, up to there, by tables of actions, of truths, of actions in conflict and of lower records
abbrev pub capped_count_by : Program → (actions : List ℕ) (truths conflicted : List Bool) (running : Bool) (finals : List Bool) (counts : List ℕ) → ℕ
capped_count_by r actions truths conflicted running finals counts = min cap (count_by r (allowed_by actions truths conflicted r.a) truths running finals counts)

-- the action of a record that performs one is start, stop or in the table
abbrev pub ReadsActions : (actions : List ℕ) → (ℕ → Program) → Type 0
ReadsActions actions p = (i : ℕ) → T (acts (p i).kind) → InActions actions (p i).a

-- `truths` and `can` say of a state what the record asks of it: the fields that its kind has, and no others
pub record SeesRecord (W : World) (s : State) (truths : List Bool) (can : ℕ → Bool) (r : Program) : Type 0 where
  pub condition : T (has_condition r.kind) → get_or truths r.c false ≡ holds W r.c s
  pub test : T (tests r.kind) → get_or truths r.a false ≡ holds W r.a s
  pub act : T (acts r.kind) → can r.a ≡ possible W r.a s

-- so for the first m records of p; and `running` is whether interrupts run
pub record Sees (W : World) (s : State) (p : ℕ → Program) (m : ℕ) (truths : List Bool) (can : ℕ → Bool) (running : Bool) : Type 0 where
  pub runs : s.running ≡ running
  pub each : (i : ℕ) → i < m → SeesRecord W s truths can (p i)

-- the table has how many transitions each of the first m records has in every state that is seen so, and after them what was there
abbrev pub Tallied : (p : ℕ → Program) (m : ℕ) (actions : List ℕ) (truths conflicted : List Bool) (running : Bool) (old counts : List ℕ) → Type 0
Tallied p m actions truths conflicted running old counts =
    (W : World) (s : State) → Sees W s p m truths (allowed_by actions truths conflicted) running → counts ≡ map capped_count (up_to (leaf_at W s p) m) ++ drop m old
