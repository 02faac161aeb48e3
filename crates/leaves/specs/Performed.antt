-- Own vocabulary: which actions the program records perform, told once of a sheet. Assumes nothing.
use Rattle.std.specs.Prelude.{ℕ, ◌<◌, ◌≡◌, Bool, true, false, List, T, get_or}
use Rattle.records.specs.declared.Program.{Program}
use Rattle.kinds.specs.Programs.{acts}
use Rattle.state.specs.Conflicts.{most_actions}

-- the marks have the actions that the first n records of p perform, and no others
pub record Performed (p : ℕ → Program) (n : ℕ) (marks : List Bool) : Type 0 where
  pub all : (i : ℕ) → i < n → T (acts (p i).kind) → (p i).a < most_actions → get_or marks (p i).a false ≡ true
  pub only : (a : ℕ) → get_or marks a false ≡ true → (i : ℕ) × (i < n) × T (acts (p i).kind) × ((p i).a ≡ a)
