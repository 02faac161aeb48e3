-- Own vocabulary: what the formulas of a table say of values, as a table over what stood in it before. Assumes nothing.
use Rattle.std.specs.Prelude.{ℕ, ◌<◌, ◌≡◌, Bool, false, List, ◌++◌, get_or, drop}
use Rattle.records.specs.Records.{formula_at}
use Rattle.records.specs.Table.{up_to}
use Rattle.kinds.specs.Truth.{truth_of}
use Rattle.golog.specs.declared.State.{State}
use Rattle.golog.specs.World.{World, holds}

-- document 01, "Formula": formula i of the table t, given what the lower ones say (golog's `truth_at`)
abbrev pub truth_in : (t values : List ℕ) → ℕ → (lower : List Bool) → Bool
truth_in t values i lower = truth_of (formula_at t i) values lower

-- the first n formulas, and in the places after them what was there
unfoldable pub truths_of : (t values : List ℕ) → ℕ → (old : List Bool) → List Bool
truths_of t values n old = up_to (truth_in t values) n ++ drop n old

-- what each formula says, by a table of truths
abbrev pub said_by : (truths : List Bool) → ℕ → Bool
said_by truths q = get_or truths q false

-- `truths` has what each of the first n formulas says in s
abbrev pub AreTruths : World → State → ℕ → List Bool → Type 0
AreTruths W s n truths = (q : ℕ) → q < n → said_by truths q ≡ holds W q s
