-- To be believed: a sheet's bytes read as a world, a program, initial values and a bound (document 01, "The sheet, read from its end" and
-- "Moves"). Assumes nothing.
use Rattle.std.specs.Prelude.{ℕ, ◌-◌, Bool, false, List, ◌++◌, replicate}
use Rattle.records.specs.Records.{fluent_at, program_at}
use Rattle.records.specs.Table.{up_to}
use Rattle.records.specs.declared.Program.{Program}
use Rattle.height.specs.Height.{interrupts}
use Rattle.height.specs.Work.{levels}
use Rattle.sheet.specs.Layout.{layout_of, fluents_in, formulas_in, effects_in, actions_in, programs_in}
use Rattle.golog.specs.declared.State.{State}
use Rattle.golog.specs.World.{World}
use Rattle.golog.specs.Decoded.{world}
use Rattle.golog.specs.Prog.{program_of, started}
use Rattle.golog.specs.Transitions.{Configuration}

-- the domain sizes, formulas, effects and actions
abbrev pub world_of : List ℕ → World
world_of s = world (fluents_in s (layout_of s)) (formulas_in s (layout_of s)) (effects_in s (layout_of s)) (actions_in s (layout_of s))

-- the program records
abbrev pub records_of : List ℕ → ℕ → Program
records_of s = program_at (programs_in s (layout_of s))

-- the initial values of n fluents
abbrev pub initials : (fluents : List ℕ) → (n : ℕ) → List ℕ
initials fluents n = up_to (λ (x : ℕ) (lower : List ℕ). (fluent_at fluents x).initial) n

-- the first state of n fluents: "32 places, unused ones 0", and interrupts do not run
abbrev pub starting_with : (fluents : List ℕ) → (n : ℕ) → State
starting_with fluents n = record { values = initials fluents n ++ replicate (32 - n) 0; running = false }

abbrev pub initial_of : List ℕ → State
initial_of s = starting_with (fluents_in s (layout_of s)) (layout_of s).f

-- whether any record has kind 11
abbrev pub interrupts_in : List ℕ → Bool
interrupts_in s = interrupts (records_of s) (layout_of s).p

-- the first configuration: what runs, and the initial values. "The last program record is the root"
abbrev pub first_of : List ℕ → Configuration
first_of s = (started (interrupts_in s) (program_of (records_of s) ((layout_of s).p - 1)), initial_of s)

-- the h of the work figure, "the height, plus 2 if any record has kind 11"
abbrev pub levels_of : List ℕ → ℕ
levels_of s = levels (records_of s) (layout_of s).p

-- the bound D
abbrev pub bound_of : List ℕ → ℕ
bound_of s = (layout_of s).d
