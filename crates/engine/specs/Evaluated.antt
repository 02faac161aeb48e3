-- To be believed: what evaluating a formula and what a possible-check answer in a state (document 02, F-5): "Evaluating a condition now also
-- returns a 32-bit set"; "a possible-check returns the union for its precondition and its effects' conditions". Assumes nothing.
use Rattle.std.specs.Prelude.{◌≡◌, ℕ, ◌<◌, List, slice_index}
use Rattle.named.specs.Named.{formula_set, action_set}
use Rattle.sheet.specs.Layout.{layout_of}
use Rattle.golog.specs.declared.State.{State}
use Rattle.golog.specs.World as world
use Rattle.demands.specs.Decoded.{world_of}
use Rattle.state.specs.declared.Evaluated.{Evaluated}
use Rattle.state.specs.declared.Possibility.{Possibility}

-- a table has what each formula of a sheet names
abbrev pub FormulasNamed : List ℕ → (sets : List ℕ) → Type 0
FormulasNamed s sets = (q : ℕ) → q < (layout_of s).q → slice_index sets q ≡ formula_set (world_of s).formula q

-- what the precondition of each action and the conditions of its effects name
abbrev pub ActionsNamed : List ℕ → (sets : List ℕ) → Type 0
ActionsNamed s sets =
    (a : ℕ) → a < (layout_of s).a → slice_index sets a ≡ action_set (world_of s).formula (world_of s).effect ((world_of s).action a)

-- formula q of a sheet: whether it holds, and which fluents it names
abbrev pub evaluated : List ℕ → State → (q : ℕ) → Evaluated
evaluated s st q = record { holds = world.holds (world_of s) q st; names = formula_set (world_of s).formula q }

-- action a: whether it is possible, and which fluents its precondition and the conditions of its effects name
abbrev pub possibility : List ℕ → State → (a : ℕ) → Possibility
possibility s st a = record { possible = world.possible (world_of s) a st; names = action_set (world_of s).formula (world_of s).effect ((world_of s).action a) }
