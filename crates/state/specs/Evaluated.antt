-- Own vocabulary: what evaluating a formula and what a possible-check answer (document 02, F-5), by tables: truth or possibility from what is
-- told of a state, and the fluents named, bit x for fluent x, from what is told once of the sheet. Assumes nothing.
use Rattle.std.specs.Prelude.{ℕ, Bool, cond, List, get_or}
use Rattle.golog.specs.World.{special}
use Rattle.state.specs.Truths.{said_by}
use Rattle.state.specs.Conflicts.{allowed_by}
use Rattle.state.specs.declared.Evaluated.{Evaluated}
use Rattle.state.specs.declared.Possibility.{Possibility}

-- formula q, where `sets` has what each formula names
abbrev pub evaluated_by : (truths : List Bool) (sets : List ℕ) (q : ℕ) → Evaluated
evaluated_by truths sets q = record { holds = said_by truths q; names = get_or sets q 0 }

-- "a possible-check returns the union for its precondition and its effects' conditions": `sets` has it for each action; start and stop ask
-- for nothing
abbrev pub named_by : (sets : List ℕ) (a : ℕ) → ℕ
named_by sets a = cond (special a) 0 (get_or sets a 0)

abbrev pub possibility_by : (actions : List ℕ) (truths conflicted : List Bool) (sets : List ℕ) (a : ℕ) → Possibility
possibility_by actions truths conflicted sets a = record { possible = allowed_by actions truths conflicted a; names = named_by sets a }
