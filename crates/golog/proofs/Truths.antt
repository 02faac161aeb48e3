-- Tables made upwards give what the definitions say of single records: an entry of a longer table is the entry itself, and an entry is
-- made of the table of the lower ones. Assumes nothing.
use mathlib.Core.Path.{◌≡◌}
use mathlib.Core.Bool.{false}
use Prim.Native.Nat.{ℕ, ◌<◌}
use lib.ListN.{get_or}
use Rattle.records.specs.declared.Program.{Program}
use Rattle.records.specs.Table.{up_to}
use Rattle.records.proofs.Fills.{up_at, entry_is}
use Rattle.golog.specs.declared.State.{State}
use Rattle.golog.specs.World.{World, truth_at, truths, holds}
use Rattle.golog.specs.Prog.{nil, prog_of, prog_at, program_of}

-- in the table of the first n formulas stands what each says
pub holds_at : (W : World) (s : State) (n q : ℕ) → q < n → get_or (truths W s.values n) q false ≡ holds W q s
unfolding holds
holds_at W s n q h = up_at false (truth_at W s.values) n q h

-- a formula is made of the table of lower ones
pub holds_is : (W : World) (s : State) (q : ℕ) → holds W q s ≡ truth_at W s.values q (truths W s.values q)
unfolding holds
holds_is W s q = entry_is false (truth_at W s.values) q

-- in the table of the first n programs stands the program of each record
pub program_at_lem : (p : ℕ → Program) (n i : ℕ) → i < n → get_or (up_to (prog_at p) n) i nil ≡ program_of p i
unfolding program_of
program_at_lem p n i h = up_at nil (prog_at p) n i h

-- the program of a record is made of the table of lower ones
pub program_is : (p : ℕ → Program) (i : ℕ) → program_of p i ≡ prog_of (p i) (up_to (prog_at p) i)
unfolding program_of
program_is p i = entry_is nil (prog_at p) i
