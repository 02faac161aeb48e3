-- Own vocabulary: the height of program records, and whether any has kind 11, computed (document 01: "Height is the most links from program
-- record to program record on a path down from the root"). That they are so is proved in proofs/Paths.antt and proofs/Levels.antt.
-- Assumes nothing.
use Rattle.std.specs.Prelude.{ℕ, suc, ◌-◌, max, List, [], ◌∷◌, Bool, not, get_or, eqb, ltb}
use Rattle.records.specs.Table.{entry_of}
use Rattle.records.specs.Lowest.{lowest}
use Rattle.records.specs.declared.Program.{Program}
use Rattle.kinds.specs.Programs.{links}

-- one link more than the highest of the records named, whose heights are in the table; 0 where none is named
unfoldable pub height_over : (lower : List ℕ) → List ℕ → ℕ
height_over lower [] = 0
height_over lower (a ∷ more) = max (suc (get_or lower a 0)) (height_over lower more)

-- the height of record i, from those of lower records
unfoldable pub height_at : (ℕ → Program) → ℕ → List ℕ → ℕ
height_at p i lower = height_over lower (links (p i))

-- the height of record i
unfoldable pub rise : (ℕ → Program) → ℕ → ℕ
rise p i = entry_of 0 (height_at p) i

-- the height of a table of n records: that of the root, its last record
abbrev pub height_of : (ℕ → Program) → ℕ → ℕ
height_of p n = rise p (n - 1)

-- whether record i is no interrupt
abbrev pub plain : (ℕ → Program) → ℕ → Bool
plain p i = not (eqb (p i).kind 11)

-- whether any of n records has kind 11, reached from the root or not
unfoldable pub interrupts : (ℕ → Program) → ℕ → Bool
interrupts p n = ltb (lowest (plain p) n) n
