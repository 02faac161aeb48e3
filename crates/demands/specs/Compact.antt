-- Own vocabulary: how the engine keeps a sheet's program: as one record, of the sheet's table or of the four above it. That it stands for
-- what runs is proved in proofs/Compact.antt. Assumes nothing.
use Rattle.std.specs.Prelude.{ℕ, List}
use Rattle.records.specs.declared.Program.{Program}
use Rattle.sheet.specs.Layout.{layout_of}
use Rattle.remaining.specs.Rest.{leaf}
use Rattle.remaining.specs.Leaves.{Compact}
use Rattle.remaining.specs.Extended.{extended, top}
use Rattle.demands.specs.Decoded.{records_of, interrupts_in, initial_of}

-- the sheet's records, and the four above them where there are interrupts
abbrev pub extended_records : List ℕ → ℕ → Program
extended_records s = extended (interrupts_in s) (records_of s) (layout_of s).p

-- the first configuration
abbrev pub compact_first : List ℕ → Compact
compact_first s = (leaf (top (interrupts_in s) (layout_of s).p), initial_of s)
