-- Own vocabulary: the program table that runs, by the bytes of the sheet's records. Assumes nothing.
use Rattle.std.specs.Prelude.{ℕ, Bool, List}
use Rattle.records.specs.declared.Program.{Program}
use Rattle.remaining.specs.Extended.{table_of}
use Rattle.leaves.specs.Tallies.{extended_size}

-- the n records of a table's bytes, and whether there are interrupts
pub record Running : Type 0 where
  pub bytes : List ℕ
  pub n : ℕ
  pub interrupts : Bool

abbrev pub running_of : (bytes : List ℕ) (n : ℕ) (interrupts : Bool) → Running
running_of bytes n interrupts = record { bytes = bytes; n = n; interrupts = interrupts }

-- its records, and how many there are
abbrev pub records : Running → ℕ → Program
records t = table_of t.bytes t.n t.interrupts

abbrev pub size : Running → ℕ
size t = extended_size t.interrupts t.n
