-- Own vocabulary: what runs as ONE record: where there are interrupts, four more stand above the table (document 01: "what runs is: start;
-- (root over stop)"). Assumes nothing.
use Rattle.std.specs.Prelude.{ℕ, ◌+◌, ◌-◌, Bool, true, false, cond, List, [], ◌∷◌, ltb, get_or}
use Rattle.records.specs.declared.Program.{Program}
use Rattle.records.specs.Records.{program_at}
use Rattle.golog.specs.World.{start, stop}

-- no more records than these: the 256 that a sheet may have, and four
abbrev pub most_records : ℕ
most_records = 260

-- a record of kind 0, nil
abbrev pub empty : Program
empty = record { kind = 0; a = 0; b = 0; c = 0 }

-- act start; act stop; the root over stop; start, then that
abbrev pub virtual : (interrupts : Bool) → (n : ℕ) → List Program
virtual true n =
    record { kind = 1; a = start; b = 0; c = 0 }
    ∷ record { kind = 1; a = stop; b = 0; c = 0 }
    ∷ record { kind = 9; a = n - 1; b = n + 1; c = 0 }
    ∷ record { kind = 3; a = n; b = n + 2; c = 0 }
    ∷ []
virtual false n = []

-- the first n records of p, and then those; none beyond
unfoldable pub extended : (interrupts : Bool) → (ℕ → Program) → (n : ℕ) → ℕ → Program
extended interrupts p n i = cond (ltb i n) (p i) (get_or (virtual interrupts n) (i - n) empty)

-- so of the n records in a table's bytes: the table that runs
abbrev pub table_of : (programs : List ℕ) (n : ℕ) (interrupts : Bool) → ℕ → Program
table_of programs n interrupts = extended interrupts (program_at programs) n

-- the record that runs
abbrev pub top : (interrupts : Bool) → (n : ℕ) → ℕ
top true n = n + 3
top false n = n - 1
