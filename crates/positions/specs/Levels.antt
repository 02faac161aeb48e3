-- Own vocabulary: the digits of every record of a table, made once, whatever the states. Assumes nothing.
use Rattle.std.specs.Prelude.{Bool, true, List, ◌++◌, ℕ, ◌-◌, get_or, replicate}
use Rattle.records.specs.declared.Program.{Program}
use Rattle.records.specs.Table.{up_to}
use Rattle.remaining.specs.Extended.{most_records}
use Rattle.positions.specs.Spots.{digits_by}

-- of a record, given those of lower ones
abbrev pub digits_over : Program → (endable : Bool) (span : ℕ) → (lower : List ℕ) → ℕ
digits_over r endable span lower = digits_by r endable span (get_or lower r.a 0) (get_or lower r.b 0)

-- of record i of the table p, where `endable` marks the records that may be final and `spans` says how many values each lists
abbrev pub digits_at : (p : ℕ → Program) (endable : List Bool) (spans : List ℕ) → ℕ → (lower : List ℕ) → ℕ
digits_at p endable spans i lower = digits_over (p i) (get_or endable (p i).a true) (get_or spans i 1) lower

-- the table of the first m records of p, and in the places after them what nil has. A record that the root does not reach may be of any
-- height, so there are records of more than 16 digits; no record has more than its number (proofs/Levels.antt)
unfoldable pub digits_of : (p : ℕ → Program) (m : ℕ) (endable : List Bool) (spans : List ℕ) → List ℕ
digits_of p m endable spans = up_to (digits_at p endable spans) m ++ replicate (most_records - m) 0
