-- Own vocabulary: how far each program record is from its end at least, in transitions, told once, whatever the states. Assumes nothing.
use Rattle.std.specs.Prelude.{ℕ, ◌-◌, ◌≤◌, ◌<◌, min, List, ◌++◌, get_or, replicate}
use Rattle.records.specs.declared.Program.{Program}
use Rattle.records.specs.Table.{up_to}
use Rattle.kinds.specs.Programs.{distance_by}
use Rattle.golog.specs.Prog.{program_of}
use Rattle.golog.specs.Distance.{distance}
use Rattle.remaining.specs.Extended.{most_records}

-- of the first m records of p, none is nearer to its end than the table says
abbrev pub Distances : (p : ℕ → Program) (m : ℕ) (distances : List ℕ) → Type 0
Distances p m distances = (i : ℕ) → i < m → get_or distances i 0 ≤ distance (program_of p i)

-- distances end here: one more than the largest bound (document 01: D is at most 64), so that no run is long enough
abbrev pub farthest : ℕ
farthest = 65

-- record i of the table p, given the lower ones
abbrev pub distance_at : (p : ℕ → Program) → ℕ → (lower : List ℕ) → ℕ
distance_at p i lower = min farthest (distance_by (p i) lower)

-- the table of the first m records of p, and in the places after them what nil is. It is `Distances` (proofs/Measuring.antt)
unfoldable pub distances_of : (p : ℕ → Program) (m : ℕ) → List ℕ
distances_of p m = up_to (distance_at p) m ++ replicate (most_records - m) 0
