-- Own vocabulary: how many values are listed where a record chooses one (golog/specs/Written.antt), told once of a sheet. Assumes nothing.
use Rattle.std.specs.Prelude.{ℕ, ◌-◌, ◌<◌, ◌≡◌, Bool, false, cond, ◌&&◌, List, ◌++◌, T, eqb, length, get_or, replicate}
use Rattle.records.specs.declared.Program.{Program}
use Rattle.records.specs.Table.{up_to}
use Rattle.kinds.specs.Programs.{picks}
use Rattle.golog.specs.Written.{sees_of, span_of}
use Rattle.remaining.specs.Extended.{most_records}

-- the table has them for the first m records of p; where a record chooses none, any number
pub record SpansKnown (p : ℕ → Program) (m : ℕ) (spans : List ℕ) : Type 0 where
  pub len : length spans ≡ most_records
  pub each : (i : ℕ) → i < m → T (picks (p i).kind) → get_or spans i 0 ≡ span_of p i

-- record i of the table p sees placeholder c, given which lower ones do
abbrev pub sees_at : (p : ℕ → Program) (c : ℕ) → ℕ → (lower : List Bool) → Bool
sees_at p c i lower = sees_of (p i) c lower

-- so for the first m records of p, and in the places after them what nil is
unfoldable pub seeing_of : (p : ℕ → Program) (m c : ℕ) → List Bool
seeing_of p m c = up_to (sees_at p c) m ++ replicate (most_records - m) false

-- how many values a record lists, where `first` and `second` have the records that see placeholders 0 and 1. One, where it chooses none
abbrev pub span_by : Program → (first second : List Bool) → ℕ
span_by r first second = cond (picks r.kind && get_or (cond (eqb r.c 0) first second) r.b false) r.a 1

-- record i of the table p, of which the first m are read
abbrev pub span_at : (p : ℕ → Program) (m : ℕ) → ℕ → (lower : List ℕ) → ℕ
span_at p m i lower = span_by (p i) (seeing_of p m 0) (seeing_of p m 1)

-- the table of the first m records of p, and 0 in the places after them. It is `SpansKnown` where records name lower ones, and those that
-- choose a value put it into placeholder 0 or 1 (proofs/Listing.antt)
unfoldable pub spans_of : (p : ℕ → Program) (m : ℕ) → List ℕ
spans_of p m = up_to (span_at p m) m ++ replicate (most_records - m) 0
