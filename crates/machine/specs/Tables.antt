-- Own vocabulary: what stands where in the slice of numbers of a sheet with placeholders. Assumes nothing.
use Rattle.std.specs.Prelude.{ℕ, ◌+◌, ◌*◌, ◌%◌, ◌≡◌, List, length, take, drop}
use Rattle.records.specs.declared.Program.{Program}
use Rattle.remaining.specs.Extended.{most_records, table_of}
use Rattle.state.specs.Conflicts.{most_actions}
use Rattle.leaves.specs.Tallies.{extended_size}
use Rattle.leaves.specs.Running.{Running, running_of}
use Rattle.machine.specs.declared.Shape.{Shape}

-- n places of a list from place o on
abbrev pub window : {A : Type 0} → (o n : ℕ) → List A → List A
window o n l = take n (drop o l)

-- of a list that became another only the n places from place o on were written
pub record Only {A : Type 0} (o n : ℕ) (l l' : List A) : Type 0 where
  pub before : take o l' ≡ take o l
  pub behind : drop (o + n) l' ≡ drop (o + n) l

-- x was written at place o
pub record PutAt (o : ℕ) (x l l' : List ℕ) : Type 0 where
  pub len : length l' ≡ length l
  pub here : window o (length x) l' ≡ x
  pub only : Only o (length x) l l'

-- first what is told once: how many values each record lists, its digits, how far it is from its end, and a mark for each action
abbrev pub spans_on : List ℕ → List ℕ
spans_on numbers = take most_records numbers

abbrev pub digits_on : List ℕ → List ℕ
digits_on numbers = window most_records most_records numbers

abbrev pub distances_on : List ℕ → List ℕ
distances_on numbers = window 520 most_records numbers

abbrev pub marks_on : List ℕ → List ℕ
marks_on numbers = window 780 most_actions numbers

-- then the sets of a state (enabled/specs/Filled.antt), for even depths and for odd ones
abbrev pub told_places : ℕ
told_places = 848

abbrev pub sets_places : ℕ
sets_places = 8768

abbrev pub sets_from : (d : ℕ) → ℕ
sets_from d = told_places + sets_places * (d % 2)

abbrev pub sets_at : (d : ℕ) → List ℕ → List ℕ
sets_at d numbers = window (sets_from d) sets_places numbers

-- and one place more
abbrev pub places : ℕ
places = 18385

-- the table that runs, its records, and how many there are
abbrev pub table_in : (programs : List ℕ) → Shape → Running
table_in programs v = running_of programs v.p v.interrupts

abbrev pub records_of : (programs : List ℕ) → Shape → ℕ → Program
records_of programs v = table_of programs v.p v.interrupts

abbrev pub many_of : Shape → ℕ
many_of v = extended_size v.interrupts v.p
