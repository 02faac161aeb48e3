-- To be believed: the notes (document 01: "Bytes before that point are notes, never interpreted"). Assumes nothing.
use Rattle.std.specs.Prelude.{ℕ, ◌-◌, ◌≤◌, List, ◌++◌, length, take, drop, Ok, Err}
use Rattle.sheet.specs.Trailer.{trailer_of}
use Rattle.sheet.specs.Layout.{layout_of}
use Rattle.sheet.specs.Check.{check_of, Checked}

-- how many bytes of notes a checked sheet hands out: none under a number
abbrev pub notes_count : List ℕ → Checked → ℕ
notes_count s (Ok a) = (layout_of s).fluents
notes_count s (Err why) = 0

abbrev pub notes_of : List ℕ → List ℕ
notes_of s = take (notes_count s (check_of s)) s

-- "a four-byte distance back from the trailer's start to the first record": it leads to a place in the sheet
pub record FirstRecord (s : List ℕ) : Type 0 where
  pub long : 18 ≤ length s
  pub room : (trailer_of s).distance ≤ length s - 18

-- the sheet with other notes: from the first record on it stays
unfoldable pub with_notes : List ℕ → (notes : List ℕ) → List ℕ
with_notes s notes = notes ++ drop (layout_of s).fluents s
