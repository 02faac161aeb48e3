-- Own vocabulary: what a check found of a sheet and is kept for the calls that go on with it: where the tables lie, whether there are
-- interrupts, the words of a frame and of the work area. Assumes nothing.
use Rattle.std.specs.Prelude.{ℕ, ◌≡◌, List, Result, Ok, Err, ⊤}
use Rattle.records.specs.Records.{program_at}
use Rattle.height.specs.Height.{interrupts}
use Rattle.height.specs.Work.{levels, frame_words, work_words}
use Rattle.sheet.specs.Layout.{layout_of, programs_in}
use Rattle.sheet.specs.Check.{Checked, check_of, Accepts}
use Rattle.sheet.specs.declared.Layout.{Layout}
use Rattle.sheet.specs.declared.Refusal.{Refusal}
use Rattle.sheet.specs.declared.Inspection.{Inspection}

-- the answer of tests that refuse, or else go on
abbrev pub unless : Result ⊤ Refusal → Checked → Checked
unless (Ok a) next = next
unless (Err why) next = Err why

-- what is found where the tables lie so
abbrev pub inspection_in : List ℕ → Layout → Inspection
inspection_in s l =
    let p = program_at (programs_in s l) in
    let h = levels p l.p in
    record { layout = l; interrupts = interrupts p l.p; frame = frame_words h l.d; words = work_words h l.d }

-- the check's answer, with what it found
abbrev pub inspected_in : List ℕ → Layout → Checked → Result Inspection Refusal
inspected_in s l (Ok a) = Ok (inspection_in s l)
inspected_in s l (Err why) = Err why

abbrev pub inspect_of : List ℕ → Result Inspection Refusal
inspect_of s = inspected_in s (layout_of s) (check_of s)

-- the words of work that an accepted sheet asks for
abbrev pub words_required : List ℕ → ℕ
words_required s = (inspection_in s (layout_of s)).words

-- it was found of the sheet s, which is accepted
pub record Of (s : List ℕ) (i : Inspection) : Type 0 where
  pub accepted : Accepts s
  pub layout_is : i.layout ≡ layout_of s
  pub interrupts_are : i.interrupts ≡ (inspection_in s (layout_of s)).interrupts
  pub frame_is : i.frame ≡ (inspection_in s (layout_of s)).frame
  pub words_are : i.words ≡ (inspection_in s (layout_of s)).words
