-- To be believed: when a sheet is accepted, and the number, place, figure and union of a check's answer. The answer itself is computed here too
-- (document 01, "Who can cause which number": the causes in rising order, a place for 4 to 8); that it goes by the first cause of
-- Causes.antt is proved in proofs/Exactly.antt. Assumes nothing.
use Rattle.std.specs.Prelude.{◌≡◌, ℕ, ◌-◌, List, not, cond, length, ltb, eqb, Result, Ok, Err}
use Rattle.records.specs.Lowest.{lowest}
use Rattle.records.specs.Records.{formula_at, program_at}
use Rattle.rules.specs.Tables.{fluents_ok, formulas_ok, effects_ok, actions_ok, programs_ok}
use Rattle.height.specs.Height.{height_of}
use Rattle.height.specs.Work.{levels, work_words}
use Rattle.named.specs.Named.{table_set}
use Rattle.sheet.specs.Trailer.{trailer_of, limits_ok, distance_ok}
use Rattle.sheet.specs.Layout.{layout_in, fluents_in, formulas_in, effects_in, actions_in, programs_in}
use Rattle.sheet.specs.declared.Trailer.{Trailer}
use Rattle.sheet.specs.declared.Layout.{Layout}
use Rattle.sheet.specs.declared.Cause.{Cause}
use Rattle.sheet.specs.declared.Cause.TheVariants as cause
use Rattle.sheet.specs.declared.Refusal.{Refusal}
use Rattle.sheet.specs.declared.Acceptance.{Acceptance}

-- what a check answers
abbrev pub Checked : Type 0
Checked = Result Acceptance Refusal

abbrev pub accepted_with : (words names : ℕ) → Checked
accepted_with words names = Ok (record { words = words; names = names })

-- document 01's number of each cause
abbrev pub cause_number : Cause → ℕ
cause_number cause.Trailer = 1
cause_number cause.Limits = 2
cause_number cause.Distance = 3
cause_number cause.Fluent = 4
cause_number cause.Formula = 5
cause_number cause.Effect = 6
cause_number cause.Action = 7
cause_number cause.Program = 8
cause_number cause.Height = 9
cause_number cause.ShortTrace = 10
cause_number cause.ShortWork = 11
cause_number cause.NoFluent = 12
cause_number cause.NoPlan = 13
cause_number cause.NoPlanInBound = 14

-- a number with its place
abbrev pub refusal_of : (number place : ℕ) → Refusal
refusal_of number place = record { number = number; place = place }

abbrev pub refused : (number place : ℕ) → Checked
refused number place = Err (refusal_of number place)

-- the number and the place, where a record below n is faulty; else what comes next
unfoldable pub refused_at : (number i n : ℕ) → Checked → Checked
refused_at number i n next = cond (ltb i n) (refused number i) next

-- 4 to 8: the lowest record that breaks its rule, in the first table that has one; else what comes next
unfoldable pub tables_checked : List ℕ → Layout → Checked → Checked
tables_checked s l next =
    refused_at 4 (lowest (fluents_ok (fluents_in s l)) l.f) l.f
    (refused_at 5 (lowest (formulas_ok (fluents_in s l) l.f (formulas_in s l)) l.q) l.q
    (refused_at 6 (lowest (effects_ok (fluents_in s l) l.f l.q (effects_in s l)) l.e) l.e
    (refused_at 7 (lowest (actions_ok l.q l.e (actions_in s l)) l.a) l.a
    (refused_at 8 (lowest (programs_ok l.q l.a (programs_in s l)) l.p) l.p next))))

-- document 02, F-5: "checking a sheet returns the union over its formula table"
abbrev pub names_in : List ℕ → Layout → ℕ
names_in s l = table_set (formula_at (formulas_in s l)) l.q

-- 9: height above 16; else the figure and the union
unfoldable pub height_checked : List ℕ → Layout → Checked
height_checked s l =
    let p = program_at (programs_in s l) in
    cond (ltb 16 (height_of p l.p)) (refused 9 0) (accepted_with (work_words (levels p l.p) l.d) (names_in s l))

-- the tables, then the height
abbrev pub records_checked : List ℕ → Layout → Checked
records_checked s l = tables_checked s l (height_checked s l)

-- a sheet of 18 bytes or more, with its trailer: 1 for the last two bytes, 2 for the limits, 3 for the distance
unfoldable pub trailer_checked : List ℕ → Trailer → Checked
trailer_checked s t =
    cond (not (eqb t.magic 0x5142)) (refused 1 0)
    (cond (not (limits_ok t)) (refused 2 0)
    (cond (not (distance_ok t (length s - 18))) (refused 3 0) (records_checked s (layout_in t (length s - 18)))))

-- the sheet: 1 where it is under 18 bytes
unfoldable pub check_of : List ℕ → Checked
check_of s = cond (ltb (length s) 18) (refused 1 0) (trailer_checked s (trailer_of s))

-- no cause of 1 to 9 holds of the sheet
abbrev pub Accepts : List ℕ → Type 0
Accepts s = (w u : ℕ) × (check_of s ≡ accepted_with w u)

-- document 01's number and place of an answer, 0 where there is none, its figure and its union, 0 beside a number
abbrev pub number_of : Checked → ℕ
number_of (Ok a) = 0
number_of (Err why) = why.number

abbrev pub place_of : Checked → ℕ
place_of (Ok a) = 0
place_of (Err why) = why.place

abbrev pub words_of : Checked → ℕ
words_of (Ok a) = a.words
words_of (Err why) = 0

abbrev pub fluents_named : Checked → ℕ
fluents_named (Ok a) = a.names
fluents_named (Err why) = 0
