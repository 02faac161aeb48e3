-- To be believed: what a look-up answers (document 01: "looks up one fluent (its domain size and initial value)"; number 12).
-- Assumes nothing.
use Rattle.std.specs.Prelude.{ℕ, List, cond, ltb, Result, Ok, Err}
use Rattle.records.specs.Records.{fluent_at}
use Rattle.sheet.specs.Layout.{layout_of, fluents_in}
use Rattle.sheet.specs.Check.{Checked, refusal_of, check_of}
use Rattle.records.specs.declared.Fluent.{Fluent}
use Rattle.sheet.specs.declared.Refusal.{Refusal}

-- what a look-up answers
abbrev pub Looked : Type 0
Looked = Result Fluent Refusal

-- fluent x of a table of n: "12: lookup of a fluent not below F"
unfoldable pub looked_in : (fluents : List ℕ) → (n x : ℕ) → Looked
looked_in fluents n x = cond (ltb x n) (Ok (fluent_at fluents x)) (Err (refusal_of 12 0))

abbrev pub looked_up : List ℕ → ℕ → Checked → Looked
looked_up s x (Ok a) = looked_in (fluents_in s (layout_of s)) (layout_of s).f x
looked_up s x (Err why) = Err why

-- fluent x of a sheet, which is checked first
unfoldable pub look_of : List ℕ → ℕ → Looked
look_of s x = looked_up s x (check_of s)

-- document 01's number, place and values of an answer: number 0 where there is none, and "beside it every other result is 0"
abbrev pub look_number : Looked → ℕ
look_number (Ok r) = 0
look_number (Err why) = why.number

abbrev pub look_place : Looked → ℕ
look_place (Ok r) = 0
look_place (Err why) = why.place

abbrev pub look_size : Looked → ℕ
look_size (Ok r) = r.size
look_size (Err why) = 0

abbrev pub look_initial : Looked → ℕ
look_initial (Ok r) = r.initial
look_initial (Err why) = 0
