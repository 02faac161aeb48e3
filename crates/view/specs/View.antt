-- Own vocabulary: what a view holds, and what it finds (document 01: "a small view that looks at the caller's sheet and copies nothing").
-- That a look-up through it answers `look_of` is the contract of `view::look_up`. Assumes nothing.
use Rattle.std.specs.Prelude.{ℕ, ◌-◌, ◌/◌, min, List, cond, length, ltb, Result, Ok, Err}
use Rattle.std.specs.Borrow.{Bor}
use Rattle.records.specs.Bytes.{part}
use Rattle.sheet.specs.Trailer.{trailer_of}
use Rattle.sheet.specs.Layout.{layout_of}
use Rattle.sheet.specs.Check.{Checked, check_of}
use Rattle.sheet.specs.declared.Refusal.{Refusal}
use Rattle.lookup.specs.LookUp.{Looked, looked_in}
use Rattle.view.specs.declared.View.{View}

-- of a sheet that is accepted, where its fluents start; of one that is not, why
abbrev pub opened_as : List ℕ → Checked → Result ℕ Refusal
opened_as s (Ok a) = Ok (layout_of s).fluents
opened_as s (Err why) = Err why

abbrev pub opened_of : List ℕ → Result ℕ Refusal
opened_of s = opened_as s (check_of s)

-- the view that is opened of a slice
abbrev pub view_of : Bor (List ℕ) → View
view_of s = record { src = s; opened = opened_of s.now }

-- how many fluents stand from an offset on: no more than the trailer counts and than the bytes hold
unfoldable pub count_from : List ℕ → (at : ℕ) → ℕ
count_from s at = cond (ltb (length s) 18) 0 (min (trailer_of s).f ((length s - at) / 2))

unfoldable pub found_at : List ℕ → (at x : ℕ) → Looked
found_at s at x = looked_in (part s at (length s)) (count_from s at) x

abbrev pub found_from : List ℕ → Result ℕ Refusal → (x : ℕ) → Looked
found_from s (Ok at) x = found_at s at x
found_from s (Err why) x = Err why

-- fluent x in a view, whatever it holds
abbrev pub found_in : View → (x : ℕ) → Looked
found_in v x = found_from v.src.now v.opened x
