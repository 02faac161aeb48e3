-- To be believed: what is told of a sheet's sizes (document 01: "counts F, Q, E, A, P and the bound D"): F and D of an accepted sheet.
-- Assumes nothing.
use Rattle.std.specs.Prelude.{ℕ, List, Result, Ok, Err}
use Rattle.sheet.specs.Layout.{layout_of}
use Rattle.sheet.specs.Check.{Checked, check_of}
use Rattle.sheet.specs.declared.Refusal.{Refusal}
use Rattle.planner.specs.declared.Size.{Size}

abbrev pub sized_as : List ℕ → Checked → Result Size Refusal
sized_as s (Ok a) = Ok (record { fluents = (layout_of s).f; bound = (layout_of s).d })
sized_as s (Err why) = Err why

-- the sheet is checked first
unfoldable pub sizes_of : List ℕ → Result Size Refusal
sizes_of s = sized_as s (check_of s)
