-- Notes are never interpreted: under any other notes every look-up answers the same. Assumes nothing.
use mathlib.Core.Path.{◌≡◌, refl, ◌∙◌, ap}
use mathlib.Core.List.{List}
use Prim.Native.Nat.{ℕ}
use Rattle.sheet.specs.Check.{check_of, Checked}
use Rattle.sheet.specs.Notes.{FirstRecord, with_notes}
use Rattle.sheet.proofs.OtherNotes.{tables_same, check_same}
use Rattle.lookup.specs.LookUp.{looked_in, looked_up, look_of}
use Rattle.std.specs.Prelude.{Ok, Err}

-- "Bytes before that point are notes, never interpreted"
module _ (s other : List ℕ) (first : FirstRecord s) (x : ℕ) where
  looked_same : (c : Checked) → looked_up (with_notes s other) x c ≡ looked_up s x c
  looked_same (Ok a) = let same = tables_same s other first in λ i. looked_in (same.fluents i) (same.rest.f i) x
  looked_same (Err why) = refl

  -- the same domain size and initial value, or the same number and place
  pub look_same : look_of (with_notes s other) x ≡ look_of s x
  unfolding look_of
  look_same = ap (looked_up (with_notes s other) x) (check_same s other first) ∙ looked_same (check_of s)
