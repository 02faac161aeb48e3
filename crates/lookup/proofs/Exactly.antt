-- A look-up gives a number exactly for its listed cause: 12 where the fluent is not below F, and before it the numbers of the check.
-- Assumes nothing.
use mathlib.Core.Path.{◌≡◌, refl, sym, ◌∙◌}
use mathlib.Core.List.{List}
use mathlib.Core.Logic.{◌↔◌, ⊎_elim}
use mathlib.Core.Bool.{Bool, true, false, false≢true}
use Prim.Native.Nat.{ℕ, ◌≤◌}
use native.Mathlib.Omega.{arith}
use borrow.Author.Tests.{ltb-false, le-ltb}
use lib.Dec.{ltb}
use Rattle.sheet.specs.Layout.{layout_of}
use Rattle.sheet.specs.Check.{check_of, number_of, place_of, Checked, accepted_with}
use Rattle.sheet.specs.Causes.{Cause, First}
use Rattle.sheet.proofs.Rising.{By, wider, sooner}
use Rattle.sheet.proofs.Exactly.{answered_by}
use Rattle.sheet.proofs.Numbers.{Numbered, numbered, caused}
use Rattle.sheet.proofs.Called.{number_exactly, no_number_exactly}
use Rattle.lookup.specs.LookUp.{Looked, looked_in, looked_up, look_of, look_number, look_place}
use Rattle.lookup.specs.Causes.{LookCause}
use Rattle.std.specs.Prelude.{Ok, Err}

-- the answer by its number and place alone
abbrev seen : Looked → Checked
seen (Ok r) = accepted_with 0 0
seen (Err why) = Err why

seen_number : (a : Looked) → look_number a ≡ number_of (seen a)
seen_number (Ok r) = refl
seen_number (Err why) = refl

seen_place : (a : Looked) → look_place a ≡ place_of (seen a)
seen_place (Ok r) = refl
seen_place (Err why) = refl

module _ (s : List ℕ) (x : ℕ) where
  beyond : (ltb x (layout_of s).f ≡ false) ↔ ((layout_of s).f ≤ x)
  beyond = (ltb-false x (layout_of s).f, le-ltb x (layout_of s).f)

  abbrev Twelve : (number place : ℕ) → Type 0
  Twelve k p = (k ≡ 12) × (p ≡ 0) × ((layout_of s).f ≤ x)

  -- 12, where the check accepts, whatever table the fluent is looked up in
  own_answered : (figure union : ℕ) → By Twelve (seen (looked_up s x (accepted_with figure union)))
  unfolding looked_in
  own_answered figure union = go (ltb x (layout_of s).f) refl
    where
      go : (b : Bool) → ltb x (layout_of s).f ≡ b → By Twelve (seen (looked_up s x (accepted_with figure union)))
      go true e = rw (e, looked_in) (λ k p (a, b, l). false≢true (sym (beyond.1 l) ∙ e))
      go false e = rw (e, looked_in) ((refl, refl, beyond.0 e), λ j q l c. omega (arith, c.0), λ q c. c.1)

  look_answered : By (LookCause s x) (seen (look_of s x))
  unfolding look_of
  look_answered = go (check_of s) (answered_by s) (numbered s)
    where
      go : (c : Checked) → By (Cause s) c → Numbered c → By (LookCause s x) (seen (looked_up s x c))
      go (Ok a) none n = wider (Cause s) Twelve none (seen (looked_up s x (accepted_with a.words a.names))) (own_answered a.words a.names)
      go (Err r) by n = sooner (Cause s) Twelve 9 r.number r.place n.1 (λ j q c. omega (arith, c.0)) by

  some : (k p : ℕ) → LookCause s x k p → 1 ≤ k
  some k p = ⊎_elim (λ c. (caused s k p c).0) (λ c. omega (arith, c.0))

  -- "A number is given for its listed cause only", and the first in rising order
  pub look_number_exactly : (k p : ℕ) → 1 ≤ k → ((look_number (look_of s x) ≡ k) × (look_place (look_of s x) ≡ p)) ↔ First (LookCause s x) k p
  look_number_exactly =
      number_exactly (LookCause s x) some (seen (look_of s x)) look_answered (look_number (look_of s x)) (look_place (look_of s x))
      (seen_number (look_of s x)) (seen_place (look_of s x))

  -- the fluent is found exactly where there is no cause
  pub looked_exactly : (look_number (look_of s x) ≡ 0) ↔ ((k p : ℕ) → ¬ LookCause s x k p)
  looked_exactly =
      no_number_exactly (LookCause s x) some (seen (look_of s x)) look_answered (look_number (look_of s x)) 0 (seen_number (look_of s x))
