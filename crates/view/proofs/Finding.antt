-- A view that is opened of a sheet finds what the look-up's definition says, whatever the sheet. Assumes nothing.
use mathlib.Core.Path.{◌≡◌, refl, sym, ◌∙◌, ap, ap₂}
use mathlib.Core.List.{List}
use mathlib.Core.Bool.{cond}
use Prim.Native.Nat.{ℕ, ◌+◌, ◌-◌, ◌*◌, ◌/◌, ◌<◌, ◌≤◌, min}
use native.Mathlib.Decide.{dec_lt}
use native.Mathlib.Omega.{arith}
use lib.ListN.{length, get_or, drop, length-drop}
use lib.Seq.{get_or-take, length-take-le}
use lib.Dec.{ltb}
use borrow.Author.Tests.{lt-ltb, le-ltb}
use Rattle.std.proofs.lemmas.Bool.Decides.{nat_tests}
use denote.Ref.{Bor}
use Rattle.records.specs.Bytes.{part}
use Rattle.records.specs.Records.{fluent_at}
use Rattle.sheet.specs.Trailer.{trailer_of}
use Rattle.sheet.specs.Layout.{layout_of, layout_in, fluents_in}
use Rattle.std.specs.Prelude.{Ok, Err}
use Rattle.sheet.specs.Check.{Checked, accepted_with, refusal_of, check_of}
use Rattle.sheet.proofs.Accepted.{trailed, laid}
use Rattle.lookup.specs.LookUp.{Looked, looked_in, looked_up, look_of}
use Rattle.view.specs.View.{opened_as, count_from, found_at, found_from, view_of, found_in}

abbrev fluent : (size initial : ℕ) → Looked
fluent size initial = Ok (record { size = size; initial = initial })

-- two tables whose first n records are the same
same_in : (t u : List ℕ) (n x : ℕ) → ((j : ℕ) → j < 2 * n → get_or t j 0 ≡ get_or u j 0) → looked_in t n x ≡ looked_in u n x
unfolding looked_in fluent_at
same_in t u n x same =
    elim (dec_lt x n) [
      | yes l ↦ simp (lt-ltb x n l) (ap₂ fluent (same (2 * x) (omega arith)) (same (2 * x + 1) (omega arith)))
      | no l ↦ let g : n ≤ x = omega arith in simp (le-ltb x n g)
    ]

module _ (s : List ℕ) (at : ℕ) where
  -- past the end there is no fluent
  pub past_end : (x : ℕ) → length s < at → Err (refusal_of 12 0) ≡ looked_in (part s at (length s)) (count_from s at) x
  unfolding looked_in count_from
  past_end x l =
      let few : cond (ltb (length s) 18) 0 (min (trailer_of s).f ((length s - at) / 2)) ≡ 0 = grind (arith, nat_tests) in
      simp (few, le-ltb x 0 (omega arith))

  -- the bytes from the offset on hold the fluents counted
  pub table_long : (k : ℕ) → k ≡ count_from s at → at ≤ length s → 2 * k ≤ length (part s at (length s))
  unfolding count_from
  table_long k e l =
      let half : k ≤ (length s - at) / 2 = rw e (grind (arith, nat_tests)) in
      let long : length (part s at (length s)) ≡ length s - at =
      length-take-le (length s - at) (drop at s) (let d = length-drop at s in omega (arith, d)) in
      rw long (omega arith)

module _ (s : List ℕ) (w u x : ℕ) (e : check_of s ≡ accepted_with w u) where
  -- the bytes from the table on hold as many fluents as the trailer counts
  whole : count_from s (layout_of s).fluents ≡ (layout_of s).f
  unfolding count_from layout_of layout_in
  whole =
      let l = laid s (w, u, e) in
      let t = trailed s (w, u, e) in
      let m : min (trailer_of s).f ((length s - (layout_of s).fluents) / 2) ≡ (trailer_of s).f =
      omega (arith, l.at_formulas, l.at_effects, l.at_actions, l.at_programs, l.at_end, l.inside) in
      simp (le-ltb (length s) 18 t.long) m

  accepted : found_at s (layout_of s).fluents x ≡ looked_in (fluents_in s (layout_of s)) (layout_of s).f x
  unfolding found_at
  accepted =
      let l = layout_of s in
      let n : ℕ = length s in
      let f = laid s (w, u, e) in
      let all : l.formulas ≤ n = omega (arith, f.at_effects, f.at_actions, f.at_programs, f.at_end, f.inside) in
      ap (λ (k : ℕ). looked_in (part s l.fluents n) k x) whole
      ∙ same_in (part s l.fluents n) (fluents_in s l) l.f x
      (λ j k.
      let g : j < l.formulas - l.fluents = omega (arith, f.at_formulas) in
      get_or-take (n - l.fluents) (drop l.fluents s) j 0 (omega arith) ∙ sym (get_or-take (l.formulas - l.fluents) (drop l.fluents s) j 0 g))

found_as : (s : List ℕ) (x : ℕ) (c : Checked) → check_of s ≡ c → found_from s (opened_as s c) x ≡ looked_up s x c
found_as s x (Ok a) e = accepted s a.words a.names x e
found_as s x (Err why) e = refl

pub found : (s : Bor (List ℕ)) (x : ℕ) → found_in (view_of s) x ≡ look_of s.now x
unfolding look_of
found s x = found_as s.now x (check_of s.now) refl
