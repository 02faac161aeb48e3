-- Two lists of transitions, one after the other, the second further on: where positions in the first stay below that, the first transition
-- at k or later is found in the one and else in the other, and one at k is in the one that stands there. Assumes nothing.
use mathlib.Core.Path.{◌≡◌, refl, sym, ◌∙◌, ap, ap₂}
use mathlib.Core.Bool.{Bool, true, false, not, cond, ◌&&◌, ◌||◌, false≢true}
use mathlib.Core.List.{List, [], ◌∷◌, ◌++◌, map, Memᴰ}
use mathlib.Core.Logic.{◌⊎◌, inl, inr, ⊎_elim}
use Rattle.std.specs.Prelude.{None}
use Rattle.std.specs.Option.{option_or}
use Prim.Native.Nat.{ℕ, ◌+◌, ◌-◌, ◌≤◌, ◌<◌}
use native.Mathlib.Nat.{sub-zero}
use native.Mathlib.Omega.{arith}
use borrow.Author.Tests.{eqb-true, eqb-false, ltb-false, lt-ltb, le-ltb, eq-eqb, not-false}
use lib.Dec.{eqb, ltb}
use Rattle.records.proofs.Truth.{or_neither, and_both, or_left, or_right}
use Rattle.golog.specs.Transitions.{is_none}
use Rattle.runs.specs.Guide.{only}
use Rattle.remaining.specs.Rest.{Rest}
use Rattle.remaining.specs.Leaves.{RestTransition, on_rest}
use Rattle.positions.specs.Spots.{Spot, moved, from_spot}
use Rattle.positions.specs.Rising.{Rising, nobody, then}
use Rattle.positions.specs.Found.{first_of, further}
use Rattle.positions.proofs.From.{found_moved, found_append, found_none}

-- each stands in bounds
pub rising_at : {lo hi : ℕ} {x : Spot} {xs : List Spot} → Rising lo hi xs → Memᴰ x xs → (lo ≤ x.0) × (x.0 < hi)
rising_at nobody m = absurd (mathlib.Core.List.Memᴰ.not-nil m)
rising_at (then a b r) m =
    ⊎_elim (λ e. let at = ap (λ (z : Spot). z.0) e in (omega arith, omega arith)) (λ k. let h = rising_at r k in (omega (arith, h.0), h.1)) (mathlib.Core.List.Memᴰ.cases_cons m)

-- a list with a member is not empty
pub some_member : {A : Type 0} {x : A} (xs : List A) → Memᴰ x xs → is_none xs ≡ false
some_member [] m = absurd (mathlib.Core.List.Memᴰ.not-nil m)
some_member (y ∷ xs) m = refl

pub empty : {A : Type 0} (xs : List A) → is_none xs ≡ true → xs ≡ []
empty [] e = refl
empty (x ∷ xs) e = absurd (false≢true e)

-- a member of a list that is moved on
pub of_moved : (by k : ℕ) (f : Rest → Rest) (xs : List Spot) {x : RestTransition} → Memᴰ (k, x) (map (moved by f) xs)
    → (by ≤ k) × (y : RestTransition) × Memᴰ (k - by, y) xs × (x ≡ on_rest f y)
of_moved by k f xs {x} m =
    let z = mathlib.Core.List.Memᴰ.of_map (moved by f) xs m in
    let at : by + z.0.0 ≡ k = ap (λ (q : Spot). q.0) z.2 in
    let here : k - by ≡ z.0.0 = omega arith in
    (omega arith, z.0.1, mathlib.Core.List.Memᴰ.cast (ap (λ (n : ℕ). (n, z.0.1)) here) z.1, sym (ap (λ (q : Spot). q.1) z.2))

and_none : (b : Bool) → (b && false) ≡ false
and_none true = refl
and_none false = refl

pub of_only : {A : Type 0} {x : A} (b : Bool) (xs : List A) → Memᴰ x (only b xs) → (b ≡ true) × Memᴰ x xs
of_only true xs m = (refl, m)
of_only false xs m = absurd (mathlib.Core.List.Memᴰ.not-nil m)

module _ (ua ub en : Bool) (by k : ℕ) (f g : Rest → Rest) (As Bs : List Spot) (is-enabled : en ≡ not (is_none As)) (below : (by ≡ 0) ⊎ Rising 0 by As) where
  -- the first list goes
  abbrev goes : Bool
  goes = (ua && en) && (eqb by 0 || ltb k by)

  -- where it does not, it has none from k on
  left_out : (en && (eqb by 0 || ltb k by)) ≡ false → first_of (from_spot k As) ≡ None
  left_out q = by_enabled en refl
    where
      beyond : (eqb by 0 || ltb k by) ≡ false → first_of (from_spot k As) ≡ None
      beyond n =
          let o = or_neither (eqb by 0) (ltb k by) n in
          ⊎_elim (λ (z : by ≡ 0). absurd (eqb-false by 0 o.0 z)) (λ (r : Rising 0 by As). ap first_of (found_none k r (ltb-false k by o.1))) below

      by_enabled : (b : Bool) → en ≡ b → first_of (from_spot k As) ≡ None
      by_enabled true z = beyond (sym (ap (λ (b : Bool). b && (eqb by 0 || ltb k by)) z) ∙ q)
      by_enabled false z = ap (λ (l : List Spot). first_of (from_spot k l)) (empty As (not-false (is_none As) (sym is-enabled ∙ z)))

  first_found : (u : Bool) → first_of (from_spot k (map (moved 0 f) (only u As))) ≡ cond ((u && en) && (eqb by 0 || ltb k by)) (further 0 (first_of (from_spot k As))) None
  first_found false = refl
  first_found true =
      found_moved k 0 f As
      ∙ ap (λ (n : ℕ). further 0 (first_of (from_spot n As))) (sub-zero k)
      ∙ go (en && (eqb by 0 || ltb k by)) refl
    where
      go : (b : Bool) → (en && (eqb by 0 || ltb k by)) ≡ b → further 0 (first_of (from_spot k As)) ≡ cond b (further 0 (first_of (from_spot k As))) None
      go true q = refl
      go false q = ap (further 0) (left_out q)

  second_found : (u : Bool) → first_of (from_spot k (map (moved by g) (only u Bs))) ≡ cond u (further by (first_of (from_spot (k - by) Bs))) None
  second_found true = found_moved k by g Bs
  second_found false = refl

  pub parts_found :
      first_of (from_spot k (map (moved 0 f) (only ua As) ++ map (moved by g) (only ub Bs)))
      ≡ option_or (cond ((ua && en) && (eqb by 0 || ltb k by)) (further 0 (first_of (from_spot k As))) None) (cond ub (further by (first_of (from_spot (k - by) Bs))) None)
  parts_found = found_append k (map (moved 0 f) (only ua As)) (map (moved by g) (only ub Bs)) ∙ ap₂ option_or (first_found ua) (second_found ub)

  pub parts_laid :
      (ub ≡ true → by ≡ 0 → (ua && en) ≡ false) → (x : RestTransition) → Memᴰ (k, x) (map (moved 0 f) (only ua As) ++ map (moved by g) (only ub Bs))
      → ((((ua && en) && (eqb by 0 || ltb k by)) ≡ true) × (y : RestTransition) × Memᴰ (k, y) As × (x ≡ on_rest f y))
      ⊎ ((((ua && en) && (eqb by 0 || ltb k by)) ≡ false) × (ub ≡ true) × (y : RestTransition) × Memᴰ (k - by, y) Bs × (x ≡ on_rest g y))
  parts_laid alone x m = ⊎_elim (λ l. inl (in_first l)) (λ r. inr (in_second r)) (mathlib.Core.List.Memᴰ.append_cases (map (moved 0 f) (only ua As)) m)
    where
      in_first : Memᴰ (k, x) (map (moved 0 f) (only ua As)) → (goes ≡ true) × (y : RestTransition) × Memᴰ (k, y) As × (x ≡ on_rest f y)
      in_first l =
          let z = of_moved 0 k f (only ua As) l in
          let o = of_only ua As z.2 in
          let e : en ≡ true = is-enabled ∙ ap not (some_member As o.1) in
          let at : Memᴰ (k, z.1) As = mathlib.Core.List.Memᴰ.cast (ap (λ (n : ℕ). (n, z.1)) (sym (sub-zero k))) o.1 in
          let low : (eqb by 0 || ltb k by) ≡ true
          = ⊎_elim (λ (q : by ≡ 0). or_left (eqb by 0) (ltb k by) (eq-eqb by 0 q)) (λ (r : Rising 0 by As). or_right (eqb by 0) (ltb k by) (lt-ltb k by (rising_at r at).1)) below in
          (and_both (ua && en) (eqb by 0 || ltb k by) (and_both ua en o.0 e) low, z.1, at, z.3)

      in_second : Memᴰ (k, x) (map (moved by g) (only ub Bs)) → (goes ≡ false) × (ub ≡ true) × (y : RestTransition) × Memᴰ (k - by, y) Bs × (x ≡ on_rest g y)
      in_second r =
          let z = of_moved by k g (only ub Bs) r in
          let o = of_only ub Bs z.2 in
          (elsewhere (eqb by 0) refl z.0 o.0, o.0, z.1, o.1, z.3)
        where
          elsewhere : (b : Bool) → eqb by 0 ≡ b → by ≤ k → ub ≡ true → goes ≡ false
          elsewhere true q l u = ap (λ (b : Bool). b && (eqb by 0 || ltb k by)) (alone u (eqb-true by 0 q))
          elsewhere false q l u = ap (λ (b : Bool). (ua && en) && (b || ltb k by)) q ∙ ap (λ (b : Bool). (ua && en) && b) (le-ltb k by l) ∙ and_none (ua && en)
