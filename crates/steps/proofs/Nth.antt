-- The k-th member of a list, and of the lists that transitions are made of: those of a first part, then those of a second, each under a
-- test and in a construct. Assumes nothing.
use mathlib.Core.Path.{◌≡◌, sym, ap, subst, ◌∙◌}
use mathlib.Core.Bool.{Bool, true, false, cond}
use mathlib.Core.Option.{some}
use mathlib.Core.List.{List, [], ◌∷◌, ◌++◌, map, Memᴰ}
use Prim.Native.Nat.{ℕ, zero, suc, ◌+◌, ◌-◌, ◌≤◌, ◌<◌}
use native.Mathlib.Omega.{arith}
use lib.Dec.{T}
use lib.ListN.{length, get_elem?, length-append, length-map}
use Rattle.runs.specs.Guide.{only}
use Rattle.runs.proofs.Tests.{only_length}
use Rattle.remaining.specs.Rest.{Rest}
use Rattle.remaining.specs.Leaves.{RestTransition, on_rest}

nth_left : {A : Type 0} (xs ys : List A) (k : ℕ) {x : A} → get_elem? xs k ≡ some x → get_elem? (xs ++ ys) k ≡ some x
nth_left [] ys k h = cc
nth_left (a ∷ xs) ys zero h = h
nth_left (a ∷ xs) ys (suc k) h = nth_left xs ys k h

nth_right : {A : Type 0} (xs ys : List A) (k j : ℕ) {x : A} → k ≡ length xs + j → get_elem? ys j ≡ some x → get_elem? (xs ++ ys) k ≡ some x
nth_right [] ys k j {x} e h = subst (λ (n : ℕ). get_elem? ys n ≡ some x) (omega arith) h
nth_right (a ∷ xs) ys zero j e h = absurd (omega arith)
nth_right (a ∷ xs) ys (suc k) j e h = nth_right xs ys k j (omega arith) h

pub nth_map : {A B : Type 0} (f : A → B) (xs : List A) (k : ℕ) {x : A} → get_elem? xs k ≡ some x → get_elem? (map f xs) k ≡ some (f x)
nth_map f [] k h = cc
nth_map f (a ∷ xs) zero h = cc
nth_map f (a ∷ xs) (suc k) h = nth_map f xs k h

-- the k-th is a member, and k is below their number
pub nth_member : {A : Type 0} (xs : List A) (k : ℕ) {x : A} → get_elem? xs k ≡ some x → Memᴰ x xs
nth_member [] k h = absurd (let z : ◌≡◌ {A = ℕ} 0 1 = cc in omega arith)
nth_member (a ∷ xs) zero {x} h = Memᴰ.head (let e : x ≡ a = cc in e)
nth_member (a ∷ xs) (suc k) h = Memᴰ.tail (nth_member xs k h)

pub nth_below : {A : Type 0} (xs : List A) (k : ℕ) {x : A} → get_elem? xs k ≡ some x → k < length xs
nth_below [] k h = absurd (let z : ◌≡◌ {A = ℕ} 0 1 = cc in omega arith)
nth_below (a ∷ xs) zero h = omega arith
nth_below (a ∷ xs) (suc k) h = omega (arith, nth_below xs k h)

module _ (f g : Rest → Rest) (A B : List RestTransition) where
  -- under the tests ua and ub
  abbrev pub Both : (ua ub : Bool) → List RestTransition
  Both ua ub = map (on_rest f) (only ua A) ++ map (on_rest g) (only ub B)

  pub both_length : (ua ub : Bool) → length (Both ua ub) ≡ cond ua (length A) 0 + cond ub (length B) 0
  both_length ua ub = simp (length-append, length-map, only_length)

  pub from_first : (ua ub : Bool) (k : ℕ) {x : RestTransition} → T ua → get_elem? A k ≡ some x → get_elem? (Both ua ub) k ≡ some (on_rest f x)
  from_first true ub k t h = nth_left (map (on_rest f) A) (map (on_rest g) (only ub B)) k (nth_map (on_rest f) A k h)
  from_first false ub k t h = absurd t

  pub from_second : (ua ub : Bool) (k j : ℕ) {x : RestTransition} → T ub → k ≡ cond ua (length A) 0 + j → get_elem? B j ≡ some x → get_elem? (Both ua ub) k ≡ some (on_rest g x)
  from_second ua true k j t e h =
      nth_right (map (on_rest f) (only ua A)) (map (on_rest g) B) k j
      (e ∙ ap (λ (n : ℕ). n + j) (sym (length-map (only ua A) (on_rest f) ∙ only_length ua A))) (nth_map (on_rest g) B j h)
  from_second ua false k j t e h = absurd t

  -- past the first part, a transition is one of the second
  pub second_goes : (ua ub : Bool) (k : ℕ) → cond ua (length A) 0 ≤ k → k < length (Both ua ub) → T ub × (k - cond ua (length A) 0 < length B)
  second_goes ua true k l h = (tt, omega (arith, both_length ua true))
  second_goes ua false k l h = absurd (omega (arith, both_length ua false))
