-- Alike configurations get the same verdict, the same first plan and the same replies: what is computed along two lists of transitions with
-- the same moves, to configurations that are related, is the same. Assumes nothing.
use Prim.Native.Nat.{ℕ, zero, suc}
use mathlib.Core.Bool.{Bool, true, false, ◌&&◌}
use mathlib.Core.List.{List, [], ◌∷◌, ◌++◌, map}
use mathlib.Core.Option.{Option, none, some}
use mathlib.Core.Path.{◌≡◌, refl, ap, ap₂, subst}
use lib.Dec.{eqb}
use Rattle.runs.specs.Search.{Verdict, tries, any_transition, unless, is_plan, search}
use Rattle.runs.specs.Earliest.{least_of, if_final, least_at, earliest, first_plan}
use Rattle.runs.specs.Guide.{Guide, unguided, along, in_window, may_end, only, follow1, follow, guided_transitions, guided_final, exactly, accepts}
use Rattle.runs.specs.Alike.{SameMoves, Alike}

module _ {C : Type 0} (R : C → C → Type 0) where
  -- two lists with the same moves, as a record: a law on it finds the lists in what it is handed
  pub record Rows (xs ys : List (Option ℕ × C)) : Type 0 where
    pub same : SameMoves R xs ys

module _ {C : Type 0} {R : C → C → Type 0} where
  -- what holds of no transitions, and of one more on both sides, holds of any two such lists
  pub by_moves :
      (P : List (Option ℕ × C) → List (Option ℕ × C) → Type 0) → P [] []
      → ((x y : Option ℕ × C) (xs ys : List (Option ℕ × C)) → x.0 ≡ y.0 → R x.1 y.1 → P xs ys → P (x ∷ xs) (y ∷ ys))
      → {xs ys : List (Option ℕ × C)} → Rows R xs ys → P xs ys
  by_moves P p q {xs = []} {ys = []} m = p
  by_moves P p q {xs = []} {ys = y ∷ ys} m = absurd m.same
  by_moves P p q {xs = x ∷ xs} {ys = []} m = absurd m.same
  by_moves P p q {xs = x ∷ xs} {ys = y ∷ ys} m = let (e, r, n) = m.same in q x y xs ys e r (by_moves P p q {xs = xs} {ys = ys} (record { same = n }))

  -- one transition
  pub rows_one : (m : Option ℕ) (c d : C) → R c d → Rows R ((m, c) ∷ []) ((m, d) ∷ [])
  rows_one m c d r = record { same = (refl, r, tt) }

  -- one list after another
  pub rows_append : {xs ys us vs : List (Option ℕ × C)} → Rows R xs ys → Rows R us vs → Rows R (xs ++ us) (ys ++ vs)
  rows_append {us} {vs} m n = by_moves (λ xs ys. Rows R (xs ++ us) (ys ++ vs)) n (λ x y xs ys e r h. record { same = (e, r, h.same) }) m

  -- f of where each leads
  pub rows_map :
      (f : C → C) → ((c d : C) → R c d → R (f c) (f d)) → {xs ys : List (Option ℕ × C)} → Rows R xs ys
      → Rows R (map (λ x. (x.0, f x.1)) xs) (map (λ x. (x.0, f x.1)) ys)
  rows_map f k =
      by_moves (λ xs ys. Rows R (map (λ x. (x.0, f x.1)) xs) (map (λ x. (x.0, f x.1)) ys)) (record { same = tt })
      (λ x y xs ys e r h. record { same = (e, k x.1 y.1 r, h.same) })

  -- where a test passes
  pub rows_only : {a b : Bool} → a ≡ b → {xs ys : List (Option ℕ × C)} → Rows R xs ys → Rows R (only a xs) (only b ys)
  rows_only {a} e {xs} {ys} m = subst (λ (z : Bool). Rows R (only a xs) (only z ys)) e (go a)
    where
      go : (z : Bool) → Rows R (only z xs) (only z ys)
      go true = m
      go false = record { same = tt }

module _ {C : Type 0} (R : C → C → Type 0) (transitions : C → List (Option ℕ × C)) (final : C → Bool) (alike : Alike R transitions final) where
  rows : (c d : C) → R c d → Rows R (transitions c) (transitions d)
  rows c d r = record { same = (alike c d r).1 }

  -- "the same plan verdict": found, 13 or 14
  pub search_alike : (k : ℕ) (c d : C) → R c d → search transitions final k c ≡ search transitions final k d
  search_alike zero c d r =
      ap₂ unless (alike c d r).0 (by_moves (λ xs ys. any_transition xs ≡ any_transition ys) refl (λ x y xs ys e q h. refl) (rows c d r))
  search_alike (suc k) c d r =
      ap₂ unless (alike c d r).0 (by_moves (λ xs ys. tries (search transitions final k) xs ≡ tries (search transitions final k) ys) refl
      (λ x y xs ys e q h. rw (e, search_alike k x.1 y.1 q, h)) (rows c d r))

  least_alike : (t : ℕ) (c d : C) → R c d → least_at transitions final t c ≡ least_at transitions final t d
  least_alike zero c d r = ap if_final (alike c d r).0
  least_alike (suc t) c d r =
      by_moves (λ xs ys. least_of (least_at transitions final t) xs ≡ least_of (least_at transitions final t) ys) refl
      (λ x y xs ys e q h. rw (e, least_alike t x.1 y.1 q, h)) (rows c d r)

  earliest_alike : (n t : ℕ) (c d : C) (v : Verdict) → R c d → earliest transitions final n t c v ≡ earliest transitions final n t d v
  earliest_alike zero t c d v r = rw (least_alike t c d r)
  earliest_alike (suc n) t c d v r = rw (least_alike t c d r, earliest_alike n (suc t) c d v r)

  -- the same first plan, and so the same "trace"
  pub first_alike : (k : ℕ) (c d : C) → R c d → first_plan transitions final k c ≡ first_plan transitions final k d
  first_alike k c d r = rw (search_alike k c d r) (earliest_alike k 0 c d (search transitions final k d) r)

module _ {C : Type 0} (R : C → C → Type 0) (transitions : C → List (Option ℕ × C)) (final : C → Bool) (alike : Alike R transitions final) where
  -- related, under the same guide
  abbrev Guided : C × Guide → C × Guide → Type 0
  Guided c d = R c.0 d.0 × (c.1 ≡ d.1)

  follow1_alike : (g : Guide) (m : Option ℕ) (c d : C) → R c d → Rows Guided (follow1 g m c) (follow1 g m d)
  follow1_alike g none c d r = rows_one none (c, g) (d, g) (r, refl)
  follow1_alike unguided (some a) c d r = rows_one (some a) (c, unguided) (d, unguided) (r, refl)
  follow1_alike (along [] low high) (some a) c d r =
      rows_only (refl {a = in_window low high (suc a)}) (rows_one (some a) (c, unguided) (d, unguided) (r, refl))
  follow1_alike (along (b ∷ g) low high) (some a) c d r =
      rows_only (refl {a = eqb b a}) (rows_one (some a) (c, along g low high) (d, along g low high) (r, refl))

  follow_alike : (g : Guide) {xs ys : List (Option ℕ × C)} → Rows R xs ys → Rows Guided (follow g xs) (follow g ys)
  follow_alike g =
      by_moves (λ xs ys. Rows Guided (follow g xs) (follow g ys)) (record { same = tt })
      (λ x y xs ys e r h. rw e (rows_append (follow1_alike g y.0 x.1 y.1 r) h))

  guided_alike : Alike Guided (guided_transitions transitions) (guided_final final)
  guided_alike (c, g) (d, g') (r, e) = rw e (ap (◌&&◌ (may_end g')) (alike c d r).0, (follow_alike g' (rows R transitions final alike c d r)).same)

  -- the same "replay replies"
  pub accepts_alike : (k : ℕ) (c d : C) → R c d → (h : List ℕ) → accepts transitions final k c h ≡ accepts transitions final k d h
  accepts_alike k c d r h =
      ap is_plan (search_alike Guided (guided_transitions transitions) (guided_final final) guided_alike k (c, exactly h) (d, exactly h) (r, refl))
