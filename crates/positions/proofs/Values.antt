-- A choice between values: the transitions with each value stand `by` apart, so that the first at k or later is with value k / by, else the
-- first with the next value that has one; and one at k is with value k / by, at position k % by. Assumes nothing.
use mathlib.Core.Path.{◌≡◌, refl, sym, ◌∙◌, ap, ap₂, subst}
use mathlib.Core.Bool.{Bool, true, false, not, cond, false≢true}
use mathlib.Core.List.Memᴰ
use mathlib.Core.List.{List, [], ◌∷◌, map, Memᴰ}
use mathlib.Core.Logic.{⊎_elim}
use Rattle.std.specs.Prelude.{Option, Some, None}
use Rattle.std.specs.Option.{option_or, MatchOption}
use Prim.Native.Nat.{ℕ, zero, suc, ◌+◌, ◌-◌, ◌*◌, ◌/◌, ◌%◌, ◌≤◌, ◌<◌, min}
use native.Mathlib.Nat.{add-mul, one-mul, mul-le-mul_right, div-mul-le_self, lt-div-mul-add, div-add-mod', div-eq_of_lt-le, eq-or-lt_of_le}
use native.Mathlib.Omega.{arith}
use borrow.Author.Tests.{ltb-true, ltb-false, lt-ltb, not-true, not-false}
use lib.Dec.{ltb}
use Rattle.golog.specs.Transitions.{is_none, lists_from}
use Rattle.remaining.specs.Rest.{Rest}
use Rattle.remaining.specs.Leaves.{RestTransition}
use Rattle.positions.specs.Spots.{Spot, moved, from_spot}
use Rattle.positions.specs.Rising.{Rising}
use Rattle.positions.specs.Found.{first_of, further, NextValue}
use Rattle.positions.proofs.Rising.{rising_moved}
use Rattle.positions.proofs.From.{from_start, found_moved, found_append, found_none}
use Rattle.positions.proofs.Parts.{rising_at, empty, of_moved}

-- the next value, as `find` answers it
pub next_found : (enabled : ℕ → Bool) (v n : ℕ) (r : Option ℕ)
    → MatchOption r ((u : ℕ) → v ≤ u → u < n → enabled u ≡ false)
    (λ w. (v ≤ w) × (w < n) × (enabled w ≡ true) × ((u : ℕ) → v ≤ u → u < w → enabled u ≡ false))
    → NextValue enabled v n r
next_found enabled v n None h = h
next_found enabled v n (Some w) h = h

pub next_multiple : (u n : ℕ) → (u + 1) * n ≡ u * n + n
next_multiple u n = add-mul u 1 n ∙ ap (λ (m : ℕ). u * n + m) (one-mul n)

-- some list among those from i on
of_lists : {x : Spot} (G : ℕ → List Spot) (c i : ℕ) → Memᴰ x (lists_from G i c) → (u : ℕ) × (i ≤ u) × (u < i + c) × Memᴰ x (G u)
unfolding lists_from
of_lists G zero i m = absurd (Memᴰ.not-nil m)
of_lists {x} G (suc c) i m =
    ⊎_elim (λ l. (i, omega arith, omega arith, l)) (λ r. later (of_lists G c (suc i) r)) (Memᴰ.append_cases (G i) m)
  where
    later : ((u : ℕ) × (suc i ≤ u) × (u < suc i + c) × Memᴰ x (G u)) → (u : ℕ) × (i ≤ u) × (u < i + suc c) × Memᴰ x (G u)
    later z = (z.0, omega (arith, z.1), omega (arith, z.2), z.3)

module _ (k : ℕ) (G : ℕ → List Spot) where
  none_lists : (c i : ℕ) → ((u : ℕ) → i ≤ u → u < i + c → first_of (from_spot k (G u)) ≡ None) → first_of (from_spot k (lists_from G i c)) ≡ None
  unfolding lists_from
  none_lists zero i h = refl
  none_lists (suc c) i h =
      found_append k (G i) (lists_from G (suc i) c) ∙ ap₂ option_or (h i (omega arith) (omega arith)) (none_lists c (suc i) (λ u l m. h u (omega arith) (omega arith)))

  -- where none before v has one, those of v, then those after it
  first_lists :
      (c i v : ℕ) → i ≤ v → v < i + c → ((u : ℕ) → i ≤ u → u < v → first_of (from_spot k (G u)) ≡ None)
      → first_of (from_spot k (lists_from G i c)) ≡ option_or (first_of (from_spot k (G v))) (first_of (from_spot k (lists_from G (suc v) (i + c - suc v))))
  unfolding lists_from
  first_lists zero i v l m h = absurd (omega arith)
  first_lists (suc c) i v l m h =
      found_append k (G i) (lists_from G (suc i) c)
      ∙ ⊎_elim
      (λ (e : i ≡ v).
      let few : c ≡ i + suc c - suc v = omega arith in
      ap₂ (λ (a b : ℕ). option_or (first_of (from_spot k (G a))) (first_of (from_spot k (lists_from G (suc a) b)))) e few)
      (λ (q : i < v).
      let few : suc i + c - suc v ≡ i + suc c - suc v = omega arith in
      ap (λ (o : Option ℕ). option_or o (first_of (from_spot k (lists_from G (suc i) c)))) (h i (omega arith) q)
      ∙ first_lists c (suc i) v q (omega arith) (λ u a b. h u (omega arith) b)
      ∙ ap (λ (n : ℕ). option_or (first_of (from_spot k (G v))) (first_of (from_spot k (lists_from G (suc v) n)))) few)
      (eq-or-lt_of_le l)

-- the first with the next value, where there is one
abbrev pub first_with : (by : ℕ) (F : ℕ → List Spot) → Option ℕ → Option ℕ
first_with by F None = None
first_with by F (Some w) = further (w * by) (first_of (from_spot 0 (F w)))

module _ (by k n : ℕ) (F : ℕ → List Spot) (rises : (u : ℕ) → Rising 0 by (F u)) (some-apart : 0 < by) (few : n ≤ 16) where
  abbrev G : ℕ → List Spot
  G u = map (moved (u * by) (λ (g : Rest). g)) (F u)

  -- those with a value below v stand below v × by
  passed_by : (u v : ℕ) → u < v → v * by ≤ k → first_of (from_spot k (G u)) ≡ None
  passed_by u v l m =
      let up : (u + 1) * by ≤ v * by = mul-le-mul_right by (omega arith) in
      ap first_of (found_none k (rising_moved (u * by) (λ (g : Rest). g) (rises u)) (omega (arith, next_multiple u by)))

  module _ (v : ℕ) (is : v ≡ min (k / by) 16) where
    low : v * by ≤ k
    low =
        let a : v * by ≤ k / by * by = mul-le-mul_right by (omega arith) in
        omega (arith, div-mul-le_self k by)

    module _ (less : v < n) where
      here : v ≡ k / by
      here = omega arith

      same : v * by ≡ k / by * by
      same = ap (λ (m : ℕ). m * by) here

      left_over : k - v * by ≡ k % by
      left_over = omega (arith, same, div-add-mod' k by)

      up : k < v * by + by
      up = omega (arith, same, lt-div-mul-add {a = k} some-apart)

      at_value : first_of (from_spot k (G v)) ≡ further (v * by) (first_of (from_spot (k % by) (F v)))
      at_value = found_moved k (v * by) (λ (g : Rest). g) (F v) ∙ ap (λ (m : ℕ). further (v * by) (first_of (from_spot m (F v)))) left_over

    some_first : (a : ℕ) (xs : List Spot) (o : Option ℕ) → is_none xs ≡ false → option_or (further a (first_of xs)) o ≡ further a (first_of xs)
    some_first a [] o e = absurd (false≢true (sym e))
    some_first a (x ∷ xs) o e = refl

    module _ (w : Option ℕ) (enabled : ℕ → Bool) (are : (u : ℕ) → u < 16 → enabled u ≡ not (is_none (F u))) (next : NextValue enabled (v + 1) n w) where
      rest : List Spot
      rest = lists_from G (suc v) (0 + n - suc v)

      idle : (u : ℕ) → u < n → enabled u ≡ false → first_of (from_spot k (G u)) ≡ None
      idle u l q =
          let e : is_none (F u) ≡ true = not-false (is_none (F u)) (sym (are u (omega arith)) ∙ q) in
          ap (λ (l : List Spot). first_of (from_spot k (map (moved (u * by) (λ (g : Rest). g)) l))) (empty (F u) e)

      after : v < n → (o : Option ℕ) → NextValue enabled (v + 1) n o → first_of (from_spot k rest) ≡ first_with by F o
      unfolding rest
      after less (Some w) (o, m, here, before) =
          let some_one : is_none (F w) ≡ false = not-true (is_none (F w)) (sym (are w (omega arith)) ∙ here) in
          let far : (v + 1) * by ≤ w * by = mul-le-mul_right by (omega arith) in
          let zero-on : k - w * by ≡ 0 = omega (arith, up less, next_multiple v by) in
          let all = ap (λ (l : List Spot). further (w * by) (first_of l)) (from_start (F w)) in
          let later : Option ℕ = first_of (from_spot k (lists_from G (suc w) (suc v + (0 + n - suc v) - suc w))) in
          first_lists k G (0 + n - suc v) (suc v) w (omega arith) (omega arith) (λ u a b. idle u (omega arith) (before u (omega arith) b))
          ∙ ap (λ (x : Option ℕ). option_or x later) (found_moved k (w * by) (λ (g : Rest). g) (F w) ∙ ap (λ (m : ℕ). further (w * by) (first_of (from_spot m (F w)))) zero-on ∙ all)
          ∙ some_first (w * by) (F w) later some_one
          ∙ sym all
      after less None before = none_lists k G (0 + n - suc v) (suc v) (λ u a b. idle u (omega arith) (before u (omega arith) (omega arith)))

      -- behind n there is no next value
      none_after : n ≤ v → (o : Option ℕ) → NextValue enabled (v + 1) n o → first_with by F o ≡ None
      none_after over (Some w) (o, m, here, before) = absurd (omega arith)
      none_after over None before = refl

      pub values_found :
          first_of (from_spot k (lists_from (λ (u : ℕ). map (moved (u * by) (λ (g : Rest). g)) (F u)) 0 n))
          ≡ option_or (cond (ltb v n) (further (v * by) (first_of (from_spot (k % by) (F v)))) None) (first_with by F w)
      unfolding rest
      values_found = go (ltb v n) refl
        where
          go : (b : Bool) → ltb v n ≡ b
              → first_of (from_spot k (lists_from G 0 n))
              ≡ option_or (cond b (further (v * by) (first_of (from_spot (k % by) (F v)))) None) (first_with by F w)
          go true q =
              let less : v < n = ltb-true v n q in
              first_lists k G n 0 v (omega arith) (omega arith) (λ u a b. passed_by u v b low)
              ∙ ap₂ option_or (at_value less) (after less w next)
          go false q =
              let over : n ≤ v = ltb-false v n q in
              none_lists k G n 0 (λ u a b. passed_by u v (omega arith) low)
              ∙ sym (none_after over w next)

    pub values_laid :
        (x : RestTransition) → Memᴰ (k, x) (lists_from (λ (u : ℕ). map (moved (u * by) (λ (g : Rest). g)) (F u)) 0 n)
        → (ltb v n ≡ true) × Memᴰ (k % by, x) (F v)
    values_laid x m =
        let z = of_lists G n 0 m in
        let u : ℕ = z.0 in
        let y = of_moved (u * by) k (λ (g : Rest). g) (F u) z.3 in
        let below : k - u * by < by = (rising_at (rises u) y.2).1 in
        let div : k / by ≡ u = div-eq_of_lt-le by y.0 (omega (arith, next_multiple u by, y.0)) in
        let value : u ≡ v = omega (arith, z.2) in
        let less : v < n = omega (arith, z.2) in
        let at : k - u * by ≡ k % by = ap (λ (q : ℕ). k - q * by) value ∙ left_over less in (
          lt-ltb v n less,
          subst (λ (q : ℕ). Memᴰ (k % by, x) (F q)) value (Memᴰ.cast (ap₂ (λ (a : ℕ) (b : RestTransition). (a, b)) (sym at) y.3) y.2),
        )
