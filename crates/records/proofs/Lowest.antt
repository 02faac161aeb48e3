-- The number that is computed is the lowest at which the rule fails; there is none exactly where the rule holds of every number.
-- Assumes nothing.
use mathlib.Core.Path.{◌≡◌, refl, sym, ◌∙◌, subst}
use mathlib.Core.Bool.{Bool, true, false, false≢true}
use mathlib.Core.Logic.{⊎_elim, ◌↔◌}
use Prim.Native.Nat.{ℕ, zero, suc, ◌+◌, ◌≤◌, ◌<◌}
use native.Mathlib.Decide.{dec_lt}
use native.Mathlib.Nat.{eq-or-lt_of_le}
use native.Mathlib.Omega.{arith}
use Rattle.records.specs.Lowest.{lowest_from, lowest, LowestFaulty}

module _ (ok : ℕ → Bool) where
  pub from_true : (i k : ℕ) → ok i ≡ true → lowest_from ok i (suc k) ≡ lowest_from ok (suc i) k
  unfolding lowest_from
  from_true i k e = rw (e, lowest_from)

  pub from_false : (i k : ℕ) → ok i ≡ false → lowest_from ok i (suc k) ≡ i
  unfolding lowest_from
  from_false i k e = rw (e, lowest_from)

  pub from_none : (i : ℕ) → lowest_from ok i 0 ≡ i
  unfolding lowest_from
  from_none i = refl

  -- the search goes onward, and at all that it passes the rule holds
  pub from_onward : (k i : ℕ) → i ≤ lowest_from ok i k
  from_onward zero i = omega (arith, from_none i)
  from_onward (suc k) i = go (ok i) refl (from_onward k (suc i))
    where
      go : (t : Bool) → ok i ≡ t → suc i ≤ lowest_from ok (suc i) k → i ≤ lowest_from ok i (suc k)
      go true e next = omega (arith, from_true i k e)
      go false e next = omega (arith, from_false i k e)

  pub from_passed : (k i j : ℕ) → i ≤ j → j < lowest_from ok i k → ok j ≡ true
  from_passed zero i j a b = absurd (omega (arith, from_none i))
  from_passed (suc k) i j a b = go (ok i) refl (from_passed k (suc i) j)
    where
      go : (t : Bool) → ok i ≡ t → (suc i ≤ j → j < lowest_from ok (suc i) k → ok j ≡ true) → ok j ≡ true
      go false e next = absurd (omega (arith, from_false i k e))
      go true e next = ⊎_elim (λ d. subst (λ (m : ℕ). ok m ≡ true) d e) (λ l. next l (omega (arith, from_true i k e))) (eq-or-lt_of_le a)

  from_fails : (k i : ℕ) → lowest_from ok i k < i + k → ok (lowest_from ok i k) ≡ false
  from_fails zero i h = absurd (omega (arith, from_none i))
  from_fails (suc k) i h = go (ok i) refl (from_fails k (suc i))
    where
      go : (t : Bool) → ok i ≡ t → (lowest_from ok (suc i) k < suc i + k → ok (lowest_from ok (suc i) k) ≡ false) → ok (lowest_from ok i (suc k)) ≡ false
      go false e next = rw (from_false i k e) e
      go true e next = rw (from_true i k e) (next (omega (arith, from_true i k e)))

  -- the rule holds of every lower number
  pub lower_true : (n j : ℕ) → j < lowest ok n → ok j ≡ true
  unfolding lowest
  lower_true n j l = from_passed n 0 j (omega arith) l

  -- and fails there
  pub lowest_false : (n : ℕ) → lowest ok n < n → ok (lowest ok n) ≡ false
  unfolding lowest
  lowest_false n l = from_fails n 0 (omega arith)

  module _ (Rule : ℕ → Type 0) (decides : (i : ℕ) → (ok i ≡ true) ↔ Rule i) (n : ℕ) where
    lowest_is : lowest ok n < n → LowestFaulty Rule n (lowest ok n)
    lowest_is l = record {
      exists = l;
      faulty = λ r. false≢true (sym (lowest_false n l) ∙ (decides (lowest ok n)).1 r);
      lower = λ i h. (decides i).0 (lower_true n i h);
    }

    is_lowest : {p : ℕ} → LowestFaulty Rule n p → p ≡ lowest ok n
    is_lowest {p} f = go (dec_lt p (lowest ok n)) (dec_lt (lowest ok n) p)
      where
        go : Dec (p < lowest ok n) → Dec (lowest ok n < p) → p ≡ lowest ok n
        go (yes l) h = absurd (f.faulty ((decides p).0 (lower_true n p l)))
        go (no l) (yes h) = let b = f.exists in absurd ((lowest_is (omega arith)).faulty (f.lower (lowest ok n) h))
        go (no l) (no h) = omega arith

    -- the number computed, where it is below n, is the lowest faulty one, and nothing else is
    pub lowest_exactly : (p : ℕ) → LowestFaulty Rule n p ↔ ((lowest ok n < n) × (p ≡ lowest ok n))
    lowest_exactly p = (λ f. let e = is_lowest f in let b = f.exists in (omega arith, e), λ (l, e). subst (LowestFaulty Rule n) (sym e) (lowest_is l))

    -- where it is not, there is none
    pub none_exactly : (n ≤ lowest ok n) ↔ ((i : ℕ) → i < n → Rule i)
    none_exactly = (λ h i l. (decides i).0 (lower_true n i (omega arith)), λ all. go (dec_lt (lowest ok n) n) all)
      where
        go : Dec (lowest ok n < n) → ((i : ℕ) → i < n → Rule i) → n ≤ lowest ok n
        go (yes l) all = absurd ((lowest_is l).faulty (all (lowest ok n) l))
        go (no l) all = omega arith
