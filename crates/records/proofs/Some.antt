-- One, or every one, of the numbers of a range has what a test says exactly where some number of the range, or each, has it; tests that
-- say the same of the range find alike; and one number more is one test more. Assumes nothing.
use mathlib.Core.Path.{◌≡◌, refl, sym, ap, subst, ◌∙◌}
use mathlib.Core.Bool.{Bool, true, false, ◌&&◌, ◌||◌, and_assoc, and-true, or_assoc, or-false}
use mathlib.Core.Logic.{◌⊎◌, inl, inr, ⊎_elim, ◌↔◌}
use Prim.Native.Nat.{ℕ, zero, suc, ◌+◌, ◌≤◌}
use native.Mathlib.Nat.{eq-or-lt_of_le, add-zero}
use native.Mathlib.Omega.{arith}
use lib.Dec.{T}
use Rattle.records.specs.Some.{InRange, some_from, every_from}

-- a number from i on is i, or comes after it
here : (i a : ℕ) → i ≤ a → (a ≡ i) ⊎ (suc i ≤ a)
here i a l = ⊎_elim (λ e. inl (omega arith)) inr (eq-or-lt_of_le l)

-- the first number of a range, or one of the others
pub range_more : (P : ℕ → Type 0) (k i : ℕ) → (P i ⊎ ((a : ℕ) × InRange (suc i) k a × P a)) ↔ ((a : ℕ) × InRange i (suc k) a × P a)
range_more P k i = (
  ⊎_elim (λ p. (i, (omega arith, omega arith), p)) (λ (a, (l, m), p). (a, (omega arith, omega arith), p)),
  λ (a, (l, m), p). ⊎_elim (λ e. inl (subst P e p)) (λ j. inr (a, (omega arith, omega arith), p)) (here i a l),
)

-- one of the k numbers from i on has what the test decides
pub some_iff : {P : ℕ → Type 0} (has : ℕ → Bool) → ((a : ℕ) → T (has a) ↔ P a) → (k i : ℕ) → T (some_from has i k) ↔ ((a : ℕ) × InRange i k a × P a)
unfolding some_from
some_iff has h zero i = (λ t. absurd t, λ (a, (l, m), p). absurd (omega arith))
some_iff {P} has h (suc k) i = go (has i) (h i) (some_iff has h k (suc i))
  where
    go : (b : Bool) → T b ↔ P i → T (some_from has (suc i) k) ↔ ((a : ℕ) × InRange (suc i) k a × P a)
        → T (b || some_from has (suc i) k) ↔ ((a : ℕ) × InRange i (suc k) a × P a)
    go true own later = (λ t. (i, (omega arith, omega arith), own.0 tt), λ x. tt)
    go false own later = (
      λ t. let (a, (l, m), p) = later.0 t in (a, (omega arith, omega arith), p),
      λ (a, (l, m), p). ⊎_elim (λ e. absurd (own.1 (subst P e p))) (λ j. later.1 (a, (omega arith, omega arith), p)) (here i a l),
    )

pub some_same : (f g : ℕ → Bool) (k i : ℕ) → ((a : ℕ) → InRange i k a → f a ≡ g a) → some_from f i k ≡ some_from g i k
unfolding some_from
some_same f g zero i h = refl
some_same f g (suc k) i h = rw (h i (omega arith, omega arith), some_same f g k (suc i) (λ a (l, m). h a (omega arith, omega arith)))

-- one number more
pub some_more : (has : ℕ → Bool) (k i : ℕ) → some_from has i (suc k) ≡ (some_from has i k || has (i + k))
unfolding some_from
some_more has zero i = rw (or-false, add-zero)
some_more has (suc k) i =
    ap (λ (b : Bool). has i || b) (some_more has k (suc i))
    ∙ sym (or_assoc (has i) (some_from has (suc i) k) (has (suc i + k)))
    ∙ ap (λ (a : ℕ). has i || some_from has (suc i) k || has a) (omega arith)

-- each of the k numbers from i on has what the test decides
pub every_iff : {P : ℕ → Type 0} (has : ℕ → Bool) → ((a : ℕ) → T (has a) ↔ P a) → (k i : ℕ) → T (every_from has i k) ↔ ((a : ℕ) → InRange i k a → P a)
unfolding every_from
every_iff has h zero i = (λ t a (l, m). absurd (omega arith), λ f. tt)
every_iff {P} has h (suc k) i = go (has i) (h i) (every_iff has h k (suc i))
  where
    go : (b : Bool) → T b ↔ P i → T (every_from has (suc i) k) ↔ ((a : ℕ) → InRange (suc i) k a → P a)
        → T (b && every_from has (suc i) k) ↔ ((a : ℕ) → InRange i (suc k) a → P a)
    go true own later = (
      λ t a (l, m). ⊎_elim (λ e. subst P (sym e) (own.0 tt)) (λ j. later.0 t a (omega arith, omega arith)) (here i a l),
      λ f. later.1 (λ a (l, m). f a (omega arith, omega arith)),
    )
    go false own later = (λ t. absurd t, λ f. own.1 (f i (omega arith, omega arith)))

pub every_same : (f g : ℕ → Bool) (k i : ℕ) → ((a : ℕ) → InRange i k a → f a ≡ g a) → every_from f i k ≡ every_from g i k
unfolding every_from
every_same f g zero i h = refl
every_same f g (suc k) i h = rw (h i (omega arith, omega arith), every_same f g k (suc i) (λ a (l, m). h a (omega arith, omega arith)))

-- one number more
pub every_more : (has : ℕ → Bool) (k i : ℕ) → every_from has i (suc k) ≡ (every_from has i k && has (i + k))
unfolding every_from
every_more has zero i = rw (and-true, add-zero)
every_more has (suc k) i =
    ap (λ (b : Bool). has i && b) (every_more has k (suc i))
    ∙ sym (and_assoc (has i) (every_from has (suc i) k) (has (suc i + k)))
    ∙ ap (λ (a : ℕ). has i && every_from has (suc i) k && has a) (omega arith)
