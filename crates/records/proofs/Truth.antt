-- What a test made of others tells of them, and of a number that counts where it passes. Assumes nothing.
use mathlib.Core.Path.{◌≡◌, refl, sym, ◌∙◌, ap}
use mathlib.Core.Bool.{Bool, true, false, not, cond, ◌&&◌, ◌||◌, false≢true}
use mathlib.Core.Logic.{◌⊎◌, inl, inr, ⊎_elim, ◌↔◌}
use Prim.Native.Nat.{ℕ, ◌≤◌}
use native.Mathlib.Omega.{arith}
use lib.Dec.{T}

pub and_left : (a b : Bool) → (a && b) ≡ true → a ≡ true
and_left true b e = refl
and_left false b e = e

pub and_right : (a b : Bool) → (a && b) ≡ true → b ≡ true
and_right true b e = e
and_right false b e = cc

pub and_both : (a b : Bool) → a ≡ true → b ≡ true → (a && b) ≡ true
and_both a b p q = ap (λ (x : Bool). x && b) p ∙ q

-- three, or four, one after the other
pub and_three : (a b c : Bool) → (a && b && c) ≡ true → (a ≡ true) × (b ≡ true) × (c ≡ true)
and_three a b c e = let d = and_left (a && b) c e in (and_left a b d, and_right a b d, and_right (a && b) c e)

pub and_four : (a b c d : Bool) → (a && b && c && d) ≡ true → (a ≡ true) × (b ≡ true) × (c ≡ true) × (d ≡ true)
and_four a b c d e = let t = and_three a b c (and_left (a && b && c) d e) in (t.0, t.1, t.2, and_right (a && b && c) d e)

pub or_left : (a b : Bool) → a ≡ true → (a || b) ≡ true
or_left a b p = ap (λ (x : Bool). x || b) p

pub or_right : (a b : Bool) → b ≡ true → (a || b) ≡ true
or_right true b p = refl
or_right false b p = p

pub or_neither : (a b : Bool) → (a || b) ≡ false → (a ≡ false) × (b ≡ false)
or_neither true b e = absurd (false≢true (sym e))
or_neither false b e = (refl, e)

pub or_only : (a : Bool) → (a || false) ≡ true → a ≡ true
or_only true e = refl
or_only false e = e

pub is_false : (a : Bool) → (a ≡ true → ⊥) → a ≡ false
is_false true h = absurd (h refl)
is_false false h = refl

pub is_true : (a : Bool) → T a → a ≡ true
is_true true t = refl
is_true false t = absurd t

pub true_exactly : (a : Bool) → T a ↔ (a ≡ true)
true_exactly true = (λ t. refl, λ e. tt)
true_exactly false = (λ t. absurd t, false≢true)

-- a test made of others decides what is made of theirs
pub and_exactly : {A B : Type 0} (a b : Bool) → (a ≡ true) ↔ A → (b ≡ true) ↔ B → ((a && b) ≡ true) ↔ (A × B)
and_exactly a b p q = (λ e. (p.0 (and_left a b e), q.0 (and_right a b e)), λ (x, y). and_both a b (p.1 x) (q.1 y))

pub or_exactly : {A B : Type 0} (a b : Bool) → (a ≡ true) ↔ A → (b ≡ true) ↔ B → ((a || b) ≡ true) ↔ (A ⊎ B)
or_exactly true b p q = (λ e. inl (p.0 e), λ h. refl)
or_exactly false b p q = (λ e. inr (q.0 e), ⊎_elim (λ x. absurd (false≢true (p.1 x))) (λ y. q.1 y))

pub not_exactly : {A : Type 0} (a : Bool) → (a ≡ true) ↔ A → (not a ≡ true) ↔ (¬ A)
not_exactly true p = (λ e. absurd (false≢true e), λ n. absurd (n (p.0 refl)))
not_exactly false p = (λ e x. false≢true (p.1 x), λ n. refl)

-- tests that decide the same are the same
pub same_test : (a b : Bool) → T a ↔ T b → a ≡ b
same_test true b e = sym (is_true b (e.0 tt))
same_test false true e = absurd (e.1 tt)
same_test false false e = refl

-- a number that counts where a test passes is no more than itself
pub part_few : (b : Bool) (n : ℕ) → cond b n 0 ≤ n
part_few true n = omega arith
part_few false n = omega arith
