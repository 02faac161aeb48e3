-- The order of histories: it is that of F-1's sentence, transitive, antisymmetric and total; it goes by the first entry, and can be tested.
-- Assumes nothing.
use Prim.Native.Nat.{ℕ, ◌<◌}
use native.Mathlib.Omega.{arith}
use native.Mathlib.Decide.{dec_lt, ℕ_discrete}
use mathlib.Core.Bool.{◌&&◌}
use mathlib.Core.List.{List, [], ◌∷◌, ◌++◌, head-eq_of_cons-eq, tail-eq_of_cons-eq, cons≢nil}
use mathlib.Core.Logic.{◌⊎◌, inl, inr, ⊎_elim, ◌↔◌}
use mathlib.Core.Path.{◌≡◌, refl, ap, ap₂, sym, subst, ◌∙◌}
use lib.Dec.{T, ltb, eqb}
use Rattle.runs.specs.Order.{Smaller, SmallerAtDifference, AtMost}
use Rattle.runs.specs.Earliest.{at_most}
use Rattle.runs.proofs.Tests.{and_iff, or_iff, eqb_iff, ltb_iff}

beginning_smaller : (p : List ℕ) (b : ℕ) (s : List ℕ) → Smaller p (p ++ b ∷ s)
beginning_smaller [] b s = tt
beginning_smaller (x ∷ p) b s = inr (refl, beginning_smaller p b s)

entry_smaller : (p : List ℕ) (a b : ℕ) (r s : List ℕ) → a < b → Smaller (p ++ a ∷ r) (p ++ b ∷ s)
entry_smaller [] a b r s l = inl l
entry_smaller (x ∷ p) a b r s l = inr (refl, entry_smaller p a b r s l)

difference : (h g : List ℕ) → Smaller h g → SmallerAtDifference h g
difference h [] w = absurd w
difference [] (b ∷ g) w = ([], b, g, refl, inl refl)
difference (a ∷ h) (b ∷ g) (inl l) = ([], b, g, refl, inr (a, h, refl, l))
difference (a ∷ h) (b ∷ g) (inr (e, w)) =
    let (p, x, s, q, v) = difference h g w in
    (b ∷ p, x, s, ap (b ∷◌) q, ⊎_elim (λ z. inl (ap₂ ◌∷◌ e z)) (λ (y, r, z, l). inr (y, r, ap₂ ◌∷◌ e z, l)) v)

-- F-1's sentence
pub smaller_exactly : (h g : List ℕ) → Smaller h g ↔ SmallerAtDifference h g
smaller_exactly h g = (
  difference h g,
  λ (p, b, s, q, v). rw q (⊎_elim (λ z. rw z (beginning_smaller p b s)) (λ (a, r, z, l). rw z (entry_smaller p a b r s l)) v),
)

-- of two numbers one is smaller, or they are equal
three : (a b : ℕ) → (a < b) ⊎ ((a ≡ b) ⊎ (b < a))
three a b = go (dec_lt a b) (ℕ_discrete a b)
  where
    go : Dec (a < b) → Dec (a ≡ b) → (a < b) ⊎ ((a ≡ b) ⊎ (b < a))
    go (yes l) e = inl l
    go (no n) (yes e) = inr (inl e)
    go (no n) (no m) = inr (inr (omega arith))

-- one is smaller, or they are the same
pub one_smaller : (h g : List ℕ) → Smaller h g ⊎ ((h ≡ g) ⊎ Smaller g h)
one_smaller [] [] = inr (inl refl)
one_smaller [] (b ∷ g) = inl tt
one_smaller (a ∷ h) [] = inr (inr tt)
one_smaller (a ∷ h) (b ∷ g) = go (three a b) (one_smaller h g)
  where
    go : (a < b) ⊎ ((a ≡ b) ⊎ (b < a)) → Smaller h g ⊎ ((h ≡ g) ⊎ Smaller g h) → Smaller (a ∷ h) (b ∷ g) ⊎ ((a ∷ h ≡ b ∷ g) ⊎ Smaller (b ∷ g) (a ∷ h))
    go (inl l) t = inl (inl l)
    go (inr (inl e)) (inl s) = inl (inr (e, s))
    go (inr (inl e)) (inr (inl q)) = inr (inl (ap₂ ◌∷◌ e q))
    go (inr (inl e)) (inr (inr s)) = inr (inr (inr (sym e, s)))
    go (inr (inr l)) t = inr (inr (inl l))

smaller_trans : (h g f : List ℕ) → Smaller h g → Smaller g f → Smaller h f
smaller_trans h g [] v w = w
smaller_trans h [] (c ∷ f) v w = absurd v
smaller_trans [] (b ∷ g) (c ∷ f) v w = tt
smaller_trans (a ∷ h) (b ∷ g) (c ∷ f) (inl l) (inl m) = inl (omega arith)
smaller_trans (a ∷ h) (b ∷ g) (c ∷ f) (inl l) (inr (e, w)) = inl (omega arith)
smaller_trans (a ∷ h) (b ∷ g) (c ∷ f) (inr (e, v)) (inl m) = inl (omega arith)
smaller_trans (a ∷ h) (b ∷ g) (c ∷ f) (inr (e, v)) (inr (d, w)) = inr (e ∙ d, smaller_trans h g f v w)

not_smaller : (h : List ℕ) → ¬ Smaller h h
not_smaller [] w = w
not_smaller (a ∷ h) (inl l) = omega arith
not_smaller (a ∷ h) (inr (e, w)) = not_smaller h w

-- a total order
pub at_most_trans : (h g f : List ℕ) → AtMost h g → AtMost g f → AtMost h f
at_most_trans h g f (inl v) (inl w) = inl (smaller_trans h g f v w)
at_most_trans h g f (inl v) (inr e) = inl (subst (Smaller h) e v)
at_most_trans h g f (inr e) q = subst (λ (x : List ℕ). AtMost x f) (sym e) q

pub at_most_antisym : (h g : List ℕ) → AtMost h g → AtMost g h → h ≡ g
at_most_antisym h g (inr e) q = e
at_most_antisym h g (inl v) (inr e) = sym e
at_most_antisym h g (inl v) (inl w) = absurd (not_smaller h (smaller_trans h g h v w))

pub at_most_total : (h g : List ℕ) → AtMost h g ⊎ AtMost g h
at_most_total h g = ⊎_elim (λ v. inl (inl v)) (⊎_elim (λ e. inl (inr e)) (λ v. inr (inl v))) (one_smaller h g)

-- nothing is smaller than no move at all
pub none_at_most : (g : List ℕ) → AtMost [] g
none_at_most [] = inr refl
none_at_most (b ∷ g) = inl tt

-- by their first entries
pub entry_at_most : (a b : ℕ) (h g : List ℕ) → AtMost (a ∷ h) (b ∷ g) ↔ ((a < b) ⊎ ((a ≡ b) × AtMost h g))
entry_at_most a b h g = (
  ⊎_elim (⊎_elim inl (λ (e, v). inr (e, inl v))) (λ e. inr (head-eq_of_cons-eq e, inr (tail-eq_of_cons-eq e))),
  ⊎_elim (λ l. inl (inl l)) (λ (e, w). ⊎_elim (λ v. inl (inr (e, v))) (λ q. inr (ap₂ ◌∷◌ e q)) w),
)

-- the test
pub at_most_iff : (h g : List ℕ) → T (at_most h g) ↔ AtMost h g
at_most_iff [] g = (λ t. none_at_most g, λ w. tt)
at_most_iff (a ∷ h) [] = (λ t. absurd t, ⊎_elim (λ v. absurd v) (λ e. absurd (cons≢nil e)))
at_most_iff (a ∷ h) (b ∷ g) =
    let both = or_iff (ltb a b) (eqb a b && at_most h g) (ltb_iff a b) (and_iff (eqb a b) (at_most h g) (eqb_iff a b) (at_most_iff h g)) in
    (λ t. (entry_at_most a b h g).1 (both.0 t), λ w. both.1 ((entry_at_most a b h g).0 w))
