-- What is so of each leaf is so of those of each part. Assumes nothing.
use Prim.Native.Nat.{ℕ, ◌+◌, ◌*◌, ◌<◌}
use mathlib.Core.Path.{◌≡◌, subst, sym}
use mathlib.Core.List.{List}
use native.Mathlib.Omega.{arith}
use lib.ListN.{get_or}
use Rattle.remaining.specs.Rest.{Rest, gone, leaf, node, largest}
use Rattle.words.specs.Words.{Stands}
use Rattle.words.proofs.Standing.{leaf_at}
use Rattle.words.proofs.Reading.{Sized}
use Rattle.ends.specs.Ends.{Leaves, Asked}

pub all_leaves : {P : ℕ → Type 0} → ((i : ℕ) → P i) → (g : Rest) → Leaves P g
unfolding Leaves
all_leaves f gone = tt
all_leaves f (leaf i) = f i
all_leaves f (node tag l r) = (all_leaves f l, all_leaves f r)

pub each_leaf : {P Q : ℕ → Type 0} → ((i : ℕ) → P i → Q i) → (g : Rest) → Leaves P g → Leaves Q g
unfolding Leaves
each_leaf f gone a = tt
each_leaf f (leaf i) a = f i a
each_leaf f (node tag l r) (a, b) = (each_leaf f l a, each_leaf f r b)

-- where all numbers are below m
pub leaves_below : {P : ℕ → Type 0} (m : ℕ) → ((i : ℕ) → i < m → P i) → (g : Rest) → largest (λ (i : ℕ). i) g < m → Leaves P g
unfolding Leaves largest
leaves_below m f gone h = tt
leaves_below m f (leaf i) h = f i h
leaves_below m f (node tag l r) h = (leaves_below m f l (omega arith), leaves_below m f r (omega arith))

pub at_leaf : (P : ℕ → Type 0) {g : Rest} {j : ℕ} → g ≡ leaf j → Leaves P g → P j
unfolding Leaves
at_leaf P e a = subst (Leaves P) e a

pub at_parts : (P : ℕ → Type 0) {g l r : Rest} {tag : ℕ} → g ≡ node tag l r → Leaves P g → Leaves P l × Leaves P r
unfolding Leaves
at_parts P e a = subst (Leaves P) e a

pub stands : {P : ℕ → Type 0} {w : List ℕ} {i : ℕ} → Asked P w i → Stands w i
stands A = record { rest = A.rest; at = A.at }

pub asked_all : {P : ℕ → Type 0} {w : List ℕ} {i : ℕ} → ((j : ℕ) → P j) → Stands w i → Asked P w i
asked_all f S = record { rest = S.rest; at = S.at; leaves = all_leaves f S.rest }

pub asked_leaf : {P : ℕ → Type 0} {w : List ℕ} {i k j : ℕ} → Asked P w i → k ≡ get_or w i 0 → k ≡ 1 → j ≡ get_or w (i + 1) 0 → P j
asked_leaf {P} A e l n = subst P (sym n) (at_leaf P (leaf_at _ _ _ e A.rest A.at l) A.leaves)

module _ {P : ℕ → Type 0} {w : List ℕ} {i k m : ℕ} (A : Asked P w i) (S : Sized w i k m) where
  pub asked_left : Asked P w (i + 3)
  asked_left = let p = S.parts_of A.rest A.at in record { rest = p.l; at = p.l_at; leaves = (at_parts P p.is A.leaves).0 }

  pub asked_right : Asked P w (i + 3 + 3 * m)
  asked_right = let p = S.parts_of A.rest A.at in record { rest = p.r; at = p.r_at; leaves = (at_parts P p.is A.leaves).1 }
