-- What a part left, alone or in its construct, is what the meaning has around it. Assumes nothing.
use mathlib.Core.Path.{◌≡◌, sym, ap, subst, ◌∙◌}
use mathlib.Core.Bool.{Bool, true, false, cond, ◌&&◌}
use mathlib.Core.List.{List}
use Prim.Native.Nat.{ℕ, ◌+◌, ◌*◌, ◌<◌}
use native.Mathlib.Omega.{arith}
use lib.Dec.{eqb}
use lib.ListN.{get_or}
use borrow.Author.Tests.{ne_eqb}
use Rattle.remaining.specs.Rest.{Rest, leaf, node, nodes}
use Rattle.remaining.specs.Leaves.{wrap_a, wrap_b, wrap_right}
use Rattle.words.specs.Words.{At, Stands, Kept, CanPutCopy, LeafRight, LeafLeft, CopyRight, CopyLeft}
use Rattle.words.proofs.Standing.{at_size}
use Rattle.steps.specs.Laid.{past, Wrapped}
use Rattle.steps.specs.Stepped.{CanPutRight}

-- in the construct f, x words on, where the test fails
module _ (f : Rest → Rest) (to x n : ℕ) where
  inside : (b : Bool) (n' : ℕ) (w w' : List ℕ) → b ≡ false → Kept to w w' → ((g : Rest) → At g w (to + x) → nodes g ≡ n → At (f g) w' to × (n' ≡ nodes (f g)))
      → Wrapped (λ (g : Rest). cond b g (f g)) (to + past b x) to n n' w w'
  inside b n' w w' e K h =
      subst (λ (b : Bool). Wrapped (λ (g : Rest). cond b g (f g)) (to + past b x) to n n' w w') (sym e) (record { kept = K; wrapped = h })

-- left of a record; the tag and the record as computed
module _ (tag q to n : ℕ) (w : List ℕ) {t : ℕ} (et : t ≡ tag) where
  pub beside_a : {w' : List ℕ} {u : ℕ} → (t ≡ 0 → ⊥) → u ≡ q → LeafRight to t n u w w' → Wrapped (wrap_a tag q) (to + past (eqb tag 0) 3) to n (n + 2) w w'
  unfolding nodes
  beside_a {w'} {u} z eu C =
      let D : LeafRight to tag n q w w' = subst (λ (x : ℕ). LeafRight to tag n x w w') eu (subst (λ (x : ℕ). LeafRight to x n u w w') et C) in
      inside (λ (g : Rest). node tag g (leaf q)) to 3 n (eqb tag 0) (n + 2) w w' (ne_eqb tag 0 (λ e. z (et ∙ e))) D.kept (λ g A h. (D.at g A h, omega arith))

  -- right of one
  pub beside_b : {w' : List ℕ} → (t ≡ 0 → ⊥) → LeafLeft to t n q w w' → Wrapped (wrap_b tag q) (to + past (eqb tag 0) 6) to n (n + 2) w w'
  unfolding nodes
  beside_b {w'} z C =
      let D : LeafLeft to tag n q w w' = subst (λ (x : ℕ). LeafLeft to x n q w w') et C in
      inside (λ (g : Rest). node tag (leaf q) g) to 6 n (eqb tag 0) (n + 2) w w' (ne_eqb tag 0 (λ e. z (et ∙ e))) D.kept (λ g A h. (D.at g A h, omega arith))

-- left of a copy of a right part, whose size is read
pub right_stands : {tag f to n : ℕ} {w : List ℕ} → CanPutRight tag f to n w → Stands w f
right_stands K = record { rest = K.right; at = K.at }

module _ {tag f to n : ℕ} {w : List ℕ} (K : CanPutRight tag f to n w) {m : ℕ} (em : m ≡ get_or w (f + 2) 0) where
  copy_size : m ≡ nodes K.right
  copy_size = em ∙ at_size K.right w f K.at

  pub copy_can : CanPutCopy f to tag n m w
  copy_can = record {
    room = record { inside = omega (arith, K.room.inside, copy_size); small = K.room.small };
    three = K.three;
    below = omega (arith, K.below, copy_size);
  }

  pub beside_right : {w' : List ℕ} → CopyRight f to tag n m w w' → (r : Rest) → At r w f → Wrapped (λ (g : Rest). node tag g r) (to + 3) to n (1 + n + m) w w'
  unfolding nodes
  beside_right C r A =
      let er : nodes r ≡ m = sym (em ∙ at_size r w f A) in
      record { kept = C.kept; wrapped = λ g B h. (C.at g r B h A er, omega arith) }

-- right of a remaining program
module _ (tag f to n m : ℕ) (w : List ℕ) where
  pub beside_left : {w' : List ℕ} → (tag ≡ 3 → ⊥) → CopyLeft f to tag n m w w'
      → (l : Rest) → At l w f → nodes l ≡ n → Wrapped (wrap_right tag l) (to + past (eqb tag 3) (3 + 3 * n)) to m (1 + n + m) w w'
  unfolding nodes
  beside_left {w'} z H l L h =
      inside (λ (g : Rest). node tag l g) to (3 + 3 * n) m (eqb tag 3) (1 + n + m) w w' (ne_eqb tag 3 z) H.kept
      (λ g A k. (H.at l g L h (subst (At g w) (omega arith) A) k, omega arith))

pub both_of : {x y z : Bool} → z ≡ true → x ≡ y → x ≡ (z && y)
both_of {x} {y} h e = e ∙ ap (λ (b : Bool). b && y) (sym h)

pub not_both : (y : Bool) {z : Bool} → z ≡ false → false ≡ (z && y)
not_both y h = ap (λ (b : Bool). b && y) (sym h)

pub choice_few : (b : Bool) (x y m : ℕ) → x < m → y < m → cond b x y < m
choice_few true x y m h k = h
choice_few false x y m h k = k
