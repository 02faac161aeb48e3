-- A remaining program that stands in some words stands in any words that agree there: in a copy, and where its words are kept. So a
-- node written over parts that stand around it makes the construct. Assumes nothing.
use mathlib.Core.Path.{◌≡◌, refl, sym, ap, subst, ◌∙◌}
use mathlib.Core.List.{List}
use Prim.Native.Nat.{ℕ, ◌+◌, ◌*◌, ◌≤◌}
use native.Mathlib.Omega.{arith}
use lib.ListN.{length, get_or}
use Rattle.remaining.specs.Rest.{Rest, gone, leaf, node, nodes}
use Rattle.words.specs.Words.{Node, At, Kept, Copied, Put, CanPutLeaf, CanPutCopy, LeafRight, LeafLeft, CopyRight, CopyLeft}
use Rattle.words.proofs.Standing.{at_room, Same}
use Rattle.words.proofs.Written.{kept_less, kept_trans, kept_put}

shift : (n m d i j : ℕ) (w w' : List ℕ) → Same n i j w w' → d + m ≤ n → Same m (i + d) (j + d) w w'
shift n m d i j w w' f h k l =
    ap (λ (x : ℕ). get_or w' x 0) (omega arith) ∙ f (d + k) (omega arith) ∙ ap (λ (x : ℕ). get_or w x 0) (omega arith)

node_move : (n tag p i j : ℕ) (w w' : List ℕ) → Same (3 * n) i j w w' → 1 ≤ n → j + 3 * n ≤ length w' → Node w i tag p n → Node w' j tag p n
node_move n tag p i j w w' f h g N = record {
  tag_is = ap (λ (x : ℕ). get_or w' x 0) (omega arith) ∙ f 0 (omega arith) ∙ ap (λ (x : ℕ). get_or w x 0) (omega arith) ∙ N.tag_is;
  record_is = f 1 (omega arith) ∙ N.record_is;
  size_is = f 2 (omega arith) ∙ N.size_is;
  inside = g;
}

-- agreeing words move a remaining program
pub at_move : (t : Rest) (i j : ℕ) (w w' : List ℕ) → Same (3 * nodes t) i j w w' → j + 3 * nodes t ≤ length w' → At t w i → At t w' j
unfolding At nodes
at_move gone i j w w' f g A = node_move 1 0 0 i j w w' f (omega arith) g A
at_move (leaf p) i j w w' f g A = node_move 1 1 p i j w w' f (omega arith) g A
at_move (node t l r) i j w w' f g A =
    let n = 1 + nodes l + nodes r in (
      node_move n t 0 i j w w' f (omega arith) g A.0,
      A.1,
      at_move l (i + 3) (j + 3) w w' (shift (3 * n) (3 * nodes l) 3 i j w w' f (omega arith)) (omega arith) A.2,
      at_move r (i + 3 + 3 * nodes l) (j + 3 + 3 * nodes l) w w'
          (λ k h. ap (λ (x : ℕ). get_or w' x 0) (omega arith) ∙ f (3 + 3 * nodes l + k) (omega arith) ∙ ap (λ (x : ℕ). get_or w x 0) (omega arith))
          (omega arith)
          A.3,
    )

-- what stands below n stays where the words below n are kept
pub at_kept : (t : Rest) (i n : ℕ) (w w' : List ℕ) → Kept n w w' → i + 3 * nodes t ≤ n → At t w i → At t w' i
at_kept t i n w w' K h A = at_move t i i w w' (λ k b. K.below (i + k) (omega arith)) (omega (arith, K.len, at_room t w i A)) A

module _ (i tag p n : ℕ) (w w' : List ℕ) (P : Put i tag p n w w') where
  -- what stands above, or below, a node that is written stays
  pub at_above : (t : Rest) (j : ℕ) → i + 3 ≤ j → At t w j → At t w' j
  at_above t j h A = at_move t j j w w' (λ k b. P.above (j + k) (omega arith)) (omega (arith, P.len, at_room t w j A)) A

  pub at_below : (t : Rest) (j : ℕ) → j + 3 * nodes t ≤ i → At t w j → At t w' j
  at_below t j h A = at_move t j j w w' (λ k b. P.below (j + k) (omega arith)) (omega (arith, P.len, at_room t w j A)) A

module _ (f to n : ℕ) (w w' : List ℕ) (C : Copied f to n w w') where
  -- a copy, and what stands above it
  pub at_copy : (t : Rest) → 3 * nodes t ≡ n → to + n ≤ length w → At t w f → At t w' to
  at_copy t e h A = at_move t f to w w' (λ k b. C.copied k (omega arith)) (omega (arith, C.kept.len)) A

  pub at_over : (t : Rest) (j : ℕ) → to + n ≤ j → At t w j → At t w' j
  at_over t j h A = at_move t j j w w' (λ k b. C.above (j + k) (omega arith)) (omega (arith, C.kept.len, at_room t w j A)) A

-- a node that is written over two parts
at_node : (l r : Rest) (i g n : ℕ) (w w' : List ℕ) → Put i g 0 n w w' → 3 ≤ g → n ≡ 1 + nodes l + nodes r
    → At l w (i + 3) → At r w (i + 3 + 3 * nodes l) → At (node g l r) w' i
unfolding At nodes
at_node l r i g n w w' P h e L R = (
  record { tag_is = P.tag_is; record_is = P.record_is; size_is = P.size_is ∙ e; inside = omega (arith, P.len, at_room r w _ R) },
  h,
  at_above i g 0 n w w' P l (i + 3) (omega arith) L,
  at_above i g 0 n w w' P r (i + 3 + 3 * nodes l) (omega arith) R,
)

-- a node that is written alone
pub put_leaf : (i p : ℕ) (w w' : List ℕ) → Put i 1 p 1 w w' → i + 3 ≤ length w → At (leaf p) w' i
unfolding At
put_leaf i p w w' P h = record { tag_is = P.tag_is; record_is = P.record_is; size_is = P.size_is; inside = omega (arith, P.len) }

pub put_gone : (i : ℕ) (w w' : List ℕ) → Put i 0 0 1 w w' → i + 3 ≤ length w → At gone w' i
unfolding At
put_gone i w w' P h = record { tag_is = P.tag_is; record_is = P.record_is; size_is = P.size_is; inside = omega (arith, P.len) }

leaf_nodes : (q : ℕ) → nodes (leaf q) ≡ 1
unfolding nodes
leaf_nodes q = refl

pub leaf_right : (to g n q : ℕ) (w w₁ w' : List ℕ) → Put (to + 3 + 3 * n) 1 q 1 w w₁ → Put to g 0 (n + 2) w₁ w' → CanPutLeaf to g n q w → LeafRight to g n q w w'
leaf_right to g n q w w₁ w' P Q K = record {
  kept = kept_trans to to w w₁ w' (kept_put _ to _ _ _ w w₁ P (omega arith)) (kept_put to to _ _ _ w₁ w' Q (omega arith)) (omega arith);
  at = λ t A e.
      at_node t (leaf q) to g (n + 2) w₁ w' Q K.three (omega (arith, leaf_nodes q))
      (at_below (to + 3 + 3 * n) 1 q 1 w w₁ P t (to + 3) (omega arith) A)
      (subst (λ (x : ℕ). At (leaf q) w₁ (to + 3 + 3 * x)) (sym e) (put_leaf (to + 3 + 3 * n) q w w₁ P (omega (arith, K.room.inside))));
}

pub leaf_left : (to g n q : ℕ) (w w₁ w' : List ℕ) → Put (to + 3) 1 q 1 w w₁ → Put to g 0 (n + 2) w₁ w' → CanPutLeaf to g n q w → LeafLeft to g n q w w'
leaf_left to g n q w w₁ w' P Q K = record {
  kept = kept_trans to to w w₁ w' (kept_put _ to _ _ _ w w₁ P (omega arith)) (kept_put to to _ _ _ w₁ w' Q (omega arith)) (omega arith);
  at = λ t A e.
      at_node (leaf q) t to g (n + 2) w₁ w' Q K.three (omega (arith, leaf_nodes q))
      (put_leaf (to + 3) q w w₁ P (omega (arith, K.room.inside)))
      (subst (λ (x : ℕ). At t w₁ x) (omega (arith, leaf_nodes q)) (at_above (to + 3) 1 q 1 w w₁ P t (to + 6) (omega arith) A));
}

pub copy_right : (f to g n m : ℕ) (w w₁ w' : List ℕ) → Copied f (to + 3 + 3 * n) (3 * m) w w₁ → Put to g 0 (1 + n + m) w₁ w' → CanPutCopy f to g n m w
    → CopyRight f to g n m w w'
copy_right f to g n m w w₁ w' C Q K = record {
  kept = kept_trans to to w w₁ w' (kept_less to _ w w₁ C.kept (omega arith)) (kept_put to to _ _ _ w₁ w' Q (omega arith)) (omega arith);
  at = λ l r L el R er.
      at_node l r to g (1 + n + m) w₁ w' Q K.three (omega arith)
      (at_kept l (to + 3) (to + 3 + 3 * n) w w₁ C.kept (omega arith) L)
      (subst (λ (x : ℕ). At r w₁ (to + 3 + 3 * x)) (sym el) (at_copy f (to + 3 + 3 * n) (3 * m) w w₁ C r (omega arith) (omega (arith, K.room.inside)) R));
}

pub copy_left : (f to g n m : ℕ) (w w₁ w' : List ℕ) → Copied f (to + 3) (3 * n) w w₁ → Put to g 0 (1 + n + m) w₁ w' → CanPutCopy f to g m n w → CopyLeft f to g n m w w'
copy_left f to g n m w w₁ w' C Q K = record {
  kept = kept_trans to to w w₁ w' (kept_less to _ w w₁ C.kept (omega arith)) (kept_put to to _ _ _ w₁ w' Q (omega arith)) (omega arith);
  at = λ l r L el R er.
      at_node l r to g (1 + n + m) w₁ w' Q K.three (omega arith)
      (at_copy f (to + 3) (3 * n) w w₁ C l (omega arith) (omega (arith, K.room.inside)) L)
      (subst (λ (x : ℕ). At r w₁ (to + 3 + 3 * x)) (sym el) (at_over f (to + 3) (3 * n) w w₁ C r (to + 3 + 3 * n) (omega arith) R));
}
