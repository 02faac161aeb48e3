-- What words say of the remaining program that stands in them. The tag tells its outermost node apart, the record and the number of nodes
-- are pinned, and where the parts stand follows from that number: so one remaining program stands at a place, and its words are the same
-- wherever it stands. Assumes nothing.
use mathlib.Core.Path.{◌≡◌, refl, sym, ap, ap₂, subst, ◌∙◌}
use mathlib.Core.List.{List}
use Prim.Native.Nat.{ℕ, zero, suc, ◌+◌, ◌*◌, ◌-◌, ◌≤◌, ◌<◌}
use native.Mathlib.Omega.{arith}
use native.Mathlib.Decide.{dec_lt}
use lib.ListN.{length, get_or}
use Rattle.remaining.specs.Rest.{Rest, gone, leaf, node, nodes}
use Rattle.words.specs.Words.{Node, At}

pub nodes_pos : (t : Rest) → 1 ≤ nodes t
unfolding nodes
nodes_pos gone = omega arith
nodes_pos (leaf p) = omega arith
nodes_pos (node g l r) = omega arith

pub at_size : (t : Rest) (w : List ℕ) (i : ℕ) → At t w i → get_or w (i + 2) 0 ≡ nodes t
unfolding At nodes
at_size gone w i h = h.size_is
at_size (leaf p) w i h = h.size_is
at_size (node g l r) w i h = h.0.size_is

-- it stands inside
pub at_room : (t : Rest) (w : List ℕ) (i : ℕ) → At t w i → i + 3 * nodes t ≤ length w
unfolding At nodes
at_room gone w i h = h.inside
at_room (leaf p) w i h = h.inside
at_room (node g l r) w i h = h.0.inside

-- so do the words of its outermost node
pub at_node_room : (t : Rest) (w : List ℕ) (i : ℕ) → At t w i → i + 3 ≤ length w
at_node_room t w i h = omega (arith, at_room t w i h, nodes_pos t)

-- a construct, where the tag k is neither 0 nor 1
pub record Inner (t : Rest) (w : List ℕ) (i k : ℕ) : Type 0 where
  pub l : Rest
  pub r : Rest
  pub l_at : At l w (i + 3)
  pub r_at : At r w (i + 3 + 3 * nodes l)
  pub sizes : nodes t ≡ 1 + nodes l + nodes r
  pub is : t ≡ node k l r
  pub three : 3 ≤ k

module _ (w : List ℕ) (i k : ℕ) (e : k ≡ get_or w i 0) where
  pub gone_at : (t : Rest) → At t w i → k ≡ 0 → t ≡ gone
  unfolding At
  gone_at gone h z = refl
  gone_at (leaf p) h z = absurd (omega (arith, h.tag_is))
  gone_at (node g l r) h z = absurd (omega (arith, h.0.tag_is, h.1))

  pub leaf_at : (t : Rest) → At t w i → k ≡ 1 → t ≡ leaf (get_or w (i + 1) 0)
  unfolding At
  leaf_at gone h z = absurd (omega (arith, h.tag_is))
  leaf_at (leaf p) h z = ap leaf (sym h.record_is)
  leaf_at (node g l r) h z = absurd (omega (arith, h.0.tag_is, h.1))

  pub inner_at : (t : Rest) → At t w i → (k ≡ 0 → ⊥) → (k ≡ 1 → ⊥) → Inner t w i k
  unfolding At nodes
  inner_at gone h n n1 = absurd (n (e ∙ h.tag_is))
  inner_at (leaf p) h n n1 = absurd (n1 (e ∙ h.tag_is))
  inner_at (node g l r) h n n1 =
      subst (λ (j : ℕ). Inner (node g l r) w i j) (sym (e ∙ h.0.tag_is))
      (record { l = l; r = r; l_at = h.2; r_at = h.3; sizes = refl; is = refl; three = h.1 })

-- one remaining program stands at a place
pub at_unique : (t u : Rest) (w : List ℕ) (i : ℕ) → At t w i → At u w i → t ≡ u
unfolding At nodes
at_unique gone u w i h k = sym (gone_at w i 0 (sym h.tag_is) u k refl)
at_unique (leaf p) u w i h k = ap leaf (sym h.record_is) ∙ sym (leaf_at w i 1 (sym h.tag_is) u k refl)
at_unique (node g l r) u w i h k =
    let I = inner_at w i g (sym h.0.tag_is) u k (λ z. omega (arith, h.1)) (λ z. omega (arith, h.1)) in
    let el : l ≡ I.l = at_unique l I.l w (i + 3) h.2 I.l_at in
    let er : r ≡ I.r = at_unique r I.r w (i + 3 + 3 * nodes l) h.3 (subst (λ (x : Rest). At I.r w (i + 3 + 3 * nodes x)) (sym el) I.r_at) in
    ap₂ (node g) el er ∙ sym I.is

-- n words from i on in w are those from j on in w'
abbrev pub Same : ℕ → ℕ → ℕ → List ℕ → List ℕ → Type 0
Same n i j w w' = (k : ℕ) → k < n → get_or w' (j + k) 0 ≡ get_or w (i + k) 0

node_words : (i j tag p n : ℕ) (w w' : List ℕ) → Node w i tag p n → Node w' j tag p n → Same 3 i j w w'
node_words i j tag p n w w' N M zero h = ap (λ (x : ℕ). get_or w' x 0) (omega arith) ∙ M.tag_is ∙ sym N.tag_is ∙ ap (λ (x : ℕ). get_or w x 0) (omega arith)
node_words i j tag p n w w' N M (suc zero) h = M.record_is ∙ sym N.record_is
node_words i j tag p n w w' N M (suc (suc zero)) h = M.size_is ∙ sym N.size_is
node_words i j tag p n w w' N M (suc (suc (suc k))) h = absurd (omega arith)

-- runs of words, one after the other
both : (n m i j : ℕ) (w w' : List ℕ) → Same n i j w w' → Same m (i + n) (j + n) w w' → Same (n + m) i j w w'
both n m i j w w' f g k h = go (dec_lt k n)
  where
    go : Dec (k < n) → get_or w' (j + k) 0 ≡ get_or w (i + k) 0
    go (yes l) = f k l
    go (no l) = ap (λ (x : ℕ). get_or w' x 0) (omega arith) ∙ g (k - n) (omega arith) ∙ ap (λ (x : ℕ). get_or w x 0) (omega arith)

-- equal remaining programs are equal word for word
pub at_same : (t : Rest) (i j : ℕ) (w w' : List ℕ) → At t w i → At t w' j → Same (3 * nodes t) i j w w'
unfolding At nodes
at_same gone i j w w' h g = node_words i j 0 0 1 w w' h g
at_same (leaf p) i j w w' h g = node_words i j 1 p 1 w w' h g
at_same (node tag l r) i j w w' h g =
    subst (λ (n : ℕ). Same n i j w w') (omega arith)
    (both (3 + 3 * nodes l) (3 * nodes r) i j w w'
    (both 3 (3 * nodes l) i j w w' (node_words i j tag 0 _ w w' h.0 g.0) (at_same l (i + 3) (j + 3) w w' h.2 g.2))
    (subst (λ (n : ℕ). Same (3 * nodes r) n (j + (3 + 3 * nodes l)) w w') (omega arith)
    (subst (λ (n : ℕ). Same (3 * nodes r) (i + 3 + 3 * nodes l) n w w') (omega arith)
    (at_same r (i + 3 + 3 * nodes l) (j + 3 + 3 * nodes l) w w' h.3 g.3))))
