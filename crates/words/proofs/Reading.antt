-- What a reader of words that goes down into the parts asks and learns: where they stand, that they stand inside, and that their sizes
-- fall. Assumes nothing.
use mathlib.Core.Path.{◌≡◌, sym, subst, ◌∙◌}
use mathlib.Core.List.{List}
use Prim.Native.Nat.{ℕ, ◌+◌, ◌*◌, ◌≤◌, ◌<◌}
use native.Mathlib.Omega.{arith}
use lib.ListN.{length, get_or}
use Rattle.remaining.specs.Rest.{Rest, node, nodes}
use Rattle.words.specs.Words.{At, Stands}
use Rattle.words.proofs.Standing.{nodes_pos, at_size, at_node_room, Inner, inner_at}

-- the measure of a call at i: the number of nodes that stand there
unfoldable pub size_at : List ℕ → ℕ → ℕ
size_at w i = get_or w (i + 2) 0

-- a construct of tag k whose left part has m nodes
pub record Parts (g : Rest) (w : List ℕ) (i k m : ℕ) : Type 0 where
  pub l : Rest
  pub r : Rest
  pub l_at : At l w (i + 3)
  pub r_at : At r w (i + 3 + 3 * m)
  pub left_is : m ≡ nodes l
  pub is : g ≡ node k l r
  pub three : 3 ≤ k

pub holds_room : {w : List ℕ} {i : ℕ} → Stands w i → i + 3 ≤ length w
holds_room {w} {i} H = at_node_room H.rest w i H.at

-- a construct stands at i: what is known of its left part
pub record Construct (w : List ℕ) (i : ℕ) : Type 0 where
  pub left : Stands w (i + 3)
  pub left_room : i + 3 + 3 ≤ length w
  pub left_less : {t : ℕ} → size_at w i ≡ t → size_at w (i + 3) < t

-- and, where the left part's size m was read, of its right one; whatever stands there has these parts
pub record Sized (w : List ℕ) (i k m : ℕ) : Type 0 where
  pub right : Stands w (i + 3 + 3 * m)
  pub right_room : i + 3 + 3 * m + 3 ≤ length w
  pub right_less : {t : ℕ} → size_at w i ≡ t → size_at w (i + 3 + 3 * m) < t
  pub parts_of : (g : Rest) → At g w i → Parts g w i k m

module _ {w : List ℕ} {i : ℕ} (H : Stands w i) {k : ℕ} (e : k ≡ get_or w i 0) (n0 : k ≡ 0 → ⊥) (n1 : k ≡ 1 → ⊥) where
  parts : Inner H.rest w i k
  parts = inner_at w i k e H.rest H.at n0 n1

  holds_left : Stands w (i + 3)
  holds_left = record { rest = parts.l; at = parts.l_at }

  pub construct : Construct w i
  unfolding size_at
  construct = record {
    left = holds_left;
    left_room = holds_room holds_left;
    left_less = λ et. omega (arith, at_size parts.l w (i + 3) parts.l_at, at_size H.rest w i H.at, parts.sizes);
  }

  module _ {m : ℕ} (em : m ≡ get_or w (i + 3 + 2) 0) where
    left_is : m ≡ nodes parts.l
    left_is = em ∙ at_size parts.l w (i + 3) parts.l_at

    right_at : At parts.r w (i + 3 + 3 * m)
    right_at = subst (λ (j : ℕ). At parts.r w (i + 3 + 3 * j)) (sym left_is) parts.r_at

    holds_right : Stands w (i + 3 + 3 * m)
    holds_right = record { rest = parts.r; at = right_at }

    parts_of : (g : Rest) → At g w i → Parts g w i k m
    parts_of g A =
        let I = inner_at w i k e g A n0 n1 in
        let q : m ≡ nodes I.l = em ∙ at_size I.l w (i + 3) I.l_at in
        record {
          l = I.l;
          r = I.r;
          l_at = I.l_at;
          r_at = subst (λ (j : ℕ). At I.r w (i + 3 + 3 * j)) (sym q) I.r_at;
          left_is = q;
          is = I.is;
          three = I.three;
        }

    pub sized : Sized w i k m
    unfolding size_at
    sized = record {
      right = holds_right;
      right_room = holds_room holds_right;
      right_less = λ et. omega (arith, at_size parts.r w (i + 3 + 3 * m) right_at, at_size H.rest w i H.at, parts.sizes, nodes_pos parts.l);
      parts_of = parts_of;
    }
