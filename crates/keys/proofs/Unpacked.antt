-- One key means one state, one label, and nodes with the same tags and numbers, all in pairs or all wide: each word of the key determines
-- what is joined in it, and no bits were left out. Assumes nothing.
use Prim.Native.Nat.{ℕ, ◌+◌, ◌-◌, ◌*◌, ◌/◌, ◌%◌, ◌<◌}
use mathlib.Core.Path.{◌≡◌, sym, ap, ap₂, ◌∙◌}
use mathlib.Core.Bool.{Bool, true, false}
use mathlib.Core.List.{List}
use native.Mathlib.Omega.{arith}
use native.Mathlib.Decide.{dec_lt}
use native.Mathlib.Nat.{mod-eq_of_lt}
use lib.ListN.{get_or}
use lib.Seq.{ext_get_or}
use Rattle.golog.specs.declared.State.{State}
use Rattle.keys.specs.Packed.{node_at, limit_of, words_of, word_at, Coded, Packed}
use Rattle.keys.proofs.Joined.{head_same, eight_same, node_parts, first_same, second_same}

-- the node at j has the tag and the number of that at i
pub record Alike (i j : ℕ) (w w' : List ℕ) : Type 0 where
  pub tags : get_or w' j 0 ≡ get_or w i 0
  pub numbers : get_or w' (j + 1) 0 ≡ get_or w (i + 1) 0

-- so n nodes from there on
abbrev pub SameNodes : (n i j : ℕ) (w w' : List ℕ) → Type 0
SameNodes n i j w w' = (k : ℕ) → k < n → Alike (i + 3 * k) (j + 3 * k) w w'

alike : (limit : ℕ) (w w' : List ℕ) (i j : ℕ) → Coded limit w i → Coded limit w' j → node_at limit w' j ≡ node_at limit w i → Alike i j w w'
alike limit w w' i j C D e =
    let p = node_parts w w' i j limit e in
    record { tags = omega (arith, C.tag_small, D.tag_small); numbers = sym (mod-eq_of_lt D.number_small) ∙ p.1 ∙ mod-eq_of_lt C.number_small }

-- the words of n nodes are the same, and so their lower bits: node x has a word of its own, or is the first or the second of a pair
abbrev SameWords : (wide : Bool) (n i j : ℕ) (w w' : List ℕ) → Type 0
SameWords wide n i j w w' = (k : ℕ) → k < words_of wide n → word_at wide w' j n k ≡ word_at wide w i n k

node_same : (wide : Bool) (n i j : ℕ) (w w' : List ℕ) → SameWords wide n i j w w'
    → (x : ℕ) → x < n → node_at (limit_of wide) w' (j + 3 * x) ≡ node_at (limit_of wide) w (i + 3 * x)
node_same true n i j w w' S x h = S x h
node_same false n i j w w' S x h = go (dec_lt (2 * (x / 2)) x)
  where
    a : ℕ
    a = i + 6 * (x / 2)

    b : ℕ
    b = j + 6 * (x / 2)

    go : Dec (2 * (x / 2) < x) → node_at 4096 w' (j + 3 * x) ≡ node_at 4096 w (i + 3 * x)
    go (yes l) =
        ap (node_at 4096 w') (omega arith)
        ∙ second_same w w' a b (n - 2 * (x / 2)) (omega arith) (S (x / 2) (omega arith))
        ∙ ap (node_at 4096 w) (omega arith)
    go (no l) =
        ap (node_at 4096 w') (omega arith)
        ∙ first_same w w' a b (n - 2 * (x / 2)) (S (x / 2) (omega arith))
        ∙ ap (node_at 4096 w) (omega arith)

module _ {g n n' i j label label' : ℕ} {st st' : State} {w w' key : List ℕ} (P : Packed g st w i n label key) (Q : Packed g st' w' j n' label' key) where
  heads : (st'.running ≡ st.running) × (n' ≡ n) × (label' ≡ label) × (Q.wide ≡ P.wide)
  heads =
      head_same st.running st'.running P.wide Q.wide n n' label label' P.few Q.few P.label_small Q.label_small
      (sym Q.head_is ∙ P.head_is)

  pub sizes_same : n' ≡ n
  sizes_same = heads.1

  pub labels_same : label' ≡ label
  labels_same = heads.2

  value_same : (x : ℕ) → x < 32 → get_or st'.values x 0 ≡ get_or st.values x 0
  value_same x h = go (dec_lt x (8 * g))
    where
      go : Dec (x < 8 * g) → get_or st'.values x 0 ≡ get_or st.values x 0
      go (yes l) =
          let e : 8 * (x / 8) + x % 8 ≡ x = omega arith in
          let low = eight_same st.values st'.values (8 * (x / 8))
          (sym (Q.values_are (x / 8) (omega arith)) ∙ P.values_are (x / 8) (omega arith)) (x % 8) (omega arith) in
          let same = rw e at low in
          omega (arith, same, P.small x h, Q.small x h)
      go (no l) = omega (arith, P.none x (omega arith) h, Q.none x (omega arith) h)

  pub state_same : st' ≡ st
  state_same =
      ap₂ (λ (v : List ℕ) (b : Bool). record { values = v; running = b })
      (ext_get_or 0 st'.values st.values (Q.many ∙ sym P.many) (λ k l. value_same k (omega (arith, Q.many))))
      heads.0

  words_same : SameWords P.wide n i j w w'
  words_same k h = let q = rw (heads.3, sizes_same) at Q.nodes_are in sym (q k h) ∙ P.nodes_are k h

  pub nodes_same : SameNodes n i j w w'
  nodes_same x h =
      alike (limit_of P.wide) w w' (i + 3 * x) (j + 3 * x) (P.coded x h)
      (rw heads.3 at (Q.coded x (omega (arith, sizes_same))))
      (node_same P.wide n i j w w' words_same x h)
