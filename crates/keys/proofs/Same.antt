-- One key is that of one configuration and one label. Remaining programs whose nodes have the same tags and numbers, in preorder, are the
-- same: a tag says how many parts follow it. Assumes nothing.
use Prim.Native.Nat.{ℕ, ◌+◌, ◌-◌, ◌*◌, ◌≤◌, ◌<◌}
use mathlib.Core.Path.{◌≡◌, refl, sym, ap, ap₂, subst, ◌∙◌}
use mathlib.Core.List.{List}
use native.Mathlib.Omega.{arith}
use Rattle.golog.specs.Prog.{Prog}
use Rattle.golog.specs.declared.State.{State}
use Rattle.golog.specs.Transitions.{Configuration}
use Rattle.remaining.specs.Rest.{Rest, gone, leaf, node, nodes, unfolded}
use Rattle.demands.specs.Compact.{extended_records}
use Rattle.words.specs.Words.{At}
use Rattle.keys.specs.Keyed.{Keyed}
use Rattle.keys.proofs.Unpacked.{Alike, SameNodes, sizes_same, labels_same, state_same, nodes_same}

module _ (w w' : List ℕ) where
  -- the nodes from the d-th on, and the first
  later : (n d m i j p q : ℕ) → SameNodes n i j w w' → d + m ≤ n → p ≡ i + 3 * d → q ≡ j + 3 * d → SameNodes m p q w w'
  later n d m i j p q S h e g k l =
      let a : i + 3 * (d + k) ≡ p + 3 * k = omega arith in
      let b : j + 3 * (d + k) ≡ q + 3 * k = omega arith in
      rw (a, b) at (S (d + k) (omega arith))

  first : (n i j : ℕ) → SameNodes n i j w w' → 0 < n → Alike i j w w'
  first n i j S h =
      let a : i + 3 * 0 ≡ i = omega arith in
      let b : j + 3 * 0 ≡ j = omega arith in
      rw (a, b) at (S 0 h)

  rest_same : (g g' : Rest) (n i j : ℕ) → At g w i → At g' w' j → nodes g ≤ n → nodes g' ≤ n → SameNodes n i j w w' → g' ≡ g
  unfolding At nodes
  rest_same gone gone n i j A B h l S = refl
  rest_same gone (leaf q) n i j A B h l S = absurd (omega (arith, A.tag_is, B.tag_is, (first n i j S h).tags))
  rest_same gone (node s k r) n i j A B h l S = absurd (omega (arith, A.tag_is, B.0.tag_is, B.1, (first n i j S h).tags))
  rest_same (leaf p) gone n i j A B h l S = absurd (omega (arith, A.tag_is, B.tag_is, (first n i j S h).tags))
  rest_same (leaf p) (leaf q) n i j A B h l S = ap leaf (sym B.record_is ∙ (first n i j S h).numbers ∙ A.record_is)
  rest_same (leaf p) (node s k r) n i j A B h l S = absurd (omega (arith, A.tag_is, B.0.tag_is, B.1, (first n i j S h).tags))
  rest_same (node t a b) gone n i j A B h l S = absurd (omega (arith, A.0.tag_is, A.1, B.tag_is, (first n i j S (omega arith)).tags))
  rest_same (node t a b) (leaf q) n i j A B h l S = absurd (omega (arith, A.0.tag_is, A.1, B.tag_is, (first n i j S (omega arith)).tags))
  rest_same (node t a b) (node s k r) n i j A B h l S =
      let e : k ≡ a = rest_same a k (n - 1) (i + 3) (j + 3) A.2 B.2 (omega arith) (omega arith)
      (later n 1 (n - 1) i j (i + 3) (j + 3) S (omega arith) (omega arith) (omega arith)) in
      let m : nodes k ≡ nodes a = ap nodes e in
      let f : r ≡ b = rest_same b r (n - 1 - nodes a) (i + 3 + 3 * nodes a) (j + 3 + 3 * nodes a) A.3
      (subst (λ (x : ℕ). At r w' (j + 3 + 3 * x)) m B.3) (omega arith) (omega arith)
      (later n (1 + nodes a) (n - 1 - nodes a) i j _ _ S (omega arith) (omega arith) (omega arith)) in
      let u : s ≡ t = sym B.0.tag_is ∙ (first n i j S (omega arith)).tags ∙ A.0.tag_is in
      cc

pub keyed_same : {s key : List ℕ} {c c' : Configuration} {label label' : ℕ} → Keyed s c label key → Keyed s c' label' key → (c ≡ c') × (label ≡ label')
keyed_same {s} {key} {c} {c'} K L =
    let P = K.packed in
    let Q = L.packed in
    let e = rest_same L.words K.words L.rest K.rest (nodes L.rest) L.place K.place L.words_are K.words_are
    (omega arith) (omega (arith, sizes_same Q P)) (nodes_same Q P) in
    let program : c.0 ≡ c'.0 = sym K.stands_for ∙ ap (unfolded (extended_records s)) e ∙ L.stands_for in
    (ap₂ (λ (p : Prog) (st : State). (p, st)) program (state_same Q P), labels_same Q P)
