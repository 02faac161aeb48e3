-- A word has a bit exactly where it is not 0; the or of a set's words has those that one of them has. So a set has an environment exactly
-- where that or is not 0. Assumes nothing.
use Prim.Native.Nat.{ℕ, suc, ◌+◌, ◌*◌, ◌/◌, ◌%◌, ◌^◌, ◌<◌}
use mathlib.Core.Path.{◌≡◌, refl, sym, ap, ap₂, ◌∙◌, subst}
use mathlib.Core.Bool.{Bool, true, false, not, ◌||◌}
use mathlib.Core.List.{List, [], ◌∷◌, ◌++◌}
use native.Mathlib.Omega.{arith}
use native.Mathlib.Decide.{ℕ_discrete}
use borrow.Author.Tests.{eq-eqb, ne_eqb}
use borrow.Author.Rules.{rules}
use lib.Bits.{bit_or}
use lib.Dec.{T, eqb}
use lib.ListN.{get_or, length, length-append}
use Rattle.std.proofs.lemmas.List.{places, get_or_append_left}
use Rattle.records.specs.Mask.{has_bit}
use Rattle.records.specs.Some.{some_from}
use Rattle.records.proofs.Masks.{mask_bits, mask_same, mask_none}
use Rattle.records.proofs.Some.{some_iff, some_more, some_same}
use Rattle.records.proofs.Truth.{true_exactly, is_false}
use Rattle.sets.specs.Sets.{member, Gathered}
use Rattle.sets.proofs.Bits.{bit_none, bit_or_lem}

-- one of k numbers has it, or none
pub found : (has : ℕ → Bool) (k : ℕ) → some_from has 0 k ≡ true → (i : ℕ) × (i < k) × (has i ≡ true)
found has k e =
    let (i, (a, h), t) = (some_iff has (λ i. true_exactly (has i)) k 0).0 (subst T (sym e) tt) in
    (i, omega arith, t)

pub unfound : (has : ℕ → Bool) (k : ℕ) → some_from has 0 k ≡ false → (i : ℕ) → i < k → has i ≡ false
unfound has k e i l =
    is_false (has i) (λ t. subst T e ((some_iff has (λ i. true_exactly (has i)) k 0).1 (i, (omega arith, omega arith), t)))

-- whether a number of n bits has one
pub some_bit : (n w : ℕ) → w < 2 ^ n → some_from (has_bit w) 0 n ≡ not (eqb w 0)
some_bit n w l = go (ℕ_discrete w 0) (some_from (has_bit w) 0 n) refl
  where
    go : Dec (w ≡ 0) → (b : Bool) → some_from (has_bit w) 0 n ≡ b → b ≡ not (eqb w 0)
    go (yes z) true e = let (i, h, t) = found (has_bit w) n e in sym t ∙ ap (λ (m : ℕ). has_bit m i) z ∙ bit_none i ∙ ap not (sym (eq-eqb w 0 z))
    go (yes z) false e = ap not (sym (eq-eqb w 0 z))
    go (no z) true e = ap not (sym (ne_eqb w 0 z))
    go (no z) false e =
        absurd (z (sym (mask_bits n w l) ∙ mask_same (has_bit w) (λ (i : ℕ). false) n (unfound (has_bit w) n e) ∙ mask_none n))

pub gathered_none : (x : List ℕ) → Gathered x 0 0
unfolding some_from
gathered_none x = record { each = λ i. bit_none i }

-- one word more
pub gathered_push : (x : List ℕ) (any word : ℕ) → Gathered x (length x) any → Gathered (x ++ word ∷ []) (length (x ++ word ∷ [])) (bit_or any word)
gathered_push x any word G = record { each = more }
  where
    more : (i : ℕ) → has_bit (bit_or any word) i ≡ some_from (λ (j : ℕ). has_bit (get_or (x ++ word ∷ []) j 0) i) 0 (length (x ++ word ∷ []))
    more i =
        let has : ℕ → Bool = λ (j : ℕ). has_bit (get_or (x ++ word ∷ []) j 0) i in
        let before = some_same (λ (j : ℕ). has_bit (get_or x j 0) i) has (length x) 0
        (λ j (a, b). ap (λ (m : ℕ). has_bit m i) (sym (get_or_append_left x (word ∷ []) 0 j (omega arith)))) in
        let last : get_or (x ++ word ∷ []) (0 + length x) 0 ≡ word = search (rules, places) in
        let long : suc (length x) ≡ length (x ++ word ∷ []) = simp length-append (omega arith) in
        bit_or_lem any word i ∙ ap₂ ◌||◌ (G.each i ∙ before) (ap (λ (m : ℕ). has_bit m i) (sym last)) ∙ sym (some_more has (length x) 0) ∙ ap (some_from has 0) long

module _ (x : List ℕ) where
  module _ {any : ℕ} (G : Gathered x 8 any) where
    pub no_member : any ≡ 0 → (e : ℕ) → e < 256 → member x e ≡ false
    unfolding member
    no_member z e l = unfound (λ (j : ℕ). has_bit (get_or x j 0) (e % 32)) 8 (sym (G.each (e % 32)) ∙ ap (λ (m : ℕ). has_bit m (e % 32)) z ∙ bit_none (e % 32)) (e / 32) (omega arith)

    pub some_member : any < 2 ^ 32 → ¬ (any ≡ 0) → (e : ℕ) × (e < 256) × (member x e ≡ true)
    unfolding member
    some_member l z =
        let (i, b, t) = found (has_bit any) 32 (some_bit 32 any l ∙ ap not (ne_eqb any 0 z)) in
        let (j, a, u) = found (λ (j : ℕ). has_bit (get_or x j 0) i) 8 (sym (G.each i) ∙ t) in
        (32 * j + i, omega arith, ap₂ (λ (a c : ℕ). has_bit (get_or x a 0) c) (omega arith) (omega arith) ∙ u)
