-- What a set has: by its words, laid one after the other or all the same; and by another account of the same environments. Assumes nothing.
use Prim.Native.Nat.{ℕ, zero, suc, ◌+◌, ◌*◌, ◌/◌, ◌%◌, ◌≤◌, ◌<◌}
use mathlib.Core.Path.{◌≡◌, refl, ap, ap₂, ◌∙◌}
use mathlib.Core.Bool.{Bool}
use mathlib.Core.List.{List}
use native.Mathlib.Omega.{arith}
use native.Mathlib.Decide.{ℕ_discrete}
use denote.Param.Members.{Mut, Called}
use Rattle.std.specs.Array.{IsFromFnResultFrom, IsFromFnResult}
use lib.ListN.{get_or, replicate, get_or-replicate}
use Rattle.records.specs.Mask.{has_bit}
use Rattle.records.specs.Placeholders.{put}
use Rattle.sets.specs.Sets.{member, Has}

pub has_by : {U W : ℕ → Bool} {x : List ℕ} → Has U x → ((e : ℕ) → e < 256 → U e ≡ W e) → Has W x
has_by h same = record { len = h.len; each = λ e l. h.each e l ∙ same e l }

-- words that a closure gave, which stays as it was
module _ {F : Type 0} (calls : Mut F (ℕ × Unit {0}) ℕ) (f : F) (g : ℕ → ℕ) (gave : (k r : ℕ) (q : F) → Called calls f (k, tt) r q → (r ≡ g k) × (q ≡ f)) where
  words_from : (x : List ℕ) (i n k : ℕ) → IsFromFnResultFrom calls f x i n → i ≤ k → k < i + n → get_or x k 0 ≡ g k
  words_from x i zero k all a l = absurd (omega arith)
  words_from x i (suc n) k (q, y, is, call, rest) a l =
      elim (ℕ_discrete k i) [
        | yes e ↦ rw e (is.1 0 ∙ (gave i y q call).0)
        | no e ↦ words_from x (i + 1) n k (rw (gave i y q call).1 at rest) (omega arith) (omega arith)
      ]

  pub has_words : {U : ℕ → Bool} {x : List ℕ} → IsFromFnResult calls f x 8 → ((e : ℕ) → e < 256 → has_bit (g (e / 32)) (e % 32) ≡ U e) → Has U x
  unfolding member
  has_words {U} {x} made same = record {
    len = made.long;
    each = λ e l. ap (λ (m : ℕ). has_bit m (e % 32)) (words_from x 0 8 (e / 32) made.each (omega arith) (omega arith)) ∙ same e l;
  }

-- one word eight times
pub has_equal : {U : ℕ → Bool} (word : ℕ) → ((e : ℕ) → e < 256 → has_bit word (e % 32) ≡ U e) → Has U (replicate 8 word)
unfolding member
has_equal word same = record {
  len = refl;
  each = λ e l. ap (λ (m : ℕ). has_bit m (e % 32)) (get_or-replicate 8 (e / 32) word 0 (omega arith)) ∙ same e l;
}

-- where the environment with v in a placeholder is found
module _ (x : List ℕ) (e v : ℕ) (few : v < 16) where
  pub put_column : has_bit (get_or x (e / 32) 0) (v + 16 * (e % 32 / 16)) ≡ member x (put e 0 v)
  unfolding member
  put_column =
      let word : e / 32 ≡ put e 0 v / 32 = omega arith in
      let bit : v + 16 * (e % 32 / 16) ≡ put e 0 v % 32 = omega arith in
      ap₂ (λ (k i : ℕ). has_bit (get_or x k 0) i) word bit

  pub put_row : has_bit (get_or x (v / 2) 0) (16 * (v % 2) + e % 32 % 16) ≡ member x (put e 1 v)
  unfolding member
  put_row =
      let word : v / 2 ≡ put e 1 v / 32 = omega arith in
      let bit : 16 * (v % 2) + e % 32 % 16 ≡ put e 1 v % 32 = omega arith in
      ap₂ (λ (k i : ℕ). has_bit (get_or x k 0) i) word bit
