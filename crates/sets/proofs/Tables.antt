-- Set i of a table has the words 8 i, .. of it; a set put there is it, and the other sets are as they were. Assumes nothing.
use Prim.Native.Nat.{ℕ, ◌+◌, ◌-◌, ◌*◌, ◌/◌, ◌%◌, ◌≤◌, ◌<◌, min}
use mathlib.Core.Path.{◌≡◌, sym, ap, ◌∙◌}
use mathlib.Core.Logic.{◌⊎◌, inl, inr}
use mathlib.Core.List.{List, ◌++◌}
use native.Mathlib.Omega.{arith}
use native.Mathlib.Decide.{dec_lt}
use lib.Arith.{lt_of_le-ne}
use lib.ListN.{length, get_or, take, drop, length-take, length-drop, length-append}
use borrow.Author.Rules.{rules}
use borrow.Rule.Slice.PartMut.{put_mid}
use Rattle.std.proofs.lemmas.List.{places, get_or-append_right}
use lib.Seq.{get_or-take, get_or-drop, ext_get_or}
use Rattle.records.specs.Mask.{has_bit}
use Rattle.sets.specs.Sets.{member, set_at, PutSet}

pub set_at_length : (table : List ℕ) (i : ℕ) → 8 * i + 8 ≤ length table → length (set_at table i) ≡ 8
unfolding set_at
set_at_length table i h = simp (length-take, length-drop) (omega arith)

pub set_at_word : (table : List ℕ) (i k : ℕ) → k < 8 → get_or (set_at table i) k 0 ≡ get_or table (8 * i + k) 0
unfolding set_at
set_at_word table i k l = get_or-take 8 (drop (8 * i) table) k 0 l ∙ get_or-drop (8 * i) table k 0

pub member_at : (table : List ℕ) (i e : ℕ) → e < 256 → member (set_at table i) e ≡ has_bit (get_or table (8 * i + e / 32) 0) (e % 32)
unfolding member
member_at table i e l = ap (λ (m : ℕ). has_bit m (e % 32)) (set_at_word table i (e / 32) (omega arith))

-- a list of the words of set i is it
pub set_at_is : (table : List ℕ) (i : ℕ) (x : List ℕ) → 8 * i + 8 ≤ length table → length x ≡ 8
    → ((k : ℕ) → k < 8 → get_or table (8 * i + k) 0 ≡ get_or x k 0) → set_at table i ≡ x
set_at_is table i x h n same =
    let long = set_at_length table i h in
    ext_get_or 0 (set_at table i) x (long ∙ sym n) (λ k l. let few : k < 8 = omega arith in set_at_word table i k few ∙ same k few)

-- tables that agree on its words have the same set
pub set_at_same : (table table' : List ℕ) (i : ℕ) → length table' ≡ length table
    → ((k : ℕ) → k < 8 → get_or table' (8 * i + k) 0 ≡ get_or table (8 * i + k) 0) → set_at table' i ≡ set_at table i
unfolding set_at
set_at_same table table' i e same =
    ext_get_or 0 (set_at table' i) (set_at table i) (size table' ∙ ap (λ (n : ℕ). min 8 (n - 8 * i)) e ∙ sym (size table))
    (λ k l. let few : k < 8 = omega (arith, size table') in set_at_word table' i k few ∙ same k few ∙ sym (set_at_word table i k few))
  where
    size : (t : List ℕ) → length (set_at t i) ≡ min 8 (length t - 8 * i)
    size t = simp (length-take, length-drop)

-- x in the place of set i
module _ (i : ℕ) (x table : List ℕ) (few : length x ≡ 8) (long : 8 * i + 8 ≤ length table) where
  put_length : length (put_mid (8 * i) 8 table x) ≡ length table
  put_length = simp (length-append, length-take, length-drop) (omega arith)

  put_here : (k : ℕ) → k < 8 → get_or (put_mid (8 * i) 8 table x) (8 * i + k) 0 ≡ get_or x k 0
  put_here k l = search (rules, places)

  put_apart : (k : ℕ) → (k < 8 * i) ⊎ (8 * i + 8 ≤ k) → get_or (put_mid (8 * i) 8 table x) k 0 ≡ get_or table k 0
  put_apart k (inl b) = search (rules, places)
  put_apart k (inr a) =
      let start : length (take (8 * i) table) ≡ 8 * i = simp length-take (omega arith) in
      get_or-append_right (take (8 * i) table) (x ++ drop 8 (drop (8 * i) table)) (8 * i) k 0 start (omega arith)
      ∙ get_or-append_right x (drop 8 (drop (8 * i) table)) 8 (k - 8 * i) 0 few (omega arith)
      ∙ get_or-drop 8 (drop (8 * i) table) (k - 8 * i - 8) 0
      ∙ get_or-drop (8 * i) table (8 + (k - 8 * i - 8)) 0
      ∙ ap (λ (m : ℕ). get_or table m 0) (omega arith)

  pub put_is : (n : ℕ) → n ≡ 8 → PutSet i x table (put_mid (8 * i) n table x)
  put_is n e = rw e (record {
    len = put_length;
    here = set_at_is (put_mid (8 * i) 8 table x) i x (omega (arith, put_length)) few put_here;
    others = λ j q. set_at_same table (put_mid (8 * i) 8 table x) j put_length (λ a l. put_apart (8 * j + a) (aside j a q l));
    words = put_apart;
  })
    where
      aside : (j a : ℕ) → ¬ (j ≡ i) → a < 8 → (8 * j + a < 8 * i) ⊎ (8 * i + 8 ≤ 8 * j + a)
      aside j a q l = elim (dec_lt j i) [ yes b ↦ inl (omega arith) | no b ↦ inr (let c : i < j = lt_of_le-ne (omega arith) (λ e. q (sym e)) in omega arith) ]
