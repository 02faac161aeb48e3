-- What an index says decides what its words are: a head or a link leads to an entry, whose words stand inside and behind the heads, and
-- whose own link leads lower. So the words of an entry that are a key's make it that key's entry. Assumes nothing.
use Prim.Native.Nat.{ℕ, ◌+◌, ◌-◌, ◌*◌, ◌/◌, ◌^◌, ◌≤◌, ◌<◌}
use mathlib.Core.Path.{◌≡◌, sym, ap, subst, ◌∙◌}
use mathlib.Core.Logic.{inl, inr}
use mathlib.Core.List.{List}
use native.Mathlib.Omega.{arith}
use lib.ListN.{get_or, length, drop}
use lib.Seq.{ext_get_or, get_or-take, get_or-drop}
use Rattle.index.specs.Content.{Entry, entry_at, stop, heads_of, end_of, Stands, Linked, Says, Matches, Located}
use Rattle.std.specs.Prelude.{Some}

-- an index that has heads has room for them
pub heads_inside : (n : ℕ) → 0 < heads_of n → 16 * heads_of n ≤ n
unfolding heads_of
heads_inside n h = omega arith

-- a link to one of the first n entries is one to one of the first m
pub linked_less : (es : List Entry) (n m x : ℕ) → n ≤ m → Linked es n x → Linked es m x
linked_less es n m x h (inl e) = inl e
linked_less es n m x h (inr (j, l, e)) = inr (j, omega arith, e)

-- an entry stands where its words are kept and no word in use is given up
pub stands_kept : (w w' : List ℕ) (e : Entry) → length w' ≡ length w → end_of w ≤ end_of w' → ((k : ℕ) → e.at < k → k < stop e → get_or w' k 0 ≡ get_or w k 0)
    → Stands w e → Stands w' e
stands_kept w w' e n l f S = record {
  header_is = f (e.at + 1) (omega arith) (omega arith) ∙ S.header_is;
  small = S.small;
  key_is = λ k h. f (e.at + 2 + k) (omega arith) (omega arith) ∙ S.key_is k h;
  above = rw (← n) at S.above;
  before = omega (arith, S.before);
  inside = omega (arith, S.inside);
}

module _ (w : List ℕ) (es : List Entry) (S : Says w es) where
  -- a place that is no 0 is that of an entry
  linked_entry : (x : ℕ) → Linked es (length es) x → (x ≡ 0 → ⊥) → (j : ℕ) × (j < length es) × ((entry_at es j).at ≡ x)
  linked_entry x (inl e) h = absurd (h e)
  linked_entry x (inr l) h = l

  -- the link of an entry leads to an entry, at a lower place
  pub linked_next : (x : ℕ) → Linked es (length es) x → (x ≡ 0 → ⊥) → Linked es (length es) (get_or w x 0) × (get_or w x 0 < x)
  linked_next x l h =
      let (j, b, e) = linked_entry x l h in
      subst (λ (y : ℕ). Linked es (length es) (get_or w y 0) × (get_or w y 0 < y)) e
      (linked_less es j (length es) _ (omega arith) (S.nexts j b), lower j b (S.nexts j b))
    where
      lower : (j : ℕ) → j < length es → {y : ℕ} → Linked es j y → y < (entry_at es j).at
      lower j b (inl e) = omega (arith, (S.stands j b).above)
      lower j b (inr (k, l, e)) = omega (arith, S.apart k j l b)

  -- the words of an entry stand inside
  pub linked_inside : (x : ℕ) → Linked es (length es) x → (x ≡ 0 → ⊥) → x + 2 + get_or w (x + 1) 0 / 2 ^ 25 ≤ length w
  linked_inside x l h =
      let (j, b, e) = linked_entry x l h in
      let T = S.stands j b in
      rw (← e) (omega (arith, T.inside, T.header_is, T.small))

  -- an entry whose words are the key's has the key
  pub located : (key : List ℕ) (x : ℕ) → Linked es (length es) x → (x ≡ 0 → ⊥) → Matches w x key → Located es key (Some x)
  located key x l h M =
      let (j, b, e) = linked_entry x l h in
      (j, record { there = b; key_is = same_key j b e }, e)
    where
      same_key : (j : ℕ) → j < length es → (entry_at es j).at ≡ x → (entry_at es j).key ≡ key
      same_key j b e =
          let T = S.stands j b in
          let q : get_or w ((entry_at es j).at + 1) 0 / 2 ^ 25 ≡ length key = ap (λ (y : ℕ). get_or w (y + 1) 0 / 2 ^ 25) e ∙ M.length_is in
          let m : length (entry_at es j).key ≡ length key = omega (arith, q, T.header_is, T.small) in
          ext_get_or 0 _ key m
          (λ i h. sym (T.key_is i h)
          ∙ ap (λ (y : ℕ). get_or w (y + 2 + i) 0) e
          ∙ sym (get_or-drop (x + 2) w i 0)
          ∙ sym (get_or-take (length key) (drop (x + 2) w) i 0 (omega arith))
          ∙ ap (λ (v : List ℕ). get_or v i 0) M.words_are)

  -- what the head of a bucket leads to
  pub head_linked : (x : ℕ) → 1 < x → x ≤ 1 + heads_of (length w) → Linked es (length es) (get_or w x 0)
  head_linked x h l = let e : 2 + (x - 2) ≡ x = omega arith in rw e at (S.heads (x - 2) (omega arith))

  -- the first two words of the entry that has the key stand inside, and are none of the first two
  pub located_inside : (key : List ℕ) (x : ℕ) → Located es key (Some x) → (1 < x) × (x + 2 ≤ length w)
  located_inside key x (j, H, e) =
      let T = S.stands j H.there in
      (omega (arith, T.above, e), omega (arith, T.inside, e))
