-- An index says as much after the header of an entry is written anew, and one entry more after it is added: entries stand apart, so a word
-- of one is in no other, and a new one stands behind all words in use. Assumes nothing.
use Prim.Native.Nat.{ℕ, ◌+◌, ◌-◌, ◌*◌, ◌^◌, ◌≤◌, ◌<◌}
use mathlib.Core.Path.{◌≡◌, refl, sym, ap, subst, ◌∙◌}
use mathlib.Core.Logic.{inl, inr}
use mathlib.Core.List.{List, [], ◌∷◌, ◌++◌}
use native.Mathlib.Omega.{arith}
use native.Mathlib.Decide.{dec_lt, ℕ_discrete}
use lib.ListN.{get_or, length, set, length-set, length-append, get_or-append}
use lib.Seq.{get_or-set_same, get_or-set_other, get_or-append_seam}
use Rattle.index.specs.Written.{Entered}
use Rattle.index.specs.Content.{Entry, entry_at, stop, heads_of, end_of, Stands, Linked, Says, Has, Noted, same, replaced, added, Notes}
use Rattle.index.proofs.Content.{linked_less, stands_kept}
use Rattle.index.proofs.Listed.{each_more, each_set}

-- a link outlasts a change of the list that keeps the places
linked_kept : (es es' : List Entry) (n x : ℕ) → ((k : ℕ) → k < n → (entry_at es' k).at ≡ (entry_at es k).at) → Linked es n x → Linked es' n x
linked_kept es es' n x f (inl e) = inl e
linked_kept es es' n x f (inr (k, l, e)) = inr (k, l, f k l ∙ e)

module _ (w : List ℕ) (es : List Entry) (S : Says w es) (j : ℕ) (b : j < length es) (v : ℕ) (small : v < 2 ^ 25) where
  anew : Entry
  anew = record { at = (entry_at es j).at; key = (entry_at es j).key; value = v }

  -- another value
  w₁ : List ℕ
  w₁ = set w ((entry_at es j).at + 1) (v + 2 ^ 25 * length (entry_at es j).key)

  -- no other word changes
  kept : (i : ℕ) → (i ≡ (entry_at es j).at + 1 → ⊥) → get_or w₁ i 0 ≡ get_or w i 0
  unfolding w₁
  kept i h = get_or-set_other w ((entry_at es j).at + 1) i (v + 2 ^ 25 * length (entry_at es j).key) 0 h

  -- the word is in no other entry
  elsewhere : (k : ℕ) → k < length es → (k ≡ j → ⊥) → (i : ℕ) → (entry_at es k).at ≤ i → i < stop (entry_at es k) → i ≡ (entry_at es j).at + 1 → ⊥
  elsewhere k h n i lo hi e = go (dec_lt k j)
    where
      go : Dec (k < j) → ⊥
      go (yes p) = omega (arith, S.apart k j p b)
      go (no p) = omega (arith, S.apart j k (omega arith) h)

  len₁ : length w₁ ≡ length w
  unfolding w₁
  len₁ = length-set w _ _

  end₁ : end_of w₁ ≡ end_of w
  end₁ = ap (λ (n : ℕ). 2 + heads_of n + get_or w₁ 0 0) len₁ ∙ ap (λ (n : ℕ). 2 + heads_of (length w) + n) (kept 0 (omega arith))

  stands_anew : Stands w₁ anew
  unfolding w₁ anew
  stands_anew =
      let T = S.stands j b in record {
        header_is = get_or-set_same w ((entry_at es j).at + 1) (v + 2 ^ 25 * length (entry_at es j).key) 0 (omega (arith, T.inside));
        small = small;
        key_is = λ k h. kept ((entry_at es j).at + 2 + k) (omega arith) ∙ T.key_is k h;
        above = rw (← len₁) at T.above;
        before = omega (arith, T.before, end₁);
        inside = omega (arith, T.inside, len₁);
      }

  -- an entry keeps its place and its key
  field_same : {A : Type 0} (g : Entry → A) → g anew ≡ g (entry_at es j) → (k : ℕ) → k < length es → g (entry_at (set es j anew) k) ≡ g (entry_at es k)
  field_same g e k h = each_set (λ i x. g x ≡ g (entry_at es i)) es anew j (λ i p q. refl) e k (rw (← length-set es j anew) at h)

  says_anew : Says w₁ (set es j anew)
  unfolding anew
  says_anew = record {
    stands = each_set (λ k x. Stands w₁ x) es anew j
        (λ k h n. stands_kept w w₁ _ len₁ (omega (arith, end₁)) (λ i lo hi. kept i (elsewhere k h n i (omega arith) hi)) (S.stands k h))
        stands_anew;
    apart = λ i k h p.
        let q : k < length es = omega (arith, length-set es j anew) in
        omega (arith, S.apart i k h q, field_same stop refl i (omega arith), field_same (λ e. e.at) refl k q);
    heads = λ a h.
        let h' : a < heads_of (length w) = rw len₁ at h in
        subst (Linked (set es j anew) (length (set es j anew))) (sym (kept (2 + a) (omega (arith, (S.stands j b).above))))
        (subst (λ (n : ℕ). Linked (set es j anew) n (get_or w (2 + a) 0)) (sym (length-set es j anew))
        (linked_kept es (set es j anew) (length es) (get_or w (2 + a) 0) (field_same (λ e. e.at) refl) (S.heads a h')));
    nexts = each_set (λ k x. Linked (set es j anew) k (get_or w₁ x.at 0)) es anew j
        (λ k h n. link k h (kept _ (elsewhere k h n _ (omega arith) (omega arith))))
        (link j b (kept _ (omega arith)));
  }
    where
      link : (k : ℕ) → k < length es → get_or w₁ (entry_at es k).at 0 ≡ get_or w (entry_at es k).at 0 → Linked (set es j anew) k (get_or w₁ (entry_at es k).at 0)
      link k h e = subst (Linked (set es j anew) k) (sym e) (linked_kept es (set es j anew) k (get_or w (entry_at es k).at 0) (λ i p. field_same (λ e. e.at) refl i (omega arith)) (S.nexts k h))

-- the value of a key that is there is written anew, where x is the header
pub notes_anew : (w key : List ℕ) (v x at : ℕ) → x ≡ v + 2 ^ 25 * length key → v < 2 ^ 25 → 1 < at
    → ((es : List Entry) → Says w es → (j : ℕ) × Has es key j × ((entry_at es j).at ≡ at)) → Notes key v w (set w (at + 1) x)
unfolding anew w₁
notes_anew w key v x at g h l found = record {
  len = length-set w _ _;
  round_is = get_or-set_other w (at + 1) 1 _ 0 (omega arith);
  says = λ es S. change es S (found es S);
}
  where
    change : (es : List Entry) → Says w es → (j : ℕ) × Has es key j × ((entry_at es j).at ≡ at) → (es' : List Entry) × Says (set w (at + 1) x) es' × Noted es key v es'
    change es S (j, H, e) = (
      set es j (record { at = (entry_at es j).at; key = key; value = v }),
      rw (← e, g, ← H.key_is) (says_anew w es S j H.there v h),
      replaced j H,
    )

module _ (w key : List ℕ) (v head : ℕ) (small : v < 2 ^ 25) (low : 1 < head) (high : head ≤ 1 + heads_of (length w)) (fit : end_of w + 2 + length key ≤ length w)
    (w₁ : List ℕ) (E : Entered (end_of w) (get_or w head 0) (v + 2 ^ 25 * length key) key w w₁) (es : List Entry) (S : Says w es) where
  more : Entry
  more = record { at = end_of w; key = key; value = v }

  w₂ : List ℕ
  w₂ = set (set w₁ head (end_of w)) 0 (get_or w 0 0 + 2 + length key)

  len₂ : length w₂ ≡ length w
  unfolding w₂
  len₂ = simp length-set E.len

  -- only the head and word 0 change after the entry is written
  word : (k : ℕ) → (k ≡ 0 → ⊥) → (k ≡ head → ⊥) → get_or w₂ k 0 ≡ get_or w₁ k 0
  unfolding w₂
  word k p q = get_or-set_other (set w₁ head (end_of w)) 0 k _ 0 p ∙ get_or-set_other w₁ head k (end_of w) 0 q

  -- a word in use is kept
  used : (k : ℕ) → 1 + heads_of (length w) < k → k < end_of w → get_or w₂ k 0 ≡ get_or w k 0
  used k p q = word k (omega arith) (omega arith) ∙ E.below k q

  end₂ : end_of w₂ ≡ end_of w + 2 + length key
  unfolding w₂
  end₂ =
      ap (λ (n : ℕ). 2 + heads_of n + get_or w₂ 0 0) len₂
      ∙ ap (λ (n : ℕ). 2 + heads_of (length w) + n) (get_or-set_same (set w₁ head (end_of w)) 0 _ 0 (simp length-set (omega (arith, E.len))))
      ∙ omega arith

  stands_more : Stands w₂ more
  unfolding more
  stands_more = record {
    header_is = word (end_of w + 1) (omega arith) (omega arith) ∙ E.header_is;
    small = small;
    key_is = λ k h. word (end_of w + 2 + k) (omega arith) (omega arith) ∙ E.key_is k h;
    above = rw len₂ (omega arith);
    before = omega (arith, end₂);
    inside = omega (arith, len₂);
  }

  place_same : (k : ℕ) → k < length es → (entry_at (es ++ (more ∷ [])) k).at ≡ (entry_at es k).at
  place_same k h = ap (λ e. e.at) (get_or-append es (more ∷ []) _ k h)

  place_more : (entry_at (es ++ (more ∷ [])) (length es)).at ≡ end_of w
  unfolding more
  place_more = ap (λ e. e.at) (get_or-append_seam es more [] _)

  linked_more : (n x : ℕ) → n ≤ length es → Linked es n x → Linked (es ++ (more ∷ [])) n x
  linked_more n x h k = linked_kept es (es ++ (more ∷ [])) n x (λ i p. place_same i (omega arith)) k

  -- what a head leads to, the new entry or what it led to before
  head_linked : (a : ℕ) → a < heads_of (length w) → Dec (2 + a ≡ head) → Linked (es ++ (more ∷ [])) (length es + 1) (get_or w₂ (2 + a) 0)
  unfolding w₂
  head_linked a h (yes e) = inr (
    length es,
    omega arith,
    place_more ∙ sym (
        get_or-set_other (set w₁ head (end_of w)) 0 (2 + a) _ 0 (omega arith)
        ∙ ap (λ (k : ℕ). get_or (set w₁ head (end_of w)) k 0) e
        ∙ get_or-set_same w₁ head (end_of w) 0 (omega (arith, E.len))),
  )
  head_linked a h (no e) =
      subst (Linked (es ++ (more ∷ [])) (length es + 1)) (sym (word (2 + a) (omega arith) e ∙ E.below (2 + a) (omega arith)))
      (linked_less (es ++ (more ∷ [])) (length es) (length es + 1) _ (omega arith) (linked_more (length es) _ (omega arith) (S.heads a h)))

  says_more : Says w₂ (es ++ (more ∷ []))
  unfolding more
  says_more = record {
    stands = each_more (λ k x. Stands w₂ x) es more
        (λ k h. let T = S.stands k h in stands_kept w w₂ _ len₂ (omega (arith, end₂)) (λ i lo hi. used i (omega (arith, T.above)) (omega (arith, T.before))) T)
        stands_more;
    apart = λ i k h p. each_more (λ n x. (m : ℕ) → m < n → stop (entry_at (es ++ (more ∷ [])) m) ≤ x.at) es more
        (λ n b m q. subst (λ e. stop e ≤ (entry_at es n).at) (sym (get_or-append es (more ∷ []) _ m (omega arith))) (S.apart m n q b))
        (λ m q. subst (λ e. stop e ≤ end_of w) (sym (get_or-append es (more ∷ []) _ m q)) (S.stands m q).before)
        k p i h;
    heads = λ a h.
        subst (λ (n : ℕ). Linked (es ++ (more ∷ [])) n (get_or w₂ (2 + a) 0)) (sym (length-append es (more ∷ [])))
        (head_linked a (rw len₂ at h) (ℕ_discrete (2 + a) head));
    nexts = each_more (λ k x. Linked (es ++ (more ∷ [])) k (get_or w₂ x.at 0)) es more
        (λ k h. let T = S.stands k h in
        subst (Linked (es ++ (more ∷ [])) k) (sym (used _ T.above (omega (arith, T.before)))) (linked_more k _ (omega arith) (S.nexts k h)))
        (subst (Linked (es ++ (more ∷ [])) (length es)) (sym (word (end_of w) (omega arith) (omega arith) ∙ E.next_is))
        (linked_more (length es) _ (omega arith) (subst (λ (k : ℕ). Linked es (length es) (get_or w k 0)) (omega arith) (S.heads (head - 2) (omega arith)))));
  }

-- nothing is changed
pub notes_nothing : (w key : List ℕ) (v : ℕ) → Notes key v w w
notes_nothing w key v = record { len = refl; round_is = refl; says = λ es S. (es, S, same) }

-- an entry is added at `at`, where x is its header and u the number of words then in use
abbrev Adds : (w key : List ℕ) (v head at u x : ℕ) → Type 0
Adds w key v head at u x = (w₁ : List ℕ) → Entered at (get_or w head 0) x key w w₁ → at + 2 + length key ≤ length w → Notes key v w (set (set w₁ head at) 0 u)

adds : (w key : List ℕ) (v head : ℕ) → v < 2 ^ 25 → 1 < head → head ≤ 1 + heads_of (length w)
    → Adds w key v head (end_of w) (get_or w 0 0 + 2 + length key) (v + 2 ^ 25 * length key)
unfolding more w₂
adds w key v head a b c w₁ E d = record {
  len = simp length-set E.len;
  round_is =
      get_or-set_other (set w₁ head (end_of w)) 0 1 _ 0 (omega arith)
      ∙ get_or-set_other w₁ head 1 (end_of w) 0 (omega arith)
      ∙ E.below 1 (omega arith);
  says = λ es S. (es ++ (record { at = end_of w; key = key; value = v } ∷ []), says_more w key v head a b c d w₁ E es S, added (end_of w));
}

pub notes_more : (w key : List ℕ) (v head at u x : ℕ) → v < 2 ^ 25 → 1 < head → head ≤ 1 + heads_of (length w)
    → at ≡ end_of w → u ≡ get_or w 0 0 + 2 + length key → x ≡ v + 2 ^ 25 * length key → Adds w key v head at u x
notes_more w key v head at u x a b c e g i = rw (e, g, i) (adds w key v head a b c)
