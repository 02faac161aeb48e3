-- A table filled upwards by a loop. The places of `xs` below i hold h of the first i entries, the others are as they were (`Refilled`).
-- Where they all held h of z (`Filled`), every place, read with the default h z, holds h of the entry: `at` asks for no rule on which
-- records a record may name. One law for every table. Assumes nothing.
use mathlib.Core.Path.{◌≡◌, refl, sym, ◌∙◌, ap}
use mathlib.Core.List.{List, [], ◌∷◌, ◌++◌, map, map-append}
use Prim.Native.Nat.{ℕ, zero, suc, ◌+◌, ◌-◌, ◌≤◌, ◌<◌}
use native.Mathlib.Numerals.{add-one}
use native.Mathlib.Omega.{arith}
use native.Mathlib.Nat.{sub-zero, zero-sub, suc-sub-suc, eq-or-lt_of_le, le_of_suc-le-suc}
use mathlib.Core.Logic.{⊎_elim}
use lib.ListN.{length, get_or, drop, set, replicate, length-append, length-drop, length-replicate, length-map, get_or-append, get_or-map}
use lib.Seq.{set_at, append_snoc, get_or_at, drop-cons}
use Rattle.records.specs.Table.{up_to, entry_of}

module _ {B : Type 0} (d : B) where
  pub get_d_same : (k j : ℕ) → get_or (replicate k d) j d ≡ d
  get_d_same zero j = refl
  get_d_same (suc k) zero = refl
  get_d_same (suc k) (suc j) = get_d_same k j

  -- places that hold the default change nothing that is read with it
  pub default_at : (p : List B) (k j : ℕ) → get_or (p ++ replicate k d) j d ≡ get_or p j d
  default_at [] k j = get_d_same k j
  default_at (x ∷ p) k zero = refl
  default_at (x ∷ p) k (suc j) = default_at p k j

-- what stands below the end is the same under any default
pub get_d_any : {B : Type 0} (l : List B) (i : ℕ) (d e : B) → i < length l → get_or l i d ≡ get_or l i e
get_d_any [] i d e h = absurd (omega arith)
get_d_any (x ∷ l) zero d e h = refl
get_d_any (x ∷ l) (suc i) d e h = get_d_any l i d e (omega arith)

pub length_up : {A : Type 0} (f : ℕ → List A → A) (n : ℕ) → length (up_to f n) ≡ n
unfolding up_to
length_up f zero = refl
length_up f (suc n) = simp (length-append, length_up f n) (add-one n)

pub record Refilled {A B : Type 0} (f : ℕ → List A → A) (h : A → B) (old xs : List B) (i : ℕ) : Type 0 where
  pub same : xs ≡ map h (up_to f i) ++ drop i old

module _ {A B : Type 0} (f : ℕ → List A → A) (h : A → B) where
  pub refill_start : (old : List B) → Refilled f h old old 0
  unfolding up_to
  refill_start old = record { same = refl }

  module _ {old xs : List B} {i : ℕ} (b : Refilled f h old xs i) where
    pub refill_full : i ≤ length old → length xs ≡ length old
    refill_full l = rw b.same (simp (length-append, length-map, length_up, length-drop) (omega arith))

    pub refill_at : (z : A) (a : ℕ) → a < i → get_or xs a (h z) ≡ h (get_or (up_to f i) a z)
    refill_at z a l =
        ap (λ (l : List B). get_or l a (h z)) b.same
        ∙ get_or-append (map h (up_to f i)) (drop i old) (h z) a (simp (length-map, length_up) l)
        ∙ get_or-map h (up_to f i) a z

    pub refill_more : i < length old → {v : B} → v ≡ h (f i (up_to f i)) → Refilled f h old (set xs i v) (i + 1)
    unfolding up_to
    refill_more l {v} e =
        let p : List B = map h (up_to f i) in
        let rest : List B = drop (suc i) old in
        let len : length p ≡ i = length-map (up_to f i) h ∙ length_up f i in
        record {
          same =
              ap (λ (l : List B). set l i v) (b.same ∙ ap (λ (l : List B). p ++ l) (drop-cons old i v l))
              ∙ set_at p (get_or old i v) rest v i len
              ∙ sym (append_snoc p v rest)
              ∙ ap (λ (w : B). p ++ (w ∷ []) ++ rest) e
              ∙ ap (λ (l : List B). l ++ rest) (sym (map-append h (up_to f i) (f i (up_to f i) ∷ [])))
              ∙ ap (λ (m : ℕ). map h (up_to f m) ++ drop m old) (sym (add-one i));
        }

pub drop_same : {B : Type 0} (d : B) (n i : ℕ) → drop i (replicate n d) ≡ replicate (n - i) d
drop_same d n zero = ap (λ (k : ℕ). replicate k d) (sym (sub-zero n))
drop_same d zero (suc i) = ap (λ (k : ℕ). replicate k d) (sym (zero-sub (suc i)))
drop_same d (suc n) (suc i) = drop_same d n i ∙ ap (λ (k : ℕ). replicate k d) (sym (suc-sub-suc n i))

pub record Filled {A B : Type 0} (z : A) (f : ℕ → List A → A) (h : A → B) (N : ℕ) (xs : List B) (i : ℕ) : Type 0 where
  pub same : xs ≡ map h (up_to f i) ++ replicate (N - i) (h z)

module _ {A B : Type 0} (z : A) (f : ℕ → List A → A) (h : A → B) (N : ℕ) where
  pub start : Filled z f h N (replicate N (h z)) 0
  unfolding up_to
  start = record { same = ap (λ (k : ℕ). replicate k (h z)) (sym (sub-zero N)) }

  module _ {xs : List B} {i : ℕ} (b : Filled z f h N xs i) where
    over : Refilled f h (replicate N (h z)) xs i
    over = record { same = b.same ∙ ap (λ (l : List B). map h (up_to f i) ++ l) (sym (drop_same (h z) N i)) }

    pub full : i ≤ N → length xs ≡ N
    full l = refill_full f h over (rw length-replicate l) ∙ length-replicate N (h z)

    pub at : (a : ℕ) → get_or xs a (h z) ≡ h (get_or (up_to f i) a z)
    at a = ap (λ (l : List B). get_or l a (h z)) b.same ∙ default_at (h z) (map h (up_to f i)) (N - i) a ∙ get_or-map h (up_to f i) a z

    pub more : i < N → {v : B} → v ≡ h (f i (up_to f i)) → Filled z f h N (set xs i v) (i + 1)
    more l {v} e =
        record { same = (refill_more f h over (rw length-replicate l) e).same ∙ ap (λ (l : List B). map h (up_to f (i + 1)) ++ l) (drop_same (h z) N (i + 1)) }

-- an entry is the same in every longer table
snoc_at : {A : Type 0} (l : List A) (x z : A) (i : ℕ) → i < length l → get_or (l ++ (x ∷ [])) i z ≡ get_or l i z
snoc_at [] x z i h = absurd (omega arith)
snoc_at (y ∷ l) x z zero h = refl
snoc_at (y ∷ l) x z (suc i) h = snoc_at l x z i (omega arith)

module _ {A : Type 0} (z : A) (f : ℕ → List A → A) where
  pub up_at : (n i : ℕ) → i < n → get_or (up_to f n) i z ≡ entry_of z f i
  unfolding up_to entry_of
  up_at zero i h = absurd (omega arith)
  up_at (suc n) i h = ⊎_elim (λ (e : i ≡ n). ap (λ (m : ℕ). get_or (up_to f (suc m)) i z) (sym e))
      (λ (l : i < n). snoc_at (up_to f n) (f n (up_to f n)) z i (rw length_up l) ∙ up_at n i l)
      (eq-or-lt_of_le (le_of_suc-le-suc h))

  -- entry i is made of the table of lower ones
  pub entry_is : (i : ℕ) → entry_of z f i ≡ f i (up_to f i)
  unfolding up_to entry_of
  entry_is i = get_or_at (up_to f i) (f i (up_to f i)) [] z i (length_up f i)
