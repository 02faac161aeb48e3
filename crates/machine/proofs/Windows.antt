-- Windows of a list: writing in one leaves those beside it, and a window that is written anew is what was written. Assumes nothing.
use mathlib.Core.Path.{◌≡◌, sym, ◌∙◌, ap}
use mathlib.Core.List.{List, ◌++◌}
use Prim.Native.Nat.{ℕ, ◌+◌, ◌-◌, ◌≤◌}
use native.Mathlib.Omega.{arith}
use borrow.Rule.Slice.PartMut.{put_mid, post_of, take_put, drop_put}
use lib.ListN.{length, take, drop, length-drop}
use lib.Seq.{length-take-le, take-take, take-add, take_at, drop_at, drop-drop}
use Rattle.machine.specs.Tables.{window, Only}

module _ {A : Type 0} where
  pub window_long : (o n : ℕ) (l : List A) → o + n ≤ length l → length (window o n l) ≡ n
  window_long o n l h = length-take-le n (drop o l) (omega (arith, length-drop o l))

  -- a window by its end
  pub window_to : (o e n : ℕ) (l : List A) → e ≡ o + n → take (e - o) (drop o l) ≡ window o n l
  window_to o e n l h = let k : e - o ≡ n = omega arith in ap (λ (j : ℕ). take j (drop o l)) k

  -- what is in front of its end has the window at its end
  front : (o n : ℕ) (l : List A) → o ≤ length l → window o n l ≡ drop o (take (o + n) l)
  front o n l h = sym (ap (drop o) (take-add o n l) ∙ drop_at (take o l) (window o n l) o (length-take-le o l h))

  pub only_then : {o n : ℕ} {l m k : List A} → Only o n l m → Only o n m k → Only o n l k
  only_then P Q = record { before = Q.before ∙ P.before; behind = Q.behind ∙ P.behind }

  -- lists that are the same from k on are the same from later on
  pub later : (k p : ℕ) (l l' : List A) → k ≤ p → drop k l' ≡ drop k l → drop p l' ≡ drop p l
  later k p l l' h e =
      let i : p ≡ k + (p - k) = omega arith in
      ap (λ (j : ℕ). drop j l') i
      ∙ sym (drop-drop (p - k) k l')
      ∙ ap (drop (p - k)) e
      ∙ drop-drop (p - k) k l
      ∙ ap (λ (j : ℕ). drop j l) (sym i)

  -- lists that are the same up to k are the same up to earlier
  pub earlier : (k p : ℕ) (l l' : List A) → p ≤ k → take k l' ≡ take k l → take p l' ≡ take p l
  earlier k p l l' h e = sym (take-take p k l' h) ∙ ap (take p) e ∙ take-take p k l h

  -- what is written in a part is written in the whole
  pub only_in : {o n p m : ℕ} {l l' : List A} → p ≤ o → o + n ≤ p + m → Only o n l l' → Only p m l l'
  only_in {o} {n} {p} {m} {l} {l'} h k P = record { before = earlier o p l l' h P.before; behind = later (o + n) (p + m) l l' k P.behind }

  pub only_put : (o e n : ℕ) (l x : List A) → e ≡ o + n → e ≤ length l → length x ≡ n → Only o n l (put_mid o (e - o) l x)
  only_put o e n l x h k j = record {
    before = take_put o (e - o) l x (omega arith);
    behind =
        ap (λ (i : ℕ). drop i (put_mid o (e - o) l x)) (sym h)
        ∙ drop_put o e l x (omega arith) k (omega arith)
        ∙ ap (λ (i : ℕ). drop i l) h;
  }

  -- windows beside what was written
  module _ {o n : ℕ} {l l' : List A} (P : Only o n l l') (len : length l' ≡ length l) where
    pub window_before : (p m : ℕ) → p + m ≤ o → p ≤ length l → window p m l' ≡ window p m l
    window_before p m h k = front p m l' (omega arith) ∙ ap (drop p) (earlier o (p + m) l l' h P.before) ∙ sym (front p m l k)

    pub window_behind : (p m : ℕ) → o + n ≤ p → window p m l' ≡ window p m l
    window_behind p m h = ap (take m) (later (o + n) p l l' h P.behind)

  -- the window that was written
  pub window_put : (o e n : ℕ) (l x : List A) → e ≡ o + n → e ≤ length l → length x ≡ n → window o n (put_mid o (e - o) l x) ≡ x
  window_put o e n l x h k j =
      ap (take n) (drop_at (take o l) (x ++ post_of o (e - o) l) o (length-take-le o l (omega arith)))
      ∙ take_at x (post_of o (e - o) l) n j

-- a part that begins where a window does, by another name, and ends where it ends
pub window_at : {A : Type 0} (a o e n : ℕ) (l : List A) → a ≡ o → e ≡ a + n → take (e - a) (drop a l) ≡ window o n l
window_at a o e n l h k = window_to a e n l k ∙ ap (λ (i : ℕ). window i n l) h

pub window_at_long : {A : Type 0} (a e n : ℕ) (l : List A) → e ≡ a + n → e ≤ length l → length (take (e - a) (drop a l)) ≡ n
window_at_long a e n l h k = ap length (window_to a e n l h) ∙ window_long a n l (omega arith)
