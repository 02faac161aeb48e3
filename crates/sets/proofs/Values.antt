-- The environments that lead into a set with some value put into a placeholder: a row has a bit, or one of the rows has it; and of the
-- values below n, where the others are taken away. Assumes nothing.
use Prim.Native.Nat.{ℕ, ◌+◌, ◌*◌, ◌/◌, ◌%◌, ◌^◌, ◌≤◌, ◌<◌}
use mathlib.Core.Path.{◌≡◌, refl, sym, ap, ap₂, ◌∙◌}
use mathlib.Core.Bool.{Bool, true, false, not, ◌&&◌, ◌||◌, false≢true, not-not}
use mathlib.Core.List.{List}
use native.Mathlib.Omega.{arith}
use native.Mathlib.Decide.{ℕ_discrete}
use native.Mathlib.Nat.{mod-lt}
use borrow.Author.Tests.{eqb-true, eqb-false, ltb-true, lt-ltb}
use lib.Bits.{bit_and, bit_or}
use lib.Dec.{eqb, ltb}
use lib.ListN.{get_or}
use lib.Pow.{pow_pos}
use Rattle.records.specs.Mask.{digit, has_bit}
use Rattle.records.specs.Placeholders.{look, put}
use Rattle.records.proofs.Placeholders.{put_small, look_put}
use Rattle.records.specs.Some.{some_from}
use Rattle.records.proofs.Some.{some_iff, some_same}
use Rattle.records.proofs.Truth.{and_left, and_right, and_both, is_true, is_false, true_exactly}
use Rattle.sets.specs.Sets.{member, Has, Gathered}
use Rattle.sets.proofs.Bits.{bit_or_lem, bit_shr, bit_mod, bit_twice, bit_rows}
use Rattle.sets.proofs.Empty.{found, unfound, some_bit}
use Rattle.sets.proofs.Members.{put_column, put_row}

-- two tests of ranges find alike where each finds what the other does
both_find : (f g : ℕ → Bool) (k m : ℕ) → ((i : ℕ) → i < k → f i ≡ true → (j : ℕ) × (j < m) × (g j ≡ true))
    → ((j : ℕ) → j < m → g j ≡ true → (i : ℕ) × (i < k) × (f i ≡ true)) → some_from f 0 k ≡ some_from g 0 m
both_find f g k m to back = go (some_from f 0 k) refl (some_from g 0 m) refl
  where
    go : (a : Bool) → some_from f 0 k ≡ a → (b : Bool) → some_from g 0 m ≡ b → a ≡ b
    go true p true q = refl
    go true p false q = let (i, l, t) = found f k p in let (j, h, u) = to i l t in sym u ∙ unfound g m q j h
    go false p true q = let (j, h, u) = found g m q in let (i, l, t) = back j h u in sym (unfound f k p i l) ∙ t
    go false p false q = refl

-- a row with a full row added reaches into the next, where it has a bit
row_any : (r : ℕ) → r < 65536 → (r + 65535) / 65536 ≡ digit (some_from (has_bit r) 0 16)
row_any r l = go (eqb r 0) refl ∙ ap digit (sym (some_bit 16 r l))
  where
    go : (b : Bool) → eqb r 0 ≡ b → (r + 65535) / 65536 ≡ digit (not b)
    go true e = omega (arith, eqb-true r 0 e)
    go false e = omega (arith, eqb-false r 0 e)

pub bit_column_any : (w i : ℕ) → w < 2 ^ 32 → i < 32
    → has_bit (((w % 65536 + 65535) / 65536 + (w / 65536 + 65535) / 65536 * 65536) * 65535) i ≡ some_from (λ (v : ℕ). has_bit w (v + 16 * (i / 16))) 0 16
bit_column_any w i l h =
    let p : ℕ → Bool = λ (j : ℕ). some_from (λ (v : ℕ). has_bit w (v + 16 * j)) 0 16 in
    let first : (w % 65536 + 65535) / 65536 ≡ digit (p 0) =
    row_any (w % 2 ^ 16) (mod-lt w (pow_pos 16))
    ∙ ap digit (some_same (has_bit (w % 2 ^ 16)) (λ (v : ℕ). has_bit w (v + 0)) 16 0 (λ v (a, b). bit_mod w 16 v (omega arith) ∙ ap (has_bit w) (omega arith))) in
    let second : (w / 65536 + 65535) / 65536 ≡ digit (p 1) =
    row_any (w / 2 ^ 16) (omega arith)
    ∙ ap digit (some_same (has_bit (w / 2 ^ 16)) (λ (v : ℕ). has_bit w (v + 16)) 16 0 (λ v (a, b). bit_shr w 16 v ∙ ap (has_bit w) (omega arith))) in
    ap₂ (λ (a b : ℕ). has_bit ((a + b * 65536) * 65535) i) first second ∙ bit_rows p i h

pub some_columns : (x : List ℕ) (e : ℕ) → some_from (λ (v : ℕ). has_bit (get_or x (e / 32) 0) (v + 16 * (e % 32 / 16))) 0 16 ≡ some_from (λ (v : ℕ). member x (put e 0 v)) 0 16
some_columns x e = some_same _ _ 16 0 (λ v (a, b). put_column x e v (omega arith))

-- tests of the even numbers, and of the odd ones
some_pairs : (of : ℕ → ℕ → Bool) → (some_from (of 0) 0 8 || some_from (of 1) 0 8) ≡ some_from (λ (v : ℕ). of (v % 2) (v / 2)) 0 16
some_pairs of = go (some_from (of 0) 0 8) refl (some_from (of 1) 0 8) refl
  where
    all : ℕ → Bool
    all v = of (v % 2) (v / 2)

    hit : (v : ℕ) → v < 16 → all v ≡ true → true ≡ some_from all 0 16
    hit v l t = sym (is_true _ ((some_iff all (λ i. true_exactly (all i)) 16 0).1 (v, (omega arith, omega arith), t)))

    miss : some_from (of 0) 0 8 ≡ false → some_from (of 1) 0 8 ≡ false → (v : ℕ) → v < 16 → Dec (v % 2 ≡ 0) → all v ≡ false
    miss p q v l (yes z) = ap (λ (h : ℕ). of h (v / 2)) z ∙ unfound (of 0) 8 p (v / 2) (omega arith)
    miss p q v l (no z) = ap (λ (h : ℕ). of h (v / 2)) (omega (arith, z)) ∙ unfound (of 1) 8 q (v / 2) (omega arith)

    go : (a : Bool) → some_from (of 0) 0 8 ≡ a → (b : Bool) → some_from (of 1) 0 8 ≡ b → (a || b) ≡ some_from all 0 16
    go true p b q = let (i, l, t) = found (of 0) 8 p in hit (2 * i) (omega arith) (ap₂ of (omega arith) (omega arith) ∙ t)
    go false p true q = let (i, l, t) = found (of 1) 8 q in hit (2 * i + 1) (omega arith) (ap₂ of (omega arith) (omega arith) ∙ t)
    go false p false q =
        sym (is_false (some_from all 0 16)
        (λ t. let (v, l, u) = found all 16 t in false≢true (sym (miss p q v l (ℕ_discrete (v % 2) 0)) ∙ u)))

-- one of the first rows of the words, or of the second ones
pub bit_row_any : (x : List ℕ) (two : ℕ) → Gathered x 8 two → (e : ℕ) → e < 256
    → has_bit (bit_and (bit_or two (two / 65536)) 65535 * 65537) (e % 32) ≡ some_from (λ (v : ℕ). member x (put e 1 v)) 0 16
bit_row_any x two G e l =
    let i : ℕ = e % 32 % 16 in
    let of : ℕ → ℕ → Bool = λ (h j : ℕ). has_bit (get_or x j 0) (16 * h + i) in
    bit_twice (bit_or two (two / 65536)) (e % 32) (omega arith)
    ∙ bit_or_lem two (two / 65536) i
    ∙ ap₂ ◌||◌ (G.each i ∙ ap (λ (b : ℕ). some_from (λ (j : ℕ). has_bit (get_or x j 0) b) 0 8) (omega arith)) (bit_shr two 16 i ∙ G.each (16 + i))
    ∙ some_pairs of
    ∙ some_same _ _ 16 0 (λ v (a, b). put_row x e v (omega arith))

-- of the values below n
pub some_below : (f : ℕ → Bool) (n : ℕ) → n ≤ 16 → some_from (λ (v : ℕ). f v && ltb v n) 0 16 ≡ some_from f 0 n
some_below f n l =
    both_find (λ (v : ℕ). f v && ltb v n) f 16 n
    (λ v h t. (v, ltb-true v n (and_right (f v) (ltb v n) t), and_left (f v) (ltb v n) t))
    (λ v h t. (v, omega arith, and_both (f v) (ltb v n) t (lt-ltb v n h)))

-- what is in x and does not reach n in placeholder c
pub some_few : (x few reach : List ℕ) (c n e : ℕ) → n ≤ 16 → e < 256 → Has (λ (d : ℕ). not (ltb (look d c) n)) reach
    → Has (λ (d : ℕ). member x d && not (member reach d)) few
    → some_from (λ (v : ℕ). member few (put e c v)) 0 16 ≡ some_from (λ (v : ℕ). member x (put e c v)) 0 n
some_few x few reach c n e l h R F =
    some_same (λ (v : ℕ). member few (put e c v)) (λ (v : ℕ). member x (put e c v) && ltb v n) 16 0 (λ v (a, b). same v (omega arith))
    ∙ some_below (λ (v : ℕ). member x (put e c v)) n l
  where
    same : (v : ℕ) → v < 16 → member few (put e c v) ≡ (member x (put e c v) && ltb v n)
    same v k =
        let d : ℕ = put e c v in
        let small : d < 256 = put_small e h c v in
        F.each d small
        ∙ ap (λ (b : Bool). member x d && not b) (R.each d small)
        ∙ ap (λ (b : Bool). member x d && b) (not-not (ltb (look d c) n))
        ∙ ap (λ (u : ℕ). member x d && ltb u n) (look_put e h c v ∙ omega arith)
