-- Numbers joined into one determine it and are determined by it: each is below the factor of the next. Assumes nothing.
use Prim.Native.Nat.{ℕ, zero, suc, ◌+◌, ◌-◌, ◌*◌, ◌/◌, ◌%◌, ◌≤◌, ◌<◌}
use mathlib.Core.Path.{◌≡◌, refl, sym, ap, ◌∙◌}
use mathlib.Core.Bool.{Bool, true, false, cond}
use mathlib.Core.List.{List}
use native.Mathlib.Omega.{arith}
use native.Mathlib.Decide.{dec_lt}
use native.Mathlib.Nat.{mod-eq_of_lt, add-mul-mod_self_left, add-mul-div_left, div-eq_of_lt}
use borrow.Author.Tests.{lt-ltb, le-ltb}
use lib.ListN.{get_or}
use Rattle.records.proofs.Truth.{part_few}
use Rattle.keys.specs.Packed.{two_at, four_at, eight_at, node_at, pair_at, head_of}

-- two numbers, of which the lower is below the factor
split : (m a b c d : ℕ) → 0 < m → a < m → c < m → a + m * b ≡ c + m * d → (a ≡ c) × (b ≡ d)
split m a b c d h p q e = (
  sym (low a b p) ∙ ap (λ (x : ℕ). x % m) e ∙ low c d q,
  sym (high a b p) ∙ ap (λ (x : ℕ). x / m) e ∙ high c d q,
)
  where
    low : (x y : ℕ) → x < m → (x + m * y) % m ≡ x
    low x y l = add-mul-mod_self_left x m y ∙ mod-eq_of_lt l

    high : (x y : ℕ) → x < m → (x + m * y) / m ≡ y
    high x y l = add-mul-div_left x y h ∙ ap (λ (z : ℕ). z + y) (div-eq_of_lt l) ∙ omega arith

-- whether interrupts run, the number of nodes, the label, and whether the nodes are wide
bit_same : (b b' : Bool) → ◌≡◌ {A = ℕ} (cond b' 1 0) (cond b 1 0) → b' ≡ b
bit_same true true e = refl
bit_same true false e = absurd (omega arith)
bit_same false true e = absurd (omega arith)
bit_same false false e = refl

pub head_same : (b b' wide wide' : Bool) (n n' l l' : ℕ) → n < 4096 → n' < 4096 → l < 65536 → l' < 65536
    → head_of b' n' l' wide' ≡ head_of b n l wide
    → (b' ≡ b) × (n' ≡ n) × (l' ≡ l) × (wide' ≡ wide)
unfolding head_of
head_same b b' wide wide' n n' l l' p q x y e =
    let f = part_few b 1 in
    let g = part_few b' 1 in
    let r = split 536870912 (cond b' 1 0 + 2 * n' + 8192 * l') (cond wide' 1 0) (cond b 1 0 + 2 * n + 8192 * l) (cond wide 1 0)
    (omega arith) (omega arith) (omega arith) e in
    let s = split 8192 (cond b' 1 0 + 2 * n') l' (cond b 1 0 + 2 * n) l (omega arith) (omega arith) (omega arith) r.0 in
    let t = split 2 (cond b' 1 0) n' (cond b 1 0) n (omega arith) (omega arith) (omega arith) s.0 in
    (bit_same b b' t.0, t.1, s.1, bit_same wide wide' r.1)

-- the lower bits of n values from place i on are the same
abbrev pub Low : (n i : ℕ) (v v' : List ℕ) → Type 0
Low n i v v' = (k : ℕ) → k < n → get_or v' (i + k) 0 % 16 ≡ get_or v (i + k) 0 % 16

four_below : (v : List ℕ) (i : ℕ) → four_at v i < 65536
unfolding four_at
four_below v i = omega arith

module _ (v v' : List ℕ) where
  both : (n m i : ℕ) → Low n i v v' → Low m (i + n) v v' → Low (n + m) i v v'
  both n m i f g k h = go (dec_lt k n)
    where
      go : Dec (k < n) → get_or v' (i + k) 0 % 16 ≡ get_or v (i + k) 0 % 16
      go (yes l) = f k l
      go (no l) = ap (λ (x : ℕ). get_or v' x 0 % 16) (omega arith) ∙ g (k - n) (omega arith) ∙ ap (λ (x : ℕ). get_or v x 0 % 16) (omega arith)

  two_same : (i : ℕ) → two_at v' i ≡ two_at v i → Low 2 i v v'
  two_same i e zero h =
      ap (λ (x : ℕ). get_or v' x 0 % 16) (omega arith)
      ∙ (split 16 (get_or v' i 0 % 16) _ (get_or v i 0 % 16) _ (omega arith) (omega arith) (omega arith) e).0
      ∙ ap (λ (x : ℕ). get_or v x 0 % 16) (omega arith)
  two_same i e (suc zero) h = (split 16 (get_or v' i 0 % 16) _ (get_or v i 0 % 16) _ (omega arith) (omega arith) (omega arith) e).1
  two_same i e (suc (suc k)) h = absurd (omega arith)

  four_same : (i : ℕ) → four_at v' i ≡ four_at v i → Low 4 i v v'
  unfolding four_at
  four_same i e =
      let s = split 256 (two_at v' i) (two_at v' (i + 2)) (two_at v i) (two_at v (i + 2)) (omega arith) (omega arith) (omega arith) e in
      both 2 2 i (two_same i s.0) (two_same (i + 2) s.1)

  pub eight_same : (i : ℕ) → eight_at v' i ≡ eight_at v i → Low 8 i v v'
  unfolding eight_at
  eight_same i e =
      let s = split 65536 (four_at v' i) (four_at v' (i + 4)) (four_at v i) (four_at v (i + 4)) (omega arith) (four_below v' i) (four_below v i) e in
      both 4 4 i (four_same i s.0) (four_same (i + 4) s.1)

-- two nodes, or one
pub pair_two : (w : List ℕ) (i n : ℕ) → 1 < n → pair_at w i n ≡ node_at 4096 w i + 65536 * node_at 4096 w (i + 3)
unfolding pair_at
pair_two w i n h = ap (λ (b : Bool). node_at 4096 w i + 65536 * cond b (node_at 4096 w (i + 3)) 0) (lt-ltb 1 n h)

pub pair_one : (w : List ℕ) (i n : ℕ) → n ≤ 1 → pair_at w i n ≡ node_at 4096 w i
unfolding pair_at
pair_one w i n h = ap (λ (b : Bool). node_at 4096 w i + 65536 * cond b (node_at 4096 w (i + 3)) 0) (le-ltb 1 n h) ∙ omega arith

module _ (w w' : List ℕ) (i j : ℕ) where
  -- a node's tag and number
  pub node_parts : (limit : ℕ) → node_at limit w' j ≡ node_at limit w i
      → (get_or w' j 0 % 16 ≡ get_or w i 0 % 16) × (get_or w' (j + 1) 0 % limit ≡ get_or w (i + 1) 0 % limit)
  node_parts limit e = split 16 (get_or w' j 0 % 16) _ (get_or w i 0 % 16) _ (omega arith) (omega arith) (omega arith) e

  -- the first of n nodes, and the second
  pub first_same : (n : ℕ) → pair_at w' j n ≡ pair_at w i n → node_at 4096 w' j ≡ node_at 4096 w i
  unfolding pair_at
  first_same n e = (split 65536 (node_at 4096 w' j) _ (node_at 4096 w i) _ (omega arith) (omega arith) (omega arith) e).0

  pub second_same : (n : ℕ) → 1 < n → pair_at w' j n ≡ pair_at w i n → node_at 4096 w' (j + 3) ≡ node_at 4096 w (i + 3)
  second_same n h e =
      (split 65536 (node_at 4096 w' j) _ (node_at 4096 w i) _ (omega arith) (omega arith) (omega arith) (sym (pair_two w' j n h) ∙ e ∙ pair_two w i n h)).1
