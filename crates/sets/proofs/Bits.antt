-- The bits of a word that is made of others: of their and, or and complement, of a shifted word, of a part of one, of two rows. Assumes
-- nothing.
use Prim.Native.Nat.{ℕ, zero, suc, ◌+◌, ◌-◌, ◌*◌, ◌/◌, ◌%◌, ◌^◌, ◌<◌}
use native.Mathlib.Omega.{arith}
use native.Mathlib.Nat.{pow-succ', mod-lt, zero-div, div-one}
use native.Mathlib.Decide.{dec_lt}
use mathlib.Core.Bool.{Bool, true, false, not, ◌&&◌, ◌||◌}
use mathlib.Core.Path.{◌≡◌, refl, sym, ap, ap₂, ◌∙◌}
use borrow.Author.Tests.{eqb-true, eqb-false, eq-eqb, ne_eqb, lt-ltb, le-ltb}
use lib.Bits.{bit_and, bit_or, and_shr, and_mod, and_mask, or_shr, or_mod}
use lib.Pow.{shr-shr, field, mod-mod-pow, split, high, low, pow_pos}
use lib.Dec.{eqb, ltb}
use Rattle.records.specs.Mask.{digit, mask_of, has_bit}
use Rattle.records.proofs.Masks.{mask_none, mask_one, mask_has, mask_bits}

digit_is : (d : ℕ) → d < 2 → digit (eqb d 1) ≡ d
digit_is zero l = refl
digit_is (suc zero) l = refl
digit_is (suc (suc d)) l = absurd (omega arith)

bit_is : (w i : ℕ) → digit (has_bit w i) ≡ w / 2 ^ i % 2
bit_is w i = digit_is (w / 2 ^ i % 2) (omega arith)

-- an operation that works on each bit apart
module _ (op : ℕ → ℕ → ℕ) (f : Bool → Bool → Bool)
    (shr : (a b k : ℕ) → op a b / 2 ^ k ≡ op (a / 2 ^ k) (b / 2 ^ k))
    (rem : (a b k : ℕ) → op a b % 2 ^ k ≡ op (a % 2 ^ k) (b % 2 ^ k))
    (one : (p q : Bool) → eqb (op (digit p) (digit q)) 1 ≡ f p q) where
  bit_by : (a b i : ℕ) → has_bit (op a b) i ≡ f (has_bit a i) (has_bit b i)
  bit_by a b i =
      ap (λ (m : ℕ). eqb (m % 2) 1) (shr a b i)
      ∙ ap (λ (m : ℕ). eqb m 1) (rem (a / 2 ^ i) (b / 2 ^ i) 1)
      ∙ ap₂ (λ (m n : ℕ). eqb (op m n) 1) (sym (bit_is a i)) (sym (bit_is b i))
      ∙ one (has_bit a i) (has_bit b i)

one_and : (p q : Bool) → eqb (bit_and (digit p) (digit q)) 1 ≡ (p && q)
one_and true true = refl
one_and true false = refl
one_and false q = refl

one_or : (p q : Bool) → eqb (bit_or (digit p) (digit q)) 1 ≡ (p || q)
one_or true true = refl
one_or true false = refl
one_or false true = refl
one_or false false = refl

pub bit_and_lem : (a b i : ℕ) → has_bit (bit_and a b) i ≡ (has_bit a i && has_bit b i)
bit_and_lem = bit_by bit_and (λ (p q : Bool). p && q) and_shr and_mod one_and

pub bit_or_lem : (a b i : ℕ) → has_bit (bit_or a b) i ≡ (has_bit a i || has_bit b i)
bit_or_lem = bit_by bit_or (λ (p q : Bool). p || q) or_shr or_mod one_or

-- a set and the numbers that are not in it
mask_not : (U : ℕ → Bool) (n : ℕ) → mask_of (λ (x : ℕ). not (U x)) n + mask_of U n + 1 ≡ 2 ^ n
unfolding mask_of
mask_not U zero = refl
mask_not U (suc n) = rw (pow-succ' 2 n) (go (U n) _ _ (2 ^ n) (mask_not U n))
  where
    go : (b : Bool) (rest mask p : ℕ) → rest + mask + 1 ≡ p → digit (not b) * p + rest + (digit b * p + mask) + 1 ≡ 2 * p
    go true rest mask p e = omega arith
    go false rest mask p e = omega arith

pub bit_not : (a i : ℕ) → a < 2 ^ 32 → i < 32 → has_bit (2 ^ 32 - 1 - a) i ≡ not (has_bit a i)
bit_not a i l h =
    let U : ℕ → Bool = λ (x : ℕ). not (has_bit a x) in
    ap (λ (m : ℕ). has_bit m i) (omega (arith, mask_not (has_bit a) 32, mask_bits 32 a l)) ∙ mask_has U 32 i h

pub bit_without : (a b i : ℕ) → b < 2 ^ 32 → i < 32 → has_bit (bit_and a (2 ^ 32 - 1 - b)) i ≡ (has_bit a i && not (has_bit b i))
bit_without a b i l h = bit_and_lem a (2 ^ 32 - 1 - b) i ∙ ap (λ (q : Bool). has_bit a i && q) (bit_not b i l h)

pub bit_shr : (w s i : ℕ) → has_bit (w / 2 ^ s) i ≡ has_bit w (s + i)
bit_shr w s i = ap (λ (m : ℕ). eqb (m % 2) 1) (shr-shr w s i)

pub bit_mod : (w k i : ℕ) → i < k → has_bit (w % 2 ^ k) i ≡ has_bit w i
bit_mod w k i l =
    let j : ℕ = k - suc i in
    let e : k ≡ j + 1 + i = omega arith in
    ap (λ (m : ℕ). has_bit (w % 2 ^ m) i) e
    ∙ ap (λ (m : ℕ). eqb (m % 2) 1) (field w (j + 1) i)
    ∙ ap (λ (m : ℕ). eqb m 1) (mod-mod-pow (w / 2 ^ i) j 1)

-- a number in two parts
bit_low : (hi lo k i : ℕ) → lo < 2 ^ k → i < k → has_bit (hi * 2 ^ k + lo) i ≡ has_bit lo i
bit_low hi lo k i l h = sym (bit_mod (hi * 2 ^ k + lo) k i h) ∙ ap (λ (m : ℕ). has_bit m i) (low hi k l)

bit_high : (hi lo k i : ℕ) → lo < 2 ^ k → has_bit (hi * 2 ^ k + lo) (k + i) ≡ has_bit hi i
bit_high hi lo k i l = sym (bit_shr (hi * 2 ^ k + lo) k i) ∙ ap (λ (m : ℕ). has_bit m i) (high hi k l)

pub bit_none : (i : ℕ) → has_bit 0 i ≡ false
bit_none i = rw zero-div

-- each bit of a full word, or row
full : (n : ℕ) → mask_of (λ (x : ℕ). true) n + 1 ≡ 2 ^ n
full n = omega (arith, mask_not (λ (x : ℕ). true) n, mask_none n)

pub bit_full : (n i : ℕ) → i < n → has_bit (2 ^ n - 1) i ≡ true
bit_full n i l = ap (λ (m : ℕ). has_bit m i) (omega (arith, full n)) ∙ mask_has (λ (x : ℕ). true) n i l

-- the word of one number
pub bit_one : (v i : ℕ) → has_bit (2 ^ v) i ≡ eqb i v
bit_one v i =
    ap (λ (m : ℕ). has_bit m i) (sym (mask_one v (suc (i + v)) (omega arith)))
    ∙ mask_has (λ (x : ℕ). eqb v x) (suc (i + v)) i (omega arith)
    ∙ same (eqb v i) refl
  where
    same : (b : Bool) → eqb v i ≡ b → b ≡ eqb i v
    same true e = sym (eq-eqb i v (sym (eqb-true v i e)))
    same false e = sym (ne_eqb i v (λ q. eqb-false v i e (sym q)))

-- a row shifted by n has the numbers from n on
pub bit_from : (n i : ℕ) → i < 16 → has_bit (65535 * 2 ^ n) i ≡ not (ltb i n)
bit_from n i l = go (dec_lt i n)
  where
    go : Dec (i < n) → has_bit (65535 * 2 ^ n) i ≡ not (ltb i n)
    go (yes h) = rw (lt-ltb i n h) (ap (λ (m : ℕ). has_bit m i) (omega arith) ∙ bit_low 65535 0 n i (pow_pos n) h ∙ bit_none i)
    go (no h) =
        let e : i ≡ n + (i - n) = omega arith in
        rw (le-ltb i n (omega arith)) (ap₂ has_bit (omega arith) e ∙ bit_high 65535 0 n (i - n) (pow_pos n) ∙ bit_full 16 (i - n) (omega arith))

-- a word of two rows
by_rows : (hi lo : ℕ) (f : ℕ → Bool) → lo < 2 ^ 16 → ((i : ℕ) → i < 16 → has_bit lo i ≡ f i) → ((i : ℕ) → i < 16 → has_bit hi i ≡ f (16 + i))
    → (i : ℕ) → i < 32 → has_bit (hi * 2 ^ 16 + lo) i ≡ f i
by_rows hi lo f l below above i h =
    elim (dec_lt i 16) [
      | yes q ↦ bit_low hi lo 16 i l q ∙ below i q
      | no q ↦ let e : i ≡ 16 + (i - 16) = omega arith in
          ap (has_bit (hi * 2 ^ 16 + lo)) e ∙ bit_high hi lo 16 (i - 16) l ∙ above (i - 16) (omega arith) ∙ ap f (sym e)
    ]

-- the low row twice
pub bit_twice : (w i : ℕ) → i < 32 → has_bit (bit_and w 65535 * 65537) i ≡ has_bit w (i % 16)
bit_twice w i h =
    let row : ℕ = w % 2 ^ 16 in
    ap (λ (m : ℕ). has_bit m i) (omega (arith, and_mask w 16))
    ∙ by_rows row row (λ (j : ℕ). has_bit row (j % 16)) (mod-lt w (pow_pos 16)) (λ j q. ap (has_bit row) (omega arith)) (λ j q. ap (has_bit row) (omega arith)) i h
    ∙ bit_mod w 16 (i % 16) (omega arith)

row_full : (p : Bool) (i : ℕ) → i < 16 → has_bit (digit p * 65535) i ≡ p
row_full true i l = bit_full 16 i l
row_full false i l = bit_none i

digit_few : (p : Bool) → digit p * 65535 < 65536
digit_few true = omega arith
digit_few false = omega arith

-- each row full or empty
pub bit_rows : (p : ℕ → Bool) (i : ℕ) → i < 32 → has_bit ((digit (p 0) + digit (p 1) * 65536) * 65535) i ≡ p (i / 16)
bit_rows p i h =
    ap (λ (m : ℕ). has_bit m i) (omega arith)
    ∙ by_rows (digit (p 1) * 65535) (digit (p 0) * 65535) (λ (j : ℕ). p (j / 16)) (digit_few (p 0))
    (λ j q. row_full (p 0) j q ∙ ap p (omega arith)) (λ j q. row_full (p 1) j q ∙ ap p (omega arith)) i h

-- the lowest bit of each row
and_rows : (w : ℕ) → bit_and w 65537 ≡ digit (has_bit w 0) + digit (has_bit w 16) * 65536
and_rows w =
    let high_bit : bit_and w 65537 / 2 ^ 16 ≡ digit (has_bit w 16) = and_shr w 65537 16 ∙ and_mask (w / 2 ^ 16) 1 ∙ sym (bit_is w 16) in
    let low_bit : bit_and w 65537 % 2 ^ 16 ≡ digit (has_bit w 0) =
    and_mod w 65537 16 ∙ and_mask (w % 2 ^ 16) 1 ∙ mod-mod-pow w 15 1 ∙ ap (λ (m : ℕ). m % 2) (sym (div-one w)) ∙ sym (bit_is w 0) in
    omega (arith, split (bit_and w 65537) 16)

-- row by row: full where bit v of the row is set
pub bit_column : (w v i : ℕ) → i < 32 → has_bit (bit_and (w / 2 ^ v) 65537 * 65535) i ≡ has_bit w (v + 16 * (i / 16))
bit_column w v i h =
    ap (λ (m : ℕ). has_bit (m * 65535) i) (and_rows (w / 2 ^ v))
    ∙ bit_rows (λ (j : ℕ). has_bit (w / 2 ^ v) (16 * j)) i h
    ∙ bit_shr w v (16 * (i / 16))

-- the row from bit s on, twice
pub bit_row : (w s i : ℕ) → i < 32 → has_bit (bit_and (w / 2 ^ s) 65535 * 65537) i ≡ has_bit w (s + i % 16)
bit_row w s i h = bit_twice (w / 2 ^ s) i h ∙ bit_shr w s (i % 16)

-- two bits from s on, a row for each
pub bit_pair : (w s i : ℕ) → i < 32 → has_bit ((w / 2 ^ s % 2 + w / 2 ^ s / 2 % 2 * 65536) * 65535) i ≡ has_bit w (s + i / 16)
bit_pair w s i h =
    let p : ℕ → Bool = has_bit (w / 2 ^ s) in
    ap₂ (λ (a b : ℕ). has_bit ((a + b * 65536) * 65535) i) (ap (λ (m : ℕ). m % 2) (sym (div-one (w / 2 ^ s))) ∙ sym (bit_is (w / 2 ^ s) 0)) (sym (bit_is (w / 2 ^ s) 1))
    ∙ bit_rows p i h
    ∙ bit_shr w s (i / 16)
