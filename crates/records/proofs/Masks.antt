-- The number of a set: it fits, its bits are the set's, a union's is the bitwise or, and one fluent's is its power of 2. Assumes nothing.
use Prim.Native.Nat.{ℕ, zero, suc, ◌+◌, ◌-◌, ◌*◌, ◌/◌, ◌%◌, ◌^◌, ◌≤◌, ◌<◌}
use native.Mathlib.Omega.{arith}
use native.Mathlib.Nat.{pow-succ', mul_assoc, mul-add-div_right, eq-or-lt_of_le, le_of_suc-le-suc, div-add-mod', mod-lt, div-lt_iff_lt-mul}
use mathlib.Core.Bool.{Bool, true, false, ◌||◌}
use mathlib.Core.Logic.{⊎_elim}
use mathlib.Core.Path.{◌≡◌, refl, sym, ap, ap₂, ◌∙◌}
use borrow.Author.Tests.{eq-eqb, ne_eqb}
use lib.Arith.{digits_lt, digits_div}
use lib.Bits.{bit_or, or_block, block_odd}
use lib.Pow.{pow-add, pow_pos}
use lib.Dec.{eqb}
use Rattle.records.specs.Mask.{digit, mask_of, has_bit}

digit_fits : (b : Bool) → digit b < 2
digit_fits true = omega arith
digit_fits false = omega arith

pub mask_fits : (U : ℕ → Bool) (n : ℕ) → mask_of U n < 2 ^ n
unfolding mask_of
mask_fits U zero = omega arith
mask_fits U (suc n) = rw (pow-succ' 2 n) (digits_lt (digit_fits (U n)) (mask_fits U n))

digit_or : (a b : Bool) → bit_or (digit a) (digit b) ≡ digit (a || b)
digit_or true true = refl
digit_or true false = refl
digit_or false true = refl
digit_or false false = refl

-- "the union"
pub mask_or : (U G : ℕ → Bool) (n : ℕ) → bit_or (mask_of U n) (mask_of G n) ≡ mask_of (λ (x : ℕ). U x || G x) n
unfolding mask_of
mask_or U G zero = refl
mask_or U G (suc n) =
    or_block n (digit (U n)) (digit (G n)) (mask_of U n) (mask_of G n) (mask_fits U n) (mask_fits G n)
    ∙ ap₂ (λ (d r : ℕ). d * 2 ^ n + r) (digit_or (U n) (G n)) (mask_or U G n)

-- equal sets have equal numbers
pub mask_same : (U G : ℕ → Bool) (n : ℕ) → ((x : ℕ) → x < n → U x ≡ G x) → mask_of U n ≡ mask_of G n
unfolding mask_of
mask_same U G zero h = refl
mask_same U G (suc n) h = rw (h n (omega arith), mask_same U G n (λ x l. h x (omega arith)))

pub mask_none : (n : ℕ) → mask_of (λ (x : ℕ). false) n ≡ 0
unfolding mask_of
mask_none zero = refl
mask_none (suc n) = omega (arith, mask_none n)

-- one number that has no bit
pub mask_past : (i n : ℕ) → n ≤ i → mask_of (λ (x : ℕ). eqb i x) n ≡ 0
mask_past i n h = mask_same (λ (x : ℕ). eqb i x) (λ (x : ℕ). false) n (λ x l. ne_eqb i x (λ e. omega arith)) ∙ mask_none n

-- and one that has
pub mask_one : (i n : ℕ) → i < n → mask_of (λ (x : ℕ). eqb i x) n ≡ 2 ^ i
unfolding mask_of
mask_one i zero h = absurd (omega arith)
mask_one i (suc n) h =
    ⊎_elim (λ (e : i ≡ n). rw (eq-eqb i n e, mask_past i n (omega arith), e) (omega arith))
    (λ (l : i < n). rw (ne_eqb i n (λ e. omega arith), mask_one i n l) (omega arith))
    (eq-or-lt_of_le (le_of_suc-le-suc h))

-- digits past bit x do not change it
past_bit : (d r n x : ℕ) → x < n → (d * 2 ^ n + r) / 2 ^ x % 2 ≡ r / 2 ^ x % 2
past_bit d r n x l =
    let j = n - suc x in
    let e : n ≡ suc j + x = omega arith in
    let p : d * 2 ^ n ≡ d * 2 ^ suc j * 2 ^ x = ap (λ (k : ℕ). d * 2 ^ k) e ∙ ap (◌*◌ d) (pow-add 2 (suc j) x) ∙ sym (mul_assoc d (2 ^ suc j) (2 ^ x)) in
    ap (λ (m : ℕ). (m + r) / 2 ^ x % 2) p ∙ ap (λ (m : ℕ). m % 2) (mul-add-div_right (pow_pos x) (d * 2 ^ suc j) r) ∙ block_odd d j (r / 2 ^ x)

digit_last : (b : Bool) → digit b % 2 ≡ digit b
digit_last true = refl
digit_last false = refl

-- "bit x for fluent x"
pub mask_bit : (U : ℕ → Bool) (n x : ℕ) → x < n → mask_of U n / 2 ^ x % 2 ≡ digit (U x)
unfolding mask_of
mask_bit U zero x h = absurd (omega arith)
mask_bit U (suc n) x h =
    ⊎_elim (λ (e : x ≡ n). rw (e, digits_div (digit (U n)) (mask_fits U n)) (digit_last (U n)))
    (λ (l : x < n). past_bit (digit (U n)) (mask_of U n) n x l ∙ mask_bit U n x l)
    (eq-or-lt_of_le (le_of_suc-le-suc h))

digit_is : (b : Bool) → eqb (digit b) 1 ≡ b
digit_is true = refl
digit_is false = refl

pub mask_has : (U : ℕ → Bool) (n x : ℕ) → x < n → has_bit (mask_of U n) x ≡ U x
mask_has U n x l = rw (mask_bit U n x l) (digit_is (U x))

one_bit : (d : ℕ) → d < 2 → digit (eqb (d % 2) 1) ≡ d
one_bit zero l = refl
one_bit (suc zero) l = refl
one_bit (suc (suc d)) l = absurd (omega arith)

-- a number of n bits is that of its own bits
pub mask_bits : (n u : ℕ) → u < 2 ^ n → mask_of (has_bit u) n ≡ u
unfolding mask_of
mask_bits zero u l = omega arith
mask_bits (suc n) u l =
    let d = u / 2 ^ n in
    let r = u % 2 ^ n in
    let whole : d * 2 ^ n + r ≡ u = div-add-mod' u (2 ^ n) in
    let small : r < 2 ^ n = mod-lt u (pow_pos n) in
    let same = mask_same (has_bit u) (has_bit r) n (λ x h. ap (λ (m : ℕ). eqb m 1) (ap (λ (m : ℕ). m / 2 ^ x % 2) (sym whole) ∙ past_bit d r n x h)) in
    ap₂ (λ (a b : ℕ). a * 2 ^ n + b) (one_bit d ((div-lt_iff_lt-mul (pow_pos n)).1 (rw (pow-succ' 2 n) at l))) (same ∙ mask_bits n r small) ∙ whole
