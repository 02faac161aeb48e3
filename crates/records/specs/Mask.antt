-- To be believed: a set of numbers as one number, "a 32-bit set (bit x for fluent x)" (document 02, F-5). That its bits are the set's is
-- proved in proofs/Masks.antt. Assumes nothing.
use Rattle.std.specs.Prelude.{ℕ, zero, suc, ◌+◌, ◌*◌, ◌/◌, ◌%◌, ◌^◌, Bool, true, false, eqb}

-- a bit
abbrev pub digit : Bool → ℕ
digit true = 1
digit false = 0

-- the numbers below n that are in the set: 32 for n
unfoldable pub mask_of : (ℕ → Bool) → (n : ℕ) → ℕ
mask_of U zero = 0
mask_of U (suc n) = digit (U n) * 2 ^ n + mask_of U n

-- whether bit x is set
abbrev pub has_bit : (set x : ℕ) → Bool
has_bit set x = eqb (set / 2 ^ x % 2) 1
