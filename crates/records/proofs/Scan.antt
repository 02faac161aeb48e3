-- A loop that tries a rule at the indices 0, 1, .. below n, and stops at the first that fails. It is one law for every table:
-- `Scan ok n i` is the invariant at index i, kept by `more`; `found` and `done` give the contract at the two ways out.
-- The flag is what the record's own test returned. Assumes nothing.
use mathlib.Core.Path.{◌≡◌, sym, ◌∙◌, ap}
use mathlib.Core.Bool.{Bool, true, false, not}
use Prim.Native.Nat.{ℕ, suc, ◌+◌, ◌-◌, ◌≤◌, ◌<◌}
use native.Mathlib.Nat.{sub-zero}
use native.Mathlib.Numerals.{add-one}
use native.Mathlib.Omega.{arith}
use borrow.Author.Tests.{not-true, not-false}
use Rattle.records.specs.Lowest.{lowest_from, lowest}
use Rattle.records.proofs.Lowest.{from_true, from_false, from_none}

-- at index i nothing below it has failed: the search from here finds what the whole search finds
pub record Scan (ok : ℕ → Bool) (n i : ℕ) : Type 0 where
  pub within : i ≤ n
  pub same : lowest_from ok i (n - i) ≡ lowest ok n

module _ (ok : ℕ → Bool) where
  pub start : (n : ℕ) → Scan ok n 0
  unfolding lowest
  start n = record { within = omega arith; same = ap (lowest_from ok 0) (sub-zero n) }

  module _ {n i : ℕ} (s : Scan ok n i) where
    left : i < n → n - i ≡ suc (n - (i + 1))
    left l = omega arith

    pub more : i < n → {flag : Bool} → flag ≡ ok i → not flag ≡ false → Scan ok n (i + 1)
    more l {flag} e t =
        record {
          within = omega arith;
          same =
              ap (λ (j : ℕ). lowest_from ok j (n - (i + 1))) (add-one i)
              ∙ sym (from_true ok i (n - (i + 1)) (sym e ∙ not-false flag t))
              ∙ ap (lowest_from ok i) (sym (left l))
              ∙ s.same;
        }

    pub found : i < n → {flag : Bool} → flag ≡ ok i → not flag ≡ true → i ≡ lowest ok n
    found l {flag} e t =
        sym (from_false ok i (n - (i + 1)) (sym e ∙ not-true flag t)) ∙ ap (lowest_from ok i) (sym (left l)) ∙ s.same

    pub done : n ≤ i → i ≡ lowest ok n
    done l = let z : n - i ≡ 0 = omega arith in sym (from_none ok i) ∙ ap (lowest_from ok i) (sym z) ∙ s.same
