-- The table of heights: record j of n is at most n high, whether the root reaches it or not. Assumes nothing.
use mathlib.Core.List.{List, [], ◌∷◌, ◌++◌}
use Prim.Native.Nat.{ℕ, zero, suc, ◌≤◌, zero-le}
use native.Mathlib.Omega.{arith}
use lib.ListN.{get_or}
use Rattle.records.specs.Table.{up_to}
use Rattle.records.specs.declared.Program.{Program}
use Rattle.height.specs.Height.{height_at}
use Rattle.height.proofs.Links.{over_le}

snoc_le : (l : List ℕ) (v m : ℕ) → ((j : ℕ) → get_or l j 0 ≤ m) → v ≤ m → (j : ℕ) → get_or (l ++ (v ∷ [])) j 0 ≤ m
snoc_le [] v m all h zero = h
snoc_le [] v m all h (suc j) = zero-le
snoc_le (x ∷ l) v m all h zero = all 0
snoc_le (x ∷ l) v m all h (suc j) = snoc_le l v m (λ k. all (suc k)) h j

pub heights_le : (p : ℕ → Program) (n j : ℕ) → get_or (up_to (height_at p) n) j 0 ≤ n
unfolding up_to height_at
heights_le p zero j = zero-le
heights_le p (suc n) j =
    snoc_le (up_to (height_at p) n) _ (suc n) (λ k. let h = heights_le p n k in omega arith)
    (over_le (up_to (height_at p) n) n (λ k. heights_le p n k) _) j
