-- What a formula names is made of what the lower ones name; one of kind 0 names nothing, so a table's formulas name all that any formula
-- does; and bit x of a formula's set is set exactly where it names fluent x. Assumes nothing.
use Prim.Native.Nat.{ℕ, ◌≤◌, ◌<◌}
use native.Mathlib.Nat.{lt_of_not-le}
use native.Mathlib.Omega.{arith}
use mathlib.Core.Path.{◌≡◌}
use mathlib.Core.Bool.{false}
use lib.Dec.{T}
use lib.ListN.{get_or}
use Rattle.records.specs.declared.Formula.{Formula}
use Rattle.records.specs.Table.{up_to}
use Rattle.records.specs.Mask.{has_bit}
use Rattle.records.proofs.Fills.{up_at, entry_is}
use Rattle.records.proofs.Some.{some_iff}
use Rattle.records.proofs.Masks.{mask_has}
use Rattle.kinds.specs.Names.{names_of}
use Rattle.named.specs.Named.{names_at, names, table_names, formula_set}

module _ (formula : ℕ → Formula) where
  -- a formula is made of the table of lower ones
  pub names_is : (q x : ℕ) → names formula q x ≡ names_of (formula q) x (up_to (names_at formula x) q)
  unfolding names
  names_is q x = entry_is false (names_at formula x) q

  -- in the table of the first n formulas stands what each names
  pub names_at_lem : (n q x : ℕ) → q < n → get_or (up_to (names_at formula x) n) q false ≡ names formula q x
  unfolding names
  names_at_lem n q x l = up_at false (names_at formula x) n q l

  pub names_zero : (q x : ℕ) → (formula q).kind ≡ 0 → ¬ T (names formula q x)
  unfolding names_of
  names_zero q x e t = rw (names_is q x, e) at t

  -- where the formulas from n on have kind 0, the first n name all that any does
  pub table_covers : (n : ℕ) → ((q : ℕ) → n ≤ q → (formula q).kind ≡ 0) → (q x : ℕ) → T (names formula q x) → T (table_names formula n x)
  unfolding table_names
  table_covers n none q x t =
      let l : q < n = lt_of_not-le (λ l. names_zero q x (none q l) t) in
      (some_iff (λ (i : ℕ). names formula i x) (λ i. (λ s. s, λ s. s)) n 0).1 (q, (omega arith, omega arith), t)

  -- "bit x for fluent x"
  pub set_bit : (q x : ℕ) → x < 32 → has_bit (formula_set formula q) x ≡ names formula q x
  set_bit q x l = mask_has (names formula q) 32 x l
