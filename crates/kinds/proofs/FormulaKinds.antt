-- What holds of each of the kinds 0 to 10, and of those past them, holds of every kind of formula. Assumes nothing.
use native.Mathlib.Omega.{arith}
use Rattle.std.proofs.lemmas.Grind.{common_steps}
use mathlib.Core.Path.{◌≡◌}
use Prim.Native.Nat.{ℕ, zero, suc}
use Rattle.std.specs.Bool.{⊤}
use Rattle.std.specs.Option.{MatchOption}
use Rattle.std.specs.Prelude.{Some}
use Rattle.records.specs.declared.Formula.{Formula}
use Rattle.kinds.specs.declared.formulas.Kind.{Kind}
use Rattle.kinds.specs.Formulas.{kind_of, number_of}

abbrev past : ℕ → ℕ
past k = suc (suc (suc (suc (suc (suc (suc (suc (suc (suc (suc k))))))))))

pub by_kind : (P : ℕ → Type 0) → P 0 → P 1 → P 2 → P 3 → P 4 → P 5 → P 6 → P 7 → P 8 → P 9 → P 10 → ((k : ℕ) → P (past k)) → (k : ℕ) → P k
by_kind P p0 p1 p2 p3 p4 p5 p6 p7 p8 p9 p10 p zero = p0
by_kind P p0 p1 p2 p3 p4 p5 p6 p7 p8 p9 p10 p (suc zero) = p1
by_kind P p0 p1 p2 p3 p4 p5 p6 p7 p8 p9 p10 p (suc (suc zero)) = p2
by_kind P p0 p1 p2 p3 p4 p5 p6 p7 p8 p9 p10 p (suc (suc (suc zero))) = p3
by_kind P p0 p1 p2 p3 p4 p5 p6 p7 p8 p9 p10 p (suc (suc (suc (suc zero)))) = p4
by_kind P p0 p1 p2 p3 p4 p5 p6 p7 p8 p9 p10 p (suc (suc (suc (suc (suc zero))))) = p5
by_kind P p0 p1 p2 p3 p4 p5 p6 p7 p8 p9 p10 p (suc (suc (suc (suc (suc (suc zero)))))) = p6
by_kind P p0 p1 p2 p3 p4 p5 p6 p7 p8 p9 p10 p (suc (suc (suc (suc (suc (suc (suc zero))))))) = p7
by_kind P p0 p1 p2 p3 p4 p5 p6 p7 p8 p9 p10 p (suc (suc (suc (suc (suc (suc (suc (suc zero)))))))) = p8
by_kind P p0 p1 p2 p3 p4 p5 p6 p7 p8 p9 p10 p (suc (suc (suc (suc (suc (suc (suc (suc (suc zero))))))))) = p9
by_kind P p0 p1 p2 p3 p4 p5 p6 p7 p8 p9 p10 p (suc (suc (suc (suc (suc (suc (suc (suc (suc (suc zero)))))))))) = p10
by_kind P p0 p1 p2 p3 p4 p5 p6 p7 p8 p9 p10 p (suc (suc (suc (suc (suc (suc (suc (suc (suc (suc (suc k))))))))))) = p k

-- a formula by its fields
abbrev pub formula_of : (kind x a b : ℕ) → Formula
formula_of kind x a b = record { kind = kind; x = x; a = a; b = b }

-- a kind has one number, and no other number stands for it
pub kind_number : (k : Kind) → kind_of (number_of k) ≡ Some k
kind_number k = grind (arith, common_steps)

by_number : (n : ℕ) → MatchOption (kind_of n) ⊤ (λ k. n ≡ number_of k)
by_number n = grind (arith, common_steps)

pub number_is : (n : ℕ) {k : Kind} → kind_of n ≡ Some k → n ≡ number_of k
number_is n e = rw e at (by_number n)
