-- A table in which one place was written has there what was written, and what it had in the others. Assumes nothing.
use mathlib.Core.Path.{◌≡◌, sym, ◌∙◌, ap, subst}
use mathlib.Core.List.{List}
use Prim.Native.Nat.{ℕ, ◌<◌}
use native.Mathlib.Decide.{dec_lt}
use native.Mathlib.Omega.{arith}
use lib.ListN.{length, get_or, set}
use lib.Seq.{get_or-set_same, get_or-set_other}

pub written : {B : Type 0} (Q : B → Type 0) (d : B) (xs : List B) (i : ℕ) (v : B) → i < length xs
    → (a : ℕ) → ((a ≡ i → ⊥) → Q (get_or xs a d)) → (a ≡ i → Q v) → Q (get_or (set xs i v) a d)
written {B} Q d xs i v l a other here =
    elim (dec_lt a i) [
      | yes k ↦ apart (λ e. omega arith)
      | no k ↦ elim (dec_lt i a) [
        | yes j ↦ apart (λ e. omega arith)
        | no j ↦ let e : a ≡ i = omega arith in subst Q (sym (ap (λ (b : ℕ). get_or (set xs i v) b d) e ∙ get_or-set_same xs i v d l)) (here e)
      ]
    ]
  where
    apart : (a ≡ i → ⊥) → Q (get_or (set xs i v) a d)
    apart n = subst Q (sym (get_or-set_other xs i a v d n)) (other n)
