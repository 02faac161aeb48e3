-- A sheet is turned away by a number of 1 to 9: those alone have causes. Assumes nothing.
use mathlib.Core.Path.{◌≡◌, refl}
use mathlib.Core.List.{List}
use mathlib.Core.Logic.{⊎_elim}
use Prim.Native.Nat.{ℕ, ◌≤◌}
use native.Mathlib.Omega.{arith}
use Rattle.sheet.specs.Check.{refused, check_of, Checked}
use Rattle.sheet.specs.Causes.{Cause, First}
use Rattle.sheet.proofs.Exactly.{refused_exactly}
use Rattle.std.specs.Prelude.{Ok, Err}

-- a number that an answer gives is one of 1 to 9
abbrev pub Numbered : Checked → Type 0
Numbered (Ok a) = Unit {0}
Numbered (Err r) = (1 ≤ r.number) × (r.number ≤ 9)

-- and so is one that has a cause
pub caused : (s : List ℕ) (n p : ℕ) → Cause s n p → (1 ≤ n) × (n ≤ 9)
caused s n p =
    ⊎_elim (λ c. let e = c.0 in (omega arith, omega arith))
    (⊎_elim (λ c. let e = c.0 in (omega arith, omega arith))
    (⊎_elim (λ c. let e = c.0 in (omega arith, omega arith))
    (⊎_elim (λ c. let e = c.0 in (omega arith, omega arith))
    (⊎_elim (λ c. let e = c.0 in (omega arith, omega arith))
    (⊎_elim (λ c. let e = c.0 in (omega arith, omega arith))
    (⊎_elim (λ c. let e = c.0 in (omega arith, omega arith))
    (⊎_elim (λ c. let e = c.0 in (omega arith, omega arith))
    (λ c. let e = c.0 in (omega arith, omega arith)))))))))

pub numbered : (s : List ℕ) → Numbered (check_of s)
numbered s = go (check_of s) (λ n p e. (refused_exactly s n p).0 e)
  where
    go : (x : Checked) → ((n p : ℕ) → x ≡ refused n p → First (Cause s) n p) → Numbered x
    go (Ok a) first = tt
    go (Err r) first = caused s _ _ (first _ _ refl).0
