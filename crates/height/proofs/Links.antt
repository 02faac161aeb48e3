-- What a record's height is over the links that its kind has, and that it depends on the heights of lower records alone. Assumes nothing.
use mathlib.Core.Path.{◌≡◌, refl, ap₂}
use mathlib.Core.List.{List, [], ◌∷◌}
use mathlib.Core.Bool.{Bool, true, false, cond}
use Prim.Native.Nat.{ℕ, suc, ◌≤◌, max, zero-le}
use native.Mathlib.Omega.{arith}
use lib.ListN.{get_or}
use Rattle.records.specs.declared.Program.{Program}
use Rattle.kinds.specs.Programs.{has_a, has_b, link_if, links}
use Rattle.height.specs.Height.{height_over}

-- two tables that read alike
pub over_same : (l m : List ℕ) → ((a : ℕ) → get_or l a 0 ≡ get_or m a 0) → (xs : List ℕ) → height_over l xs ≡ height_over m xs
unfolding height_over
over_same l m e [] = refl
over_same l m e (a ∷ xs) = ap₂ (λ (x y : ℕ). max (suc x) y) (e a) (over_same l m e xs)

pub over_le : (l : List ℕ) (m : ℕ) → ((a : ℕ) → get_or l a 0 ≤ m) → (xs : List ℕ) → height_over l xs ≤ suc m
unfolding height_over
over_le l m h [] = zero-le
over_le l m h (a ∷ xs) = let p = h a in let q = over_le l m h xs in omega arith

over_if : (lower : List ℕ) (b : Bool) (a : ℕ) (more : List ℕ) → height_over lower (link_if b a more) ≡ max (cond b (suc (get_or lower a 0)) 0) (height_over lower more)
unfolding height_over
over_if lower true a more = refl
over_if lower false a more = omega arith

-- over a record's links: those that its kind has
pub over_links :
    (lower : List ℕ) (r : Program)
    → height_over lower (links r) ≡ max (cond (has_a r.kind) (suc (get_or lower r.a 0)) 0) (cond (has_b r.kind) (suc (get_or lower r.b 0)) 0)
unfolding links height_over
over_links lower r = omega (arith, over_if lower (has_a r.kind) r.a (link_if (has_b r.kind) r.b []), over_if lower (has_b r.kind) r.b [])
