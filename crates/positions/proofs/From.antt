-- The transitions from a position on: from 0 on all of them, and from one more than the first on the others; those of parts that stand one
-- after the other, or further on, are those of the parts. Assumes nothing.
use mathlib.Core.Path.{◌≡◌, refl, sym, ◌∙◌, ap}
use mathlib.Core.Bool.{Bool, true, false}
use mathlib.Core.List.Memᴰ
use mathlib.Core.List.{List, [], ◌∷◌, ◌++◌, map, Memᴰ}
use mathlib.Core.Logic.{◌⊎◌, inl, inr, ⊎_elim}
use Rattle.std.specs.Prelude.{Some}
use Rattle.std.specs.Option.{option_or}
use Prim.Native.Nat.{ℕ, suc, ◌-◌, ◌≤◌, ◌<◌}
use native.Mathlib.Omega.{arith}
use borrow.Author.Tests.{ltb-true, ltb-false, lt-ltb, le-ltb}
use lib.Dec.{ltb}
use Rattle.golog.specs.Transitions.{is_none}
use Rattle.remaining.specs.Rest.{Rest}
use Rattle.positions.specs.Spots.{Spot, moved, from_spot}
use Rattle.positions.specs.Rising.{Rising, nobody, then}
use Rattle.positions.specs.Found.{first_of, further}

pub lt_or_ge : (n k : ℕ) → (n < k) ⊎ (k ≤ n)
lt_or_ge n k = go (ltb n k) refl
  where
    go : (t : Bool) → ltb n k ≡ t → (n < k) ⊎ (k ≤ n)
    go true q = inl (ltb-true n k q)
    go false q = inr (ltb-false n k q)

-- one below k is left out, and none after one that is not
pub from_below : (k : ℕ) (x : Spot) (xs : List Spot) → x.0 < k → from_spot k (x ∷ xs) ≡ from_spot k xs
from_below k x xs l = rw (lt-ltb x.0 k l)

pub from_above : (k : ℕ) (x : Spot) (xs : List Spot) → k ≤ x.0 → from_spot k (x ∷ xs) ≡ (x ∷ xs)
from_above k x xs l = rw (le-ltb x.0 k l)

-- from 0 on, or from a lower bound on, all
pub from_start : (xs : List Spot) → from_spot 0 xs ≡ xs
from_start [] = refl
from_start (x ∷ xs) = from_above 0 x xs (omega arith)

pub from_low : {lo hi : ℕ} {xs : List Spot} (k : ℕ) → Rising lo hi xs → k ≤ lo → from_spot k xs ≡ xs
from_low k nobody l = refl
from_low k (then {x = x} {xs = xs} a b r) l = from_above k x xs (omega arith)

-- the first of them is one, at k or later
pub from_first : (k : ℕ) {x : Spot} {xs : List Spot} (ys : List Spot) → from_spot k ys ≡ (x ∷ xs) → (k ≤ x.0) × Memᴰ x ys
from_first k {x} {xs} [] e = let z : ◌≡◌ {A = ℕ} 0 1 = cc in absurd (omega arith)
from_first k {x} {xs} (y ∷ ys) e =
    ⊎_elim
    (λ (l : y.0 < k). let r = from_first k ys (sym (from_below k y ys l) ∙ e) in (r.0, Memᴰ.tail r.1))
    (λ (l : k ≤ y.0).
    let same : ◌≡◌ {A = List Spot} (y ∷ ys) (x ∷ xs) = sym (from_above k y ys l) ∙ e in
    let head : y ≡ x = cc in
    (omega (arith, ap (λ (z : Spot). z.0) head), Memᴰ.head (sym head)))
    (lt_or_ge y.0 k)

-- and there is one where some transition stands at k or later
pub from_some : (k : ℕ) {x : Spot} (ys : List Spot) → Memᴰ x ys → k ≤ x.0 → is_none (from_spot k ys) ≡ false
from_some k [] m h = absurd (Memᴰ.not-nil m)
from_some k (y ∷ ys) m h =
    ⊎_elim
    (λ (l : y.0 < k). ap is_none (from_below k y ys l)
    ∙ ⊎_elim (λ e. absurd (omega (arith, ap (λ (z : Spot). z.0) e))) (λ m. from_some k ys m h) (Memᴰ.cases_cons m))
    (λ (l : k ≤ y.0). ap is_none (from_above k y ys l))
    (lt_or_ge y.0 k)

-- from one more than the first on, the others
pub from_next : {lo hi : ℕ} (k : ℕ) {x : Spot} {xs ys : List Spot} → Rising lo hi ys → from_spot k ys ≡ (x ∷ xs) → from_spot (suc x.0) ys ≡ xs
from_next k {x} {xs} nobody e = let z : ◌≡◌ {A = ℕ} 0 1 = cc in absurd (omega arith)
from_next k {x} {xs} (then {x = y} {xs = ys} a b r) e =
    ⊎_elim
    (λ (l : y.0 < k).
    let rest : from_spot k ys ≡ (x ∷ xs) = sym (from_below k y ys l) ∙ e in
    let above = from_first k ys rest in
    from_below (suc x.0) y ys (omega (arith, above.0)) ∙ from_next k r rest)
    (λ (l : k ≤ y.0).
    let same : ◌≡◌ {A = List Spot} (y ∷ ys) (x ∷ xs) = sym (from_above k y ys l) ∙ e in
    let head : y ≡ x = cc in
    let tail : ys ≡ xs = cc in
    let at = ap (λ (z : Spot). z.0) head in
    from_below (suc x.0) y ys (omega arith) ∙ from_low (suc x.0) r (omega arith) ∙ tail)
    (lt_or_ge y.0 k)

-- the first of those further on
pub from_moved : (k by : ℕ) (f : Rest → Rest) (xs : List Spot) → from_spot k (map (moved by f) xs) ≡ map (moved by f) (from_spot (k - by) xs)
from_moved k by f [] = refl
from_moved k by f (x ∷ xs) =
    ⊎_elim
    (λ (l : x.0 < k - by).
    from_below k (moved by f x) (map (moved by f) xs) (omega arith)
    ∙ from_moved k by f xs
    ∙ ap (map (moved by f)) (sym (from_below (k - by) x xs l)))
    (λ (l : k - by ≤ x.0).
    from_above k (moved by f x) (map (moved by f) xs) (omega arith) ∙ ap (map (moved by f)) (sym (from_above (k - by) x xs l)))
    (lt_or_ge x.0 (k - by))

first_moved : (by : ℕ) (f : Rest → Rest) (xs : List Spot) → first_of (map (moved by f) xs) ≡ further by (first_of xs)
first_moved by f [] = refl
first_moved by f (x ∷ xs) = refl

pub found_moved : (k by : ℕ) (f : Rest → Rest) (xs : List Spot) → first_of (from_spot k (map (moved by f) xs)) ≡ further by (first_of (from_spot (k - by) xs))
found_moved k by f xs = ap first_of (from_moved k by f xs) ∙ first_moved by f (from_spot (k - by) xs)

-- the first of two lists, one after the other
pub found_append : (k : ℕ) (xs ys : List Spot) → first_of (from_spot k (xs ++ ys)) ≡ option_or (first_of (from_spot k xs)) (first_of (from_spot k ys))
found_append k [] ys = refl
found_append k (x ∷ xs) ys =
    ⊎_elim
    (λ (l : x.0 < k).
    ap first_of (from_below k x (xs ++ ys) l)
    ∙ found_append k xs ys
    ∙ ap (λ (l : List Spot). option_or (first_of l) (first_of (from_spot k ys))) (sym (from_below k x xs l)))
    (λ (l : k ≤ x.0).
    ap first_of (from_above k x (xs ++ ys) l) ∙ ap (λ (l : List Spot). option_or (first_of l) (first_of (from_spot k ys))) (sym (from_above k x xs l)))
    (lt_or_ge x.0 k)

-- none of those below k
pub found_none : {lo hi : ℕ} {xs : List Spot} (k : ℕ) → Rising lo hi xs → hi ≤ k → from_spot k xs ≡ []
found_none k nobody l = refl
found_none k (then {x = x} {xs = xs} a b r) l = from_below k x xs (omega arith) ∙ found_none k r l

-- it stands below what all stand below, and at k or later
pub found_below : {lo hi n : ℕ} {xs : List Spot} (k : ℕ) → Rising lo hi xs → first_of (from_spot k xs) ≡ Some n → (k ≤ n) × (n < hi)
found_below {n = n} k nobody e = let z : ◌≡◌ {A = ℕ} 0 1 = cc in absurd (omega arith)
found_below {n = n} k (then {x = x} {xs = xs} a b r) e =
    ⊎_elim
    (λ (l : x.0 < k). found_below k r (ap first_of (sym (from_below k x xs l)) ∙ e))
    (λ (l : k ≤ x.0).
    let same : Some x.0 ≡ Some n = ap first_of (sym (from_above k x xs l)) ∙ e in
    let at : x.0 ≡ n = cc in
    (omega arith, omega arith))
    (lt_or_ge x.0 k)
