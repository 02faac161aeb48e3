-- A store changes its own place and no other: one law for every loop that writes places one after the other. Assumes nothing.
use Prim.Native.Nat.{ℕ, ◌+◌, ◌<◌}
use mathlib.Core.Path.{◌≡◌, refl, sym, ap, ◌∙◌}
use mathlib.Core.List.{List}
use native.Mathlib.Omega.{arith}
use native.Mathlib.Decide.{dec_lt}
use lib.ListN.{get_or, length, set, length-set}
use lib.Seq.{get_or-set_same, get_or-set_other}
use Rattle.records.specs.Laid.{Laid}

module _ (to : ℕ) (g : ℕ → ℕ) (w : List ℕ) where
  pub laid_none : Laid to g w w 0
  laid_none = record { len = refl; laid = λ k h. absurd (omega arith); below = λ k h. refl; above = λ k h. refl }

  pub laid_more : {w' : List ℕ} {x : ℕ} → Laid to g w w' x → {i v : ℕ} → i ≡ to + x → i < length w → v ≡ g x → Laid to g w (set w' i v) (x + 1)
  laid_more {w'} {x} L {i} {v} p l e = record {
    len = length-set w' i v ∙ L.len;
    laid = λ k h. pick k (dec_lt k x) h;
    below = λ k h. get_or-set_other w' i k v 0 (omega arith) ∙ L.below k h;
    above = λ k h. get_or-set_other w' i k v 0 (omega arith) ∙ L.above k (omega arith);
  }
    where
      pick : (k : ℕ) → Dec (k < x) → k < x + 1 → get_or (set w' i v) (to + k) 0 ≡ g k
      pick k (yes q) h = get_or-set_other w' i (to + k) v 0 (omega arith) ∙ L.laid k q
      pick k (no q) h =
          let n : k ≡ x = omega arith in
          ap (λ (j : ℕ). get_or (set w' i v) j 0) (omega arith) ∙ get_or-set_same w' i v 0 (omega (arith, L.len)) ∙ e ∙ ap g (sym n)
