-- Deepening: where no run of fewer than so many transitions ends final, a higher bound finds a plan, or none ends final up to it; and where
-- no run goes on past a bound, none does past a higher one. A plan has the fewest transitions where no lower bound is untried.
-- Assumes nothing.
use Prim.Native.Nat.{ℕ, suc, ◌≤◌, zero-le}
use native.Mathlib.Omega.{arith}
use mathlib.Core.List.{List, []}
use mathlib.Core.Option.{Option}
use mathlib.Core.Path.{refl}
use Rattle.runs.specs.Search.{nothing, more, Means}
use Rattle.runs.specs.Growing.{FoundFrom, SoFar, MeansFewest}
use Rattle.runs.proofs.Raised.{none_raised}
use Rattle.runs.proofs.Firsts.{none_below}

module _ {C : Type 0} (Trans : C → Option ℕ → C → Type 0) (Ends : C → Type 0) where
  pub so_far_none : (k : ℕ) (c : C) → SoFar Trans Ends 0 k c more
  so_far_none k c = (λ n g f. zero-le, ([], c, (refl, refl)))

  -- a bound was tried without a plan
  pub so_far_nothing : (low k t : ℕ) (c : C) → t ≤ k → Means Trans Ends t c nothing → SoFar Trans Ends low k c nothing
  so_far_nothing low k t c l m = none_raised Trans Ends k t c l m

  pub so_far_more : (k t : ℕ) (c : C) → Means Trans Ends t c more → SoFar Trans Ends (suc t) k c more
  so_far_more k t c m = (none_below Trans Ends (suc t) c (λ n g l (d, run, end). m.0 (n, g, d, omega arith, run, end)), m.1)

  -- all bounds are done
  pub so_far_all : (k : ℕ) (c : C) → SoFar Trans Ends (suc k) k c more → MeansFewest Trans Ends k c more
  so_far_all k c (few, long) = (λ (n, h, d, l, run, end). omega (arith, few n h (d, run, end)), long)

  -- a plan beyond those done has the fewest transitions where none has fewer than its own
  module _ {k low : ℕ} {c : C} {h : List ℕ} {t : ℕ} (F : FoundFrom Trans Ends low k c h t) where
    pub fewest_met : t ≤ low → FoundFrom Trans Ends t k c h t
    fewest_met l = record { within = F.within; plan = F.plan; none_below = λ n g f. omega (arith, F.none_below n g f) }
