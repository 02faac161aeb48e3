-- Going through the environments and taking those out of a set that are bad. Assumes nothing.
use Prim.Native.Nat.{ℕ}
use mathlib.Core.Bool.{Bool, not, ◌&&◌}
use mathlib.Core.List.{List}
use lib.Dec.{ltb}
use Rattle.sets.specs.Sets.{member, Has}

module _ (set : List ℕ) (bad : ℕ → Bool) where
  -- those below e that are bad are taken out
  pub record RemovedBelow (e : ℕ) (left : List ℕ) : Type 0 where
    pub has : Has (λ (d : ℕ). member set d && not (ltb d e && bad d)) left
