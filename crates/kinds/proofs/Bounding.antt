-- What is final in some state is marked among what may be, and what is marked among what is in every state is final: by kind, where its
-- parts are so. Assumes nothing.
use native.Mathlib.Omega.{arith}
use Rattle.std.proofs.lemmas.Grind.{common_steps}
use mathlib.Core.Path.{◌≡◌}
use mathlib.Core.Bool.{Bool, true, false}
use Prim.Native.Nat.{ℕ}
use lib.Dec.{T}
use Rattle.kinds.specs.Programs.{field_a, field_b, has_a, has_b, final_of, final_bound_of}

-- x is true only where y is
abbrev pub Under : Bool → Bool → Type 0
Under x y = x ≡ true → y ≡ true

module _ (fa fb ma mb h running : Bool) where
  -- what is final is marked
  pub final_marked : (kind : ℕ) → (T (has_a kind) → Under fa ma) → (T (has_b kind) → Under fb mb) → Under (final_of kind fa fb h running) (final_bound_of kind true ma mb)
  unfolding final_of final_bound_of field_a field_b
  final_marked kind p q e = grind (arith, common_steps)

  -- what is marked is final
  pub marked_final : (kind : ℕ) → (T (has_a kind) → Under ma fa) → (T (has_b kind) → Under mb fb) → Under (final_bound_of kind false ma mb) (final_of kind fa fb h running)
  unfolding final_of final_bound_of field_a field_b
  marked_final kind p q e = grind (arith, common_steps)
