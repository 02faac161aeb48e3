-- The constructs around what a transition leaves, and which transition that is: a tag is 0 or that of a construct, a sibling is the
-- record itself or a part that its kind has, and a record with a transition of its own has no other. Assumes nothing.
use Rattle.std.proofs.lemmas.Grind.{common_steps}
use mathlib.Core.Path.{◌≡◌}
use mathlib.Core.Bool.{Bool, true, false, ◌||◌}
use Prim.Native.Nat.{ℕ, ◌≤◌}
use native.Mathlib.Omega.{arith}
use lib.Dec.{T, eqb}
use Rattle.kinds.specs.Programs.{field_a, field_b, has_a, has_b, own_of, has_own, uses_a, uses_b, tag_a, loops, tag_b}

pub construct_a : (kind : ℕ) {tag : ℕ} → tag ≡ tag_a kind → (tag ≡ 0 → ⊥) → 3 ≤ tag
unfolding tag_a
construct_a kind e n = grind (arith, common_steps)

pub construct_b : (kind : ℕ) {tag : ℕ} → tag ≡ tag_b kind → (tag ≡ 0 → ⊥) → 3 ≤ tag
unfolding tag_b
construct_b kind e n = grind (arith, common_steps)

-- beside what part a leaves stands the record itself, or the part b that its kind has; beside what part b leaves, the part a
pub sibling_a_lem : (kind : ℕ) → T (eqb (tag_a kind) 0 || (loops kind || has_b kind))
unfolding tag_a loops field_b
sibling_a_lem kind = grind (arith, common_steps)

pub sibling_b : (kind : ℕ) → T (eqb (tag_b kind) 0 || has_a kind)
unfolding tag_b field_a
sibling_b kind = grind (arith, common_steps)

-- a record with a transition of its own uses no part, and another has none of its own
module _ (kind : ℕ) where
  pub own_no_first : (h running : Bool) → has_own kind ≡ true → uses_a kind h running ≡ false
  unfolding uses_a field_a
  own_no_first h running e = grind (arith, common_steps)

  pub own_no_second : (fa h idle : Bool) → has_own kind ≡ true → uses_b kind fa h idle ≡ false
  unfolding uses_b field_a
  own_no_second fa h idle e = grind (arith, common_steps)

  pub no_own : (can passes : Bool) → has_own kind ≡ false → own_of kind can passes ≡ false
  unfolding field_a
  no_own can passes e = grind (arith, common_steps)
