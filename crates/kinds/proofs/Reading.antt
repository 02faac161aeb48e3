-- A column reads no more than the kind has: with false in the place of a part, a condition, an action or a test that it has not, it says
-- the same. So what agrees in the fields that a record has gives the same finality and the same uses of its parts. Assumes nothing.
use native.Mathlib.Omega.{arith}
use Rattle.std.proofs.lemmas.Grind.{common_steps}
use mathlib.Core.Path.{◌≡◌}
use mathlib.Core.Bool.{Bool}
use Prim.Native.Nat.{ℕ}
use lib.Dec.{T}
use Rattle.kinds.specs.Programs.{field_a, field_b, field_c, has_a, has_b, has_condition, acts, tests, final_of, own_of, uses_a, uses_b}

-- a record uses a part only where its kind has it
pub uses_a_lem : (kind : ℕ) (h running : Bool) → T (uses_a kind h running) → T (has_a kind)
unfolding uses_a field_a
uses_a_lem kind h running t = grind (arith, common_steps)

pub uses_b_lem : (kind : ℕ) (fa h idle : Bool) → T (uses_b kind fa h idle) → T (has_b kind)
unfolding uses_b field_b
uses_b_lem kind fa h idle t = grind (arith, common_steps)

module _ (kind : ℕ) where
  pub final_same :
      {fa ga fb gb h k : Bool} (running : Bool)
      → (T (has_a kind) → fa ≡ ga) → (T (has_b kind) → fb ≡ gb) → (T (has_condition kind) → h ≡ k)
      → final_of kind fa fb h running ≡ final_of kind ga gb k running
  unfolding final_of field_a field_b field_c
  final_same running ea eb ec = grind (arith, common_steps)

  pub uses_a_same : {h k : Bool} (running : Bool) → (T (has_condition kind) → h ≡ k) → uses_a kind h running ≡ uses_a kind k running
  unfolding uses_a field_c
  uses_a_same running ec = grind (arith, common_steps)

  pub uses_b_same :
      {fa ga h k idle none : Bool}
      → (T (has_a kind) → fa ≡ ga) → (T (has_condition kind) → h ≡ k) → (T (has_a kind) → idle ≡ none)
      → uses_b kind fa h idle ≡ uses_b kind ga k none
  unfolding uses_b field_a field_c
  uses_b_same ea ec ei = grind (arith, common_steps)

  pub own_same : {can may passes holds : Bool} → (T (acts kind) → can ≡ may) → (T (tests kind) → passes ≡ holds) → own_of kind can passes ≡ own_of kind may holds
  unfolding field_a
  own_same a t = grind (arith, common_steps)
