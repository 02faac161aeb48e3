-- The fields of a formula by their roles. A test decides each role; a formula whose kind is known and whose fields keep their roles keeps
-- document 01's rule, and conversely, kind by kind. So formulas of an accepted sheet name lower ones. Assumes nothing.
use Rattle.std.proofs.lemmas.Grind.{common_steps}
use mathlib.Core.Path.{◌≡◌}
use mathlib.Core.Bool.{true}
use mathlib.Core.Logic.{◌↔◌}
use Prim.Native.Nat.{ℕ, ◌≤◌, ◌<◌}
use native.Mathlib.Omega.{arith}
use borrow.Author.Tests.{leb-true, le-leb}
use Rattle.records.specs.declared.Formula.{Formula}
use Rattle.records.proofs.Truth.{and_four, and_both}
use Rattle.kinds.specs.declared.formulas.Field.{Field}
use Rattle.kinds.specs.declared.formulas.Field.TheVariants.{Unused, Fluent, Value, Limit, Lower, Placeholder, Choices}
use Rattle.kinds.specs.Rules.{FormulaRule}
use Rattle.kinds.specs.Formulas.{field_x, field_a, field_b, field_ok, formula_ok, PartsLower}
use Rattle.kinds.proofs.FormulaKinds.{formula_of}

module _ (nf size i : ℕ) where
  -- a field keeps its role, as a statement
  abbrev FieldRule : Field → ℕ → Type 0
  FieldRule Unused x = x ≡ 0
  FieldRule Fluent x = x < nf
  FieldRule Value x = x < size
  FieldRule Limit x = x ≤ size
  FieldRule Lower x = x < i
  FieldRule Placeholder x = x < 2
  FieldRule Choices x = (1 ≤ x) × (x ≤ 16)

  -- the kind is known, and each field keeps its role
  record Fields (r : Formula) : Type 0 where
    known : r.kind ≤ 7
    x : FieldRule (field_x r.kind) r.x
    a : FieldRule (field_a r.kind) r.a
    b : FieldRule (field_b r.kind) r.b

  field_exactly : (f : Field) (x : ℕ) → (field_ok nf size i f x ≡ true) ↔ FieldRule f x
  field_exactly f x = grind (arith, common_steps)

  -- document 01's rule of each kind, from the roles
  rule_of : (x a b kind : ℕ) → kind ≤ 7 → FieldRule (field_x kind) x → FieldRule (field_a kind) a → FieldRule (field_b kind) b → FormulaRule nf size i (formula_of kind x a b)
  unfolding field_x field_a field_b
  rule_of x a b kind l p q r = grind (arith, common_steps)

  module _ (r : Formula) where
    x_exactly : (field_ok nf size i (field_x r.kind) r.x ≡ true) ↔ FieldRule (field_x r.kind) r.x
    x_exactly = field_exactly (field_x r.kind) r.x

    a_exactly : (field_ok nf size i (field_a r.kind) r.a ≡ true) ↔ FieldRule (field_a r.kind) r.a
    a_exactly = field_exactly (field_a r.kind) r.a

    b_exactly : (field_ok nf size i (field_b r.kind) r.b ≡ true) ↔ FieldRule (field_b r.kind) r.b
    b_exactly = field_exactly (field_b r.kind) r.b

    fields_exactly : (formula_ok nf size i r ≡ true) ↔ Fields r
    unfolding formula_ok
    fields_exactly = (
      λ e. let t = and_four _ _ _ _ e in record { known = leb-true _ _ t.0; x = x_exactly.0 t.1; a = a_exactly.0 t.2; b = b_exactly.0 t.3 },
      λ f. and_both _ _ (and_both _ _ (and_both _ _ (le-leb _ _ f.known) (x_exactly.1 f.x)) (a_exactly.1 f.a)) (b_exactly.1 f.b),
    )

    fields_of : FormulaRule nf size i r → Fields r
    unfolding field_x field_a field_b
    fields_of h = record { known = grind (arith, common_steps); x = grind (arith, common_steps); a = grind (arith, common_steps); b = grind (arith, common_steps) }

    pub formula_exactly : (formula_ok nf size i r ≡ true) ↔ FormulaRule nf size i r
    formula_exactly = (
      λ e. let f = fields_exactly.0 e in rule_of r.x r.a r.b r.kind f.known f.x f.a f.b,
      λ h. fields_exactly.1 (fields_of h),
    )

    -- a formula that keeps its rule names lower ones
    pub parts_lower : FormulaRule nf size i r → PartsLower i r
    unfolding field_x field_a field_b
    parts_lower h = (λ t. grind (arith, common_steps), λ t. grind (arith, common_steps))
