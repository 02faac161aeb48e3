-- The fields of a program record by their roles. A test decides each role; a record whose kind is known and whose fields keep their roles
-- keeps document 01's rule, and conversely, kind by kind; the fields that are program records are the links. So what a role
-- tells of a field, acceptance tells of it. Assumes nothing.
use Rattle.std.proofs.lemmas.Grind.{common_steps}
use mathlib.Core.Path.{◌≡◌, refl}
use mathlib.Core.Bool.{Bool, true, false}
use mathlib.Core.List.Memᴰ
use mathlib.Core.List.{List, [], Memᴰ}
use mathlib.Core.Logic.{◌⊎◌, inl, inr, ⊎_elim, ◌↔◌}
use Prim.Native.Nat.{ℕ, ◌≤◌, ◌<◌}
use native.Mathlib.Omega.{arith}
use borrow.Author.Tests.{leb-true, le-leb}
use lib.Dec.{T}
use Rattle.records.specs.declared.Program.{Program}
use Rattle.records.proofs.Truth.{and_four, and_both}
use Rattle.kinds.specs.declared.programs.Field.{Field}
use Rattle.kinds.specs.declared.programs.Field.TheVariants.{Unused, Action, Formula, Record, Choices, Placeholder}
use Rattle.kinds.specs.Rules.{ProgramRule, Link}
use Rattle.kinds.specs.Programs.{field_a, field_b, field_c, field_ok, program_ok, is_action, is_formula, is_record, has_a, has_b, link_if, links}
use Rattle.kinds.proofs.ProgramKinds.{record_of}

module _ (nq na i : ℕ) where
  -- a field keeps its role, as a statement
  abbrev pub FieldRule : Field → ℕ → Type 0
  FieldRule Unused x = x ≡ 0
  FieldRule Action x = x < na
  FieldRule Formula x = x < nq
  FieldRule Record x = x < i
  FieldRule Choices x = (1 ≤ x) × (x ≤ 16)
  FieldRule Placeholder x = x < 2

  -- the kind is known, and each field keeps its role
  pub record Fields (r : Program) : Type 0 where
    pub known : r.kind ≤ 11
    pub a : FieldRule (field_a r.kind) r.a
    pub b : FieldRule (field_b r.kind) r.b
    pub c : FieldRule (field_c r.kind) r.c

  field_exactly : (f : Field) (x : ℕ) → (field_ok nq na i f x ≡ true) ↔ FieldRule f x
  field_exactly f x = grind (arith, common_steps)

  -- what a role tells
  pub action_below : (f : Field) {x : ℕ} → FieldRule f x → T (is_action f) → x < na
  action_below f k t = grind (arith, common_steps)

  pub formula_below : (f : Field) {x : ℕ} → FieldRule f x → T (is_formula f) → x < nq
  formula_below f k t = grind (arith, common_steps)

  pub record_below : (f : Field) {x : ℕ} → FieldRule f x → T (is_record f) → x < i
  record_below f k t = grind (arith, common_steps)

  -- document 01's rule of each kind, from the roles
  rule_of : (a b c kind : ℕ) → kind ≤ 11 → FieldRule (field_a kind) a → FieldRule (field_b kind) b → FieldRule (field_c kind) c → ProgramRule nq na i (record_of kind a b c)
  unfolding field_a field_b field_c
  rule_of a b c kind l p q r = grind (arith, common_steps)

  module _ (r : Program) where
    a_exactly : (field_ok nq na i (field_a r.kind) r.a ≡ true) ↔ FieldRule (field_a r.kind) r.a
    a_exactly = field_exactly (field_a r.kind) r.a

    b_exactly : (field_ok nq na i (field_b r.kind) r.b ≡ true) ↔ FieldRule (field_b r.kind) r.b
    b_exactly = field_exactly (field_b r.kind) r.b

    c_exactly : (field_ok nq na i (field_c r.kind) r.c ≡ true) ↔ FieldRule (field_c r.kind) r.c
    c_exactly = field_exactly (field_c r.kind) r.c

    pub fields_exactly : (program_ok nq na i r ≡ true) ↔ Fields r
    unfolding program_ok
    fields_exactly = (
      λ e. let t = and_four _ _ _ _ e in record { known = leb-true _ _ t.0; a = a_exactly.0 t.1; b = b_exactly.0 t.2; c = c_exactly.0 t.3 },
      λ f. and_both _ _ (and_both _ _ (and_both _ _ (le-leb _ _ f.known) (a_exactly.1 f.a)) (b_exactly.1 f.b)) (c_exactly.1 f.c),
    )

    fields_of : ProgramRule nq na i r → Fields r
    unfolding field_a field_b field_c
    fields_of h = record { known = grind (arith, common_steps); a = grind (arith, common_steps); b = grind (arith, common_steps); c = grind (arith, common_steps) }

    pub program_exactly : (program_ok nq na i r ≡ true) ↔ ProgramRule nq na i r
    program_exactly = (
      λ e. let f = fields_exactly.0 e in rule_of r.a r.b r.c r.kind f.known f.a f.b f.c,
      λ h. fields_exactly.1 (fields_of h),
    )

-- a link stands in the list where its field is a program record
module _ (r : Program) where
  in_link : (b : Bool) (a : ℕ) (more : List ℕ) {j : ℕ} → Memᴰ j (link_if b a more) → (T b × (j ≡ a)) ⊎ Memᴰ j more
  in_link b a more k = grind (arith, common_steps)

  here : (b : Bool) (a : ℕ) (more : List ℕ) {j : ℕ} → T b → j ≡ a → Memᴰ j (link_if b a more)
  here true a more t e = Memᴰ.head e
  here false a more t e = absurd t

  behind : (b : Bool) (a : ℕ) (more : List ℕ) {j : ℕ} → Memᴰ j more → Memᴰ j (link_if b a more)
  behind true a more k = Memᴰ.tail k
  behind false a more k = k

  pub links_exactly : (j : ℕ) → Memᴰ j (links r) ↔ ((T (has_a r.kind) × (j ≡ r.a)) ⊎ (T (has_b r.kind) × (j ≡ r.b)))
  unfolding links
  links_exactly j = (
    λ k. ⊎_elim inl (λ m. ⊎_elim inr (λ n. absurd (Memᴰ.not-nil n)) (in_link (has_b r.kind) r.b [] m)) (in_link (has_a r.kind) r.a _ k),
    ⊎_elim (λ (t, e). here (has_a r.kind) r.a _ t e) (λ (t, e). behind (has_a r.kind) r.a _ (here (has_b r.kind) r.b [] t e)),
  )

  pub link_a : T (has_a r.kind) → Memᴰ r.a (links r)
  link_a t = (links_exactly r.a).1 (inl (t, refl))

  pub link_b : T (has_b r.kind) → Memᴰ r.b (links r)
  link_b t = (links_exactly r.b).1 (inr (t, refl))

-- links of a record whose fields keep their roles lead to lower records
pub links_lower : (nq na i : ℕ) (r : Program) → Fields nq na i r → (j : ℕ) → Memᴰ j (links r) → j < i
links_lower nq na i r f j k =
    ⊎_elim (λ (t, e). omega (arith, record_below nq na i (field_a r.kind) f.a t)) (λ (t, e). omega (arith, record_below nq na i (field_b r.kind) f.b t))
    ((links_exactly r j).0 k)

-- the links listed are those of the rules
pub link_exactly : (r : Program) (j : ℕ) → Memᴰ j (links r) ↔ Link r j
unfolding field_a field_b
link_exactly r j = (λ m. grind (arith, common_steps, (links_exactly r j).0 m), λ l. (links_exactly r j).1 (grind (arith, common_steps)))
