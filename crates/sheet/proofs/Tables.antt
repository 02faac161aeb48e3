-- Two sheets with the same tables are checked alike by numbers 4 to 9: the verdict reads the counts and the tables alone, of the fluents'
-- table only the domain sizes and whether each record keeps its rule, and only the figure reads the bound. Assumes nothing.
use mathlib.Core.Path.{◌≡◌, refl, sym, ◌∙◌, ap}
use mathlib.Core.Bool.{Bool, true, false, cond}
use mathlib.Core.List.{List}
use Prim.Native.Nat.{ℕ}
use lib.Dec.{ltb}
use Rattle.records.specs.Lowest.{lowest}
use Rattle.records.specs.Records.{fluent_at, formula_at, effect_at, program_at}
use Rattle.records.specs.declared.Program.{Program}
use Rattle.kinds.specs.Formulas.{formula_ok}
use Rattle.rules.specs.Rules.{effect_ok}
use Rattle.rules.specs.Tables.{fluents_ok, actions_ok, programs_ok}
use Rattle.height.specs.Height.{height_of}
use Rattle.height.specs.Work.{levels, work_words}
use Rattle.named.specs.Named.{table_set}
use Rattle.sheet.specs.Layout.{layout_of, fluents_in, formulas_in, effects_in, actions_in, programs_in}
use Rattle.sheet.specs.Check.{refused, refused_at, tables_checked, names_in, height_checked, records_checked, Checked, accepted_with}
use Rattle.sheet.specs.declared.Layout.{Layout}
use Rattle.std.specs.Prelude.{Ok, Err}

-- as many records in each table, and the same bytes in it but for the fluents'
pub record SameRest (s s' : List ℕ) : Type 0 where
  pub f : (layout_of s').f ≡ (layout_of s).f
  pub q : (layout_of s').q ≡ (layout_of s).q
  pub e : (layout_of s').e ≡ (layout_of s).e
  pub a : (layout_of s').a ≡ (layout_of s).a
  pub p : (layout_of s').p ≡ (layout_of s).p
  pub formulas : formulas_in s' (layout_of s') ≡ formulas_in s (layout_of s)
  pub effects : effects_in s' (layout_of s') ≡ effects_in s (layout_of s)
  pub actions : actions_in s' (layout_of s') ≡ actions_in s (layout_of s)
  pub programs : programs_in s' (layout_of s') ≡ programs_in s (layout_of s)

-- and the same bytes of the fluents
pub record SameTables (s s' : List ℕ) : Type 0 where
  pub rest : SameRest s s'
  pub fluents : fluents_in s' (layout_of s') ≡ fluents_in s (layout_of s)

-- or else fluents with the same domain sizes, which keep their rules alike
pub record SameSizes (s s' : List ℕ) : Type 0 where
  pub rest : SameRest s s'
  pub sizes : (x : ℕ) → (fluent_at (fluents_in s' (layout_of s')) x).size ≡ (fluent_at (fluents_in s (layout_of s)) x).size
  pub kept : (x : ℕ) → fluents_ok (fluents_in s' (layout_of s')) x ≡ fluents_ok (fluents_in s (layout_of s)) x

pub sizes_same : {s s' : List ℕ} → SameTables s s' → SameSizes s s'
sizes_same same =
    record { rest = same.rest; sizes = λ x i. (fluent_at (same.fluents i) x).size; kept = λ x i. fluents_ok (same.fluents i) x }

-- the same formulas name the same fluents
pub names_same : {s s' : List ℕ} → SameRest s s' → names_in s' (layout_of s') ≡ names_in s (layout_of s)
names_same same = λ i. table_set (formula_at (same.formulas i)) (same.q i)

-- the figure of a sheet's tables for a bound
abbrev pub figure_of : List ℕ → (d : ℕ) → ℕ
figure_of s d = work_words (levels (program_at (programs_in s (layout_of s))) (layout_of s).p) d

-- an answer, with another figure where it accepts
abbrev pub figured : (w : ℕ) → Checked → Checked
figured w (Ok a) = accepted_with w a.names
figured w (Err why) = Err why

-- a number is given before any figure
number_first : (w : ℕ) (b : Bool) (n p : ℕ) (x : Checked) → cond b (refused n p) (figured w x) ≡ figured w (cond b (refused n p) x)
number_first w true n p x = refl
number_first w false n p x = refl

-- the heights of the same records
height_alike :
    (s s' : List ℕ) (l l' : Layout) → programs_in s' l' ≡ programs_in s l → l'.p ≡ l.p → names_in s' l' ≡ names_in s l
    → height_checked s' l' ≡ figured (work_words (levels (program_at (programs_in s l)) l.p) l'.d) (height_checked s l)
unfolding height_checked
height_alike s s' l l' t n u =
    let w : (ℕ → Program) → ℕ → (d : ℕ) → ℕ = λ p n d. work_words (levels p n) d in
    (λ i. cond (ltb 16 (height_of (program_at (t i)) (n i))) (refused 9 0) (accepted_with (w (program_at (t i)) (n i) l'.d) (u i)))
    ∙ number_first (w (program_at (programs_in s l)) l.p l'.d) (ltb 16 (height_of (program_at (programs_in s l)) l.p)) 9 0
    (accepted_with (w (program_at (programs_in s l)) l.p l.d) (names_in s l))

-- a table in which the same record is the lowest faulty one, and then the same answer
table_alike :
    (w number : ℕ) {i i' n n' : ℕ} (x : Checked) {x' : Checked}
    → i' ≡ i
    → n' ≡ n
    → x' ≡ figured w x
    → refused_at number i' n' x' ≡ figured w (refused_at number i n x)
unfolding refused_at
table_alike w number {i} {i'} {n} {n'} x at count next =
    (λ k. cond (ltb (at k) (count k)) (refused number (at k)) (next k)) ∙ number_first w (ltb i n) number i x

itself : (s : List ℕ) → SameSizes s s
itself s =
    let rest : SameRest s s = record { f = refl; q = refl; e = refl; a = refl; p = refl; formulas = refl; effects = refl; actions = refl; programs = refl } in
    record { rest = rest; sizes = λ x. refl; kept = λ x. refl }

module _ {s s' : List ℕ} (same : SameSizes s s') where
  -- the verdict is the same, with the figure for the second sheet's bound: a formula and an effect read the domain size of a fluent alone
  pub checked_alike : records_checked s' (layout_of s') ≡ figured (figure_of s (layout_of s').d) (records_checked s (layout_of s))
  unfolding tables_checked
  checked_alike =
      let w = figure_of s (layout_of s').d in
      let r = same.rest in
      table_alike w 4 _ (λ k. lowest (λ (x : ℕ). same.kept x k) (r.f k)) r.f
      (table_alike w 5 _ (λ k. lowest (λ (i : ℕ). formula_ok (r.f k) (same.sizes (formula_at (r.formulas k) i).x k) i (formula_at (r.formulas k) i)) (r.q k)) r.q
      (table_alike w 6 _ (λ k. lowest (λ (i : ℕ). effect_ok (r.f k) (r.q k) (same.sizes (effect_at (r.effects k) i).fluent k) (effect_at (r.effects k) i)) (r.e k)) r.e
      (table_alike w 7 _ (λ k. lowest (actions_ok (r.q k) (r.e k) (r.actions k)) (r.a k)) r.a
      (table_alike w 8 _ (λ k. lowest (programs_ok (r.q k) (r.a k) (r.programs k)) (r.p k)) r.p
      (height_alike s s' (layout_of s) (layout_of s') r.programs r.p (names_same r))))))

-- with the same bound the figure is the same too
pub checked_same :
    {s s' : List ℕ}
    → SameSizes s s'
    → (layout_of s').d ≡ (layout_of s).d
    → records_checked s' (layout_of s') ≡ records_checked s (layout_of s)
checked_same {s} {s'} same bound =
    checked_alike same
    ∙ ap (λ (d : ℕ). figured (figure_of s d) (records_checked s (layout_of s))) bound
    ∙ sym (checked_alike (itself s))
