-- What acceptance tells of each record: its rule as facts, that formulas and the links of program records name lower ones, and that none has
-- placeholders. Assumes nothing.
use mathlib.Core.Path.{◌≡◌}
use mathlib.Core.Bool.{true, false}
use mathlib.Core.List.{List}
use Prim.Native.Nat.{ℕ, ◌<◌}
use native.Mathlib.Omega.{arith}
use borrow.Author.Tests.{leb-true, ne_eqb}
use lib.Dec.{lt→ltb}
use Rattle.records.specs.Records.{formula_at, program_at}
use Rattle.records.specs.declared.Program.{Program}
use Rattle.records.proofs.Truth.{and_four}
use Rattle.kinds.specs.Programs.{picks, program_ok}
use Rattle.kinds.specs.Formulas.{LowerFormulas, PlainFormulas, formula_ok}
use Rattle.kinds.proofs.ProgramFields.{Fields, fields_exactly, program_exactly, links_lower}
use Rattle.kinds.proofs.FormulaFields.{formula_exactly, parts_lower}
use Rattle.rules.specs.Kept.{FluentKept, FormulaKept, EffectKept, ActionKept, ProgramKept}
use Rattle.rules.proofs.Kept.{fluent_exactly, effect_exactly, action_exactly}
use Rattle.height.specs.Down.{IsHeight}
use Rattle.height.specs.Height.{height_of}
use Rattle.height.proofs.Paths.{Lower, height_is_most}
use Rattle.sheet.specs.Layout.{layout_of, fluents_in, formulas_in, effects_in, actions_in, programs_in}
use Rattle.sheet.specs.Check.{Accepts}
use Rattle.sheet.proofs.Accepted.{ruled, laid}

-- where every program record keeps its rule, links lead to lower records
pub rules_lower : (nq na n : ℕ) (p : ℕ → Program) → ((i : ℕ) → i < n → program_ok nq na i (p i) ≡ true) → Lower p n
rules_lower nq na n p keeps i j l m = links_lower nq na i (p i) ((fields_exactly nq na i (p i)).0 (keeps i l)) j m

module _ (s : List ℕ) (accepted : Accepts s) where
  abbrev fluents : List ℕ
  fluents = fluents_in s (layout_of s)

  pub fluent_of_lem : (i : ℕ) → i < (layout_of s).f → FluentKept fluents i
  fluent_of_lem i l = (fluent_exactly _).0 ((ruled s accepted).fluent i l)

  pub formula_of : (i : ℕ) → i < (layout_of s).q → FormulaKept fluents (layout_of s).f (formulas_in s (layout_of s)) i
  formula_of i l = (formula_exactly _ _ _ _).0 ((ruled s accepted).formula i l)

  -- formulas name formulas with lower numbers
  pub lower_formulas : LowerFormulas (formulas_in s (layout_of s)) (layout_of s).q
  lower_formulas i l = parts_lower _ _ i _ (formula_of i l)

  -- and none has placeholders
  pub plain_formulas : PlainFormulas (formulas_in s (layout_of s)) (layout_of s).q
  unfolding formula_ok
  plain_formulas i l =
      let kind = (formula_at (formulas_in s (layout_of s)) i).kind in
      lt→ltb kind 8 (omega (arith, leb-true kind 7 (and_four _ _ _ _ ((ruled s accepted).formula i l)).0))

  pub effect_of : (i : ℕ) → i < (layout_of s).e → EffectKept fluents (layout_of s).f (layout_of s).q (effects_in s (layout_of s)) i
  effect_of i l = (effect_exactly _ _ _ _).0 ((ruled s accepted).effect i l)

  pub action_of : (i : ℕ) → i < (layout_of s).a → ActionKept (layout_of s).q (layout_of s).e (actions_in s (layout_of s)) i
  action_of i l = (action_exactly _ _ _).0 ((ruled s accepted).action i l)

  pub program_of : (i : ℕ) → i < (layout_of s).p → ProgramKept (layout_of s).q (layout_of s).a (programs_in s (layout_of s)) i
  program_of i l = (program_exactly _ _ _ _).0 ((ruled s accepted).program i l)

  -- the same by the roles of its fields
  pub fields_of : (i : ℕ) → i < (layout_of s).p → Fields (layout_of s).q (layout_of s).a i (program_at (programs_in s (layout_of s)) i)
  fields_of i l = (fields_exactly _ _ _ _).0 ((ruled s accepted).program i l)

  -- no program record chooses a value
  pub plain_records : (i : ℕ) → i < (layout_of s).p → picks (program_at (programs_in s (layout_of s)) i).kind ≡ false
  plain_records i l = let kind = (program_at (programs_in s (layout_of s)) i).kind in ne_eqb kind 12 (λ (e : kind ≡ 12). omega (arith, e, (fields_of i l).known))

  -- the links of program records lead to lower records
  pub lower : Lower (program_at (programs_in s (layout_of s))) (layout_of s).p
  lower = rules_lower _ _ _ _ (ruled s accepted).program

  -- the height is document 01's: some path down from the root has that many links, and none has more
  pub height_is_most_links : IsHeight (program_at (programs_in s (layout_of s))) (layout_of s).p (height_of (program_at (programs_in s (layout_of s))) (layout_of s).p)
  height_is_most_links = height_is_most _ _ lower (laid s accepted).some_record
