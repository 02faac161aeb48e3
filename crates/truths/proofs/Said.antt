-- A formula of a sheet that is written out holds, read in an environment, exactly if it says so there, kind by kind: the formulas that it
-- reads are lower, so the table of lower ones has what they say. Assumes nothing.
use Prim.Native.Nat.{ℕ, ◌<◌}
use mathlib.Core.Path.{◌≡◌, refl, sym, ap, ap₂, ◌∙◌}
use mathlib.Core.Bool.{Bool, false, not, ◌&&◌, ◌||◌}
use mathlib.Core.List.{List}
use mathlib.Core.Logic.{inl, inr}
use native.Mathlib.Omega.{arith}
use lib.ListN.{get_or}
use Rattle.records.specs.declared.Formula.{Formula}
use Rattle.records.specs.Records.{formula_at}
use Rattle.records.specs.Placeholders.{put, reading, put_in}
use Rattle.records.proofs.Some.{some_same, every_same}
use Rattle.kinds.specs.Truth.{truth_of}
use Rattle.kinds.specs.Formulas.{field_a, field_b}
use Rattle.kinds.proofs.FormulaKinds.{by_kind, formula_of}
use Rattle.sets.specs.Sets.{Has}
use Rattle.records.proofs.Placeholders.{put_small, put_reading, read_in_lem, environment_of_lem, reading_lower}
use Rattle.sets.proofs.Members.{has_by}
use Rattle.golog.specs.declared.State.{State}
use Rattle.golog.specs.World.{World, truths, holds}
use Rattle.golog.specs.Written.{formula_read}
use Rattle.golog.proofs.Truths.{holds_is, holds_at}
use Rattle.truths.specs.Held.{Ruled, WrittenFrom, HoldsIn}
use Rattle.truths.specs.Evaluated.{said_in}

-- formula q with these fields, read in e
module _ (says : (q d : ℕ) → Bool) (values : List ℕ) (lower : List Bool) (q e x a b : ℕ) (few : e < 256)
    (right : (j d : ℕ) → j < q → d < 256 → get_or lower (reading j d) false ≡ says j d) where
  -- formula a with a value in placeholder b
  inner : (v : ℕ) → a < q → v < 16 → get_or lower (put_in (reading a e) b v) false ≡ says a (put e b v)
  inner v l h = ap (λ (n : ℕ). get_or lower n false) (put_reading e few a b v) ∙ right a (put e b v) l (put_small e few b v)

  read_said : (kind : ℕ) → Ruled q (formula_of kind x a b) → truth_of (formula_read e (formula_of kind x a b)) values lower ≡ said_in says (formula_of kind x a b) values e
  unfolding truth_of formula_read said_in field_a field_b
  read_said =
      by_kind
      (λ (kind : ℕ). Ruled q (formula_of kind x a b) → truth_of (formula_read e (formula_of kind x a b)) values lower ≡ said_in says (formula_of kind x a b) values e)
      (λ R. refl) (λ R. refl) (λ R. refl) (λ R. refl) (λ R. refl)
      -- 5 not a
      (λ R. ap not (right a e (R.lower.0 tt) few))
      -- 6 a and b
      (λ R. ap₂ (λ (m n : Bool). m && n) (right a e (R.lower.0 tt) few) (right b e (R.lower.1 tt) few))
      -- 7 a or b
      (λ R. ap₂ (λ (m n : Bool). m || n) (right a e (R.lower.0 tt) few) (right b e (R.lower.1 tt) few))
      (λ R. refl)
      -- 9 for some value below x in placeholder b, a
      (λ R. some_same _ _ x 0 (λ v (l, h). let few-values = (R.bound (inl refl)).0 in inner v (R.lower.0 tt) (omega arith)))
      -- 10 for every value below x in placeholder b, a
      (λ R. every_same _ _ x 0 (λ v (l, h). let few-values = (R.bound (inr refl)).0 in inner v (R.lower.0 tt) (omega arith)))
      (λ k R. refl)

-- what each formula says in each environment
abbrev pub says : World → State → (q d : ℕ) → Bool
says W s q d = holds W (reading q d) s

module _ (W : World) (s : State) (t : List ℕ) (of : WrittenFrom t W) (q : ℕ) (R : Ruled q (formula_at t q)) where
  pub held : (e : ℕ) → e < 256 → holds W (reading q e) s ≡ said_in (says W s) (formula_at t q) s.values e
  held e few =
      let r = formula_at t q in
      let n = reading q e in
      let lower = truths W s.values n in
      holds_is W s n
      ∙ ap (λ (f : Formula). truth_of f s.values lower)
      (of n ∙ ap₂ (λ (d i : ℕ). formula_read d (formula_at t i)) (environment_of_lem e few q) (read_in_lem e few q))
      ∙ read_said (says W s) s.values lower q e r.x r.a r.b few (λ j d l h. holds_at W s n (reading j d) (reading_lower j q d e l h)) r.kind R

  pub said_held : {set : List ℕ} → Has (said_in (says W s) (formula_at t q) s.values) set → HoldsIn W s q set
  said_held h = has_by h (λ e l. sym (held e l))
