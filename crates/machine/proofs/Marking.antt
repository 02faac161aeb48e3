-- The marks of the actions: those that records perform are readable, so that it can be told which may conflict, and each gets its mark.
-- Assumes nothing.
use Prim.Native.Nat.{ℕ, ◌<◌}
use mathlib.Core.Path.{◌≡◌, refl, sym, ◌∙◌, ap, subst}
use mathlib.Core.Bool.{Bool, true, false, false≢true}
use mathlib.Core.List.{List}
use native.Mathlib.Decide.{dec_lt}
use native.Mathlib.Omega.{arith}
use lib.ListN.{length, get_or, get_or-eq_default}
use Rattle.records.specs.Records.{program_at}
use Rattle.records.specs.Laid.{Laid}
use Rattle.state.specs.Exclusion.{MayConflict}
use Rattle.leaves.specs.Performed.{Performed}
use Rattle.machine.specs.declared.Shape.{Shape}
use Rattle.machine.specs.Ruled.{RuledOnce}
use Rattle.machine.specs.Told.{mark_of, Marks}

-- what a mark tells
mark_performed : (p c : Bool) → ¬ (mark_of p c ≡ 0) → p ≡ true
mark_performed true c n = refl
mark_performed false c n = absurd (n refl)

performed_mark : (p c : Bool) → p ≡ true → ¬ (mark_of p c ≡ 0)
performed_mark true true e z = omega arith
performed_mark true false e z = omega arith
performed_mark false c e z = false≢true e

mark_harmless : (p c : Bool) → mark_of p c ≡ 1 → (p ≡ true) × (c ≡ false)
mark_harmless true true e = absurd (omega arith)
mark_harmless true false e = (refl, refl)
mark_harmless false c e = absurd (omega arith)

module _ {formulas effects actions programs : List ℕ} {v : Shape} (R : RuledOnce formulas effects actions programs v)
    {performed : List Bool} (P : Performed (program_at programs) v.p performed) where
  -- what is marked is an action of the sheet
  known : (a : ℕ) → get_or performed a false ≡ true → a < v.a
  known a h = let (i, l, t, e) = P.only a h in subst (λ (b : ℕ). b < v.a) e (R.acts_known i l t)

module _ {formulas effects actions : List ℕ} (programs : List ℕ) {n : ℕ} {performed may : List Bool} (P : Performed (program_at programs) n performed)
    (M : MayConflict formulas effects actions performed may) {w marks : List ℕ}
    (L : Laid 0 (λ (a : ℕ). mark_of (get_or performed a false) (get_or may a false)) w marks 64) (long : length w ≡ 64) where
  abbrev mark : ℕ → ℕ
  mark a = mark_of (get_or performed a false) (get_or may a false)

  at : (a : ℕ) → ¬ (get_or marks a 0 ≡ 0) → get_or marks a 0 ≡ mark a
  at a h = go (dec_lt a 64)
    where
      go : Dec (a < 64) → get_or marks a 0 ≡ mark a
      go (yes l) = ap (λ (b : ℕ). get_or marks b 0) (omega arith) ∙ L.laid a l
      go (no l) = absurd (h (get_or-eq_default marks 0 (omega (arith, L.len))))

  pub marks_known : Marks formulas effects actions programs n marks
  marks_known = record {
    performed = λ a l (i, k, t, e) z.
        performed_mark (get_or performed a false) (get_or may a false) (subst (λ (b : ℕ). get_or performed b false ≡ true) e (P.all i k t (omega (arith, e))))
        (sym (ap (λ (b : ℕ). get_or marks b 0) (omega arith) ∙ L.laid a l) ∙ z);
    only = λ a h. P.only a (mark_performed (get_or performed a false) (get_or may a false) (λ z. h (at a h ∙ z)));
    harmless = λ a h.
        let (p, c) = mark_harmless (get_or performed a false) (get_or may a false) (sym (at a (λ z. omega arith)) ∙ h) in
        M.rest a p c;
  }
