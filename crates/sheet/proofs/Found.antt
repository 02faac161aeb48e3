-- What an inspection tells: an answer of the check and what was found, from the tests that led there, and back again. Assumes nothing.
use Prim.Native.Nat.{ℕ, ◌*◌, ◌≤◌}
use mathlib.Core.Path.{◌≡◌, refl, sym, ◌∙◌, ap, ap₂, subst}
use mathlib.Core.Bool.{Bool, true≢false}
use mathlib.Core.List.{List}
use lib.ListN.{length}
use Rattle.records.specs.Records.{ProgramTable}
use Rattle.sheet.specs.Layout.{layout_of, LaidOut, fluents_in, formulas_in, effects_in, actions_in, programs_in}
use Rattle.sheet.specs.Check.{names_in, check_of, Accepts, Checked, accepted_with}
use Rattle.sheet.specs.Inspection.{inspection_in, inspected_in, inspect_of, Of}
use Rattle.sheet.proofs.Accepted.{ruled, laid}
use Rattle.sheet.proofs.Parts.{InOrder, in_order, fluents_long, formulas_long, effects_long, actions_long, programs_long}
use Rattle.sheet.specs.declared.Layout.{Layout}
use Rattle.sheet.specs.declared.Refusal.{Refusal}
use Rattle.sheet.specs.declared.Inspection.{Inspection}
use Rattle.std.specs.Prelude.{Ok, Err}

-- from an inspection's answer back to the check's
module _ (s : List ℕ) where
  accepted_as : (x : Checked) {i : Inspection} → Ok i ≡ inspected_in s (layout_of s) x → ((w u : ℕ) × (x ≡ accepted_with w u)) × (i ≡ inspection_in s (layout_of s))
  accepted_as (Ok a) e = ((a.words, a.names, refl), cc)
  accepted_as (Err why) e = absurd (true≢false cc)

  refused_as : (x : Checked) {why : Refusal} → Err why ≡ inspected_in s (layout_of s) x → x ≡ Err why
  refused_as (Ok a) e = cc
  refused_as (Err why) e = cc

  pub found_of : {i : Inspection} → Ok i ≡ inspect_of s → Of s i
  found_of e =
      let a = accepted_as (check_of s) e in
      record {
        accepted = a.0;
        layout_is = ap (λ (i : Inspection). i.layout) a.1;
        interrupts_are = ap (λ (i : Inspection). i.interrupts) a.1;
        frame_is = ap (λ (i : Inspection). i.frame) a.1;
        words_are = ap (λ (i : Inspection). i.words) a.1;
      }

  pub refused_by : {why : Refusal} → Err why ≡ inspect_of s → check_of s ≡ Err why
  refused_by e = refused_as (check_of s) e

-- what was found of an accepted sheet
module _ {s : List ℕ} {i : Inspection} (O : Of s i) where
  pub in_sheet : LaidOut i.layout (length s)
  in_sheet = subst (λ (l : Layout). LaidOut l (length s)) (sym O.layout_is) (laid s O.accepted)

  -- what holds of a sheet's layout and interrupts holds of those that were found, and the other way
  pub by_found : (X : Layout → Bool → Type 0) → X (layout_of s) (inspection_in s (layout_of s)).interrupts → X i.layout i.interrupts
  by_found X x =
      subst (λ (l : Layout). X l i.interrupts) (sym O.layout_is) (subst (X (layout_of s)) (sym O.interrupts_are) x)

  pub of_found : (X : Layout → Bool → Type 0) → X i.layout i.interrupts → X (layout_of s) (inspection_in s (layout_of s)).interrupts
  of_found X x = subst (X (layout_of s)) O.interrupts_are (subst (λ (l : Layout). X l i.interrupts) O.layout_is x)

  -- the check answers with its words, and with the union of what its formulas name
  pub answered : check_of s ≡ accepted_with i.words (names_in s (layout_of s))
  answered = let a = O.accepted in a.2 ∙ ap₂ accepted_with ((ruled s a).figure ∙ sym O.words_are) (ruled s a).union

  pub answered_with : {u : ℕ} → u ≡ names_in s (layout_of s) → accepted_with i.words u ≡ check_of s
  answered_with e = sym (answered ∙ ap (accepted_with i.words) (sym e))

-- and from what was found to the inspection's answer
abbrev made : Layout → Bool → ℕ → ℕ → Inspection
made l b f w = record { layout = l; interrupts = b; frame = f; words = w }

module _ {s : List ℕ} {i : Inspection} (O : Of s i) where
  pub inspected_of : inspect_of s ≡ Ok i
  inspected_of =
      ap (inspected_in s (layout_of s)) (answered O)
      ∙ ap Ok (sym (ap₂ (λ (l : Layout) (b : Bool). made l b i.frame i.words) O.layout_is O.interrupts_are
      ∙ ap₂ (made (layout_of s) (inspection_in s (layout_of s)).interrupts) O.frame_is O.words_are))

-- what was found of a sheet that is opened
module _ (s : List ℕ) (i : Inspection) (e : inspect_of s ≡ Ok i) where
  pub found_from : Of s i
  found_from = found_of s (sym e)

  pub accepted_from : Accepts s
  accepted_from = found_from.accepted

  pub inspected_from : i ≡ inspection_in s (layout_of s)
  inspected_from = (accepted_as s (check_of s) (sym e)).1

  pub laid_from : LaidOut i.layout (length s)
  laid_from = in_sheet found_from

  pub ordered : InOrder i.layout (length s)
  ordered = in_order laid_from

  pub fluents_from : 2 * (layout_of s).f ≤ length (fluents_in s i.layout)
  fluents_from = rw (← found_from.layout_is) (fluents_long s i.layout laid_from).0

  pub formulas_from : 6 * (layout_of s).q ≤ length (formulas_in s i.layout)
  formulas_from = rw (← found_from.layout_is) (formulas_long s i.layout laid_from)

  pub effects_from : 4 * (layout_of s).e ≤ length (effects_in s i.layout)
  effects_from = rw (← found_from.layout_is) (effects_long s i.layout laid_from)

  pub actions_from : 6 * (layout_of s).a ≤ length (actions_in s i.layout)
  actions_from = rw (← found_from.layout_is) (actions_long s i.layout laid_from)

  pub programs_from : ProgramTable (programs_in s i.layout) (layout_of s).p
  programs_from = rw (← found_from.layout_is) (programs_long s i.layout laid_from)
