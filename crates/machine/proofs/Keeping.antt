-- What is told once stands in front of the sets, and those of the two depths stand apart: writing in one leaves the others. Assumes nothing.
use Prim.Native.Nat.{ℕ, ◌+◌, ◌%◌, ◌≤◌, ◌<◌}
use mathlib.Core.Path.{◌≡◌, sym, ◌∙◌, subst}
use mathlib.Core.List.{List}
use mathlib.Core.Logic.{◌⊎◌, inl, inr, ⊎_elim}
use native.Mathlib.Decide.{dec_lt}
use native.Mathlib.Omega.{arith}
use lib.ListN.{length}
use Rattle.golog.specs.declared.State.{State}
use Rattle.leaves.specs.Endable.{final_bounds_of}
use Rattle.leaves.specs.Distances.{distances_of}
use Rattle.enabled.specs.Spans.{spans_of}
use Rattle.positions.specs.Levels.{digits_of}
use mathlib.Core.Bool.{true}
use Rattle.machine.specs.declared.Shape.{Shape}
use Rattle.machine.specs.Tables.{window, Only, PutAt, spans_on, digits_on, distances_on, marks_on, told_places, sets_places, sets_from, sets_at, places, records_of, many_of}
use Rattle.machine.specs.Told.{Marks, Told, SetsKnown, StateTold}
use Rattle.machine.proofs.Windows.{earlier, only_in, only_then, window_before, window_behind}

module _ {o n : ℕ} {numbers numbers' : List ℕ} (P : Only o n numbers numbers') (len : length numbers' ≡ length numbers) (long : length numbers ≡ places) where
  pub spans_kept : 260 ≤ o → spans_on numbers' ≡ spans_on numbers
  spans_kept h = earlier o 260 numbers numbers' h P.before

  pub digits_kept : 520 ≤ o → digits_on numbers' ≡ digits_on numbers
  digits_kept h = window_before P len 260 260 h (omega arith)

  pub distances_kept : 780 ≤ o → distances_on numbers' ≡ distances_on numbers
  distances_kept h = window_before P len 520 260 h (omega arith)

  pub marks_kept : 844 ≤ o → marks_on numbers' ≡ marks_on numbers
  marks_kept h = window_before P len 780 64 h (omega arith)

  pub sets_kept : (d : ℕ) → (sets_from d + sets_places ≤ o) ⊎ (o + n ≤ sets_from d) → sets_at d numbers' ≡ sets_at d numbers
  sets_kept d = ⊎_elim (λ h. window_before P len (sets_from d) sets_places h (omega arith)) (λ h. window_behind P len (sets_from d) sets_places h)

-- what was told stands, where only words behind it were written
module _ {formulas effects actions programs : List ℕ} {v : Shape} {o n : ℕ} {numbers numbers' : List ℕ} (P : Only o n numbers numbers')
    (len : length numbers' ≡ length numbers) (h : told_places ≤ o) where
  pub told_kept : Told formulas effects actions programs v numbers → Told formulas effects actions programs v numbers'
  told_kept T = record {
    long = len ∙ T.long;
    spans_are = spans_kept P len T.long (omega arith) ∙ T.spans_are;
    digits_are = digits_kept P len T.long (omega arith) ∙ T.digits_are;
    distances_are = distances_kept P len T.long (omega arith) ∙ T.distances_are;
    marks_are = subst (Marks formulas effects actions programs v.p) (sym (marks_kept P len T.long (omega arith))) T.marks_are;
  }

  -- and what was told of a state, where its words were not
  pub state_kept :
      {fluents : List ℕ} {s : State} (d : ℕ) → (sets_from d + sets_places ≤ o) ⊎ (o + n ≤ sets_from d) → StateTold fluents formulas effects actions programs v s d numbers
      → StateTold fluents formulas effects actions programs v s d numbers'
  state_kept {fluents} {s} d apart S = record {
    told = told_kept S.told;
    sets_known = subst (SetsKnown fluents formulas effects actions programs v s) (sym (sets_kept P len S.told.long d apart)) S.sets_known;
  }

-- an even depth and an odd one
pub depths_apart : (d e : ℕ) → ¬ (d % 2 ≡ e % 2) → (sets_from d + sets_places ≤ sets_from e) ⊎ (sets_from e + sets_places ≤ sets_from d)
depths_apart d e z = go (dec_lt (d % 2) (e % 2))
  where
    go : Dec (d % 2 < e % 2) → (sets_from d + sets_places ≤ sets_from e) ⊎ (sets_from e + sets_places ≤ sets_from d)
    go (yes l) = inl (omega arith)
    go (no l) = inr (omega (arith, z))

at_put : {o n : ℕ} {x l l' : List ℕ} → PutAt o x l l' → length x ≡ n → window o n l' ≡ x
at_put {o} {n} {x} {l} {l'} P e = subst (λ (k : ℕ). window o k l' ≡ x) e P.here

-- the four tables are written one after the other
module _ {numbers n₁ n₂ n₃ n₄ spans digits distances marks : List ℕ} (long : length numbers ≡ places)
    (A : PutAt 0 spans numbers n₁) (B : PutAt 260 digits n₁ n₂) (C : PutAt 520 distances n₂ n₃) (D : PutAt 780 marks n₃ n₄)
    (al : length spans ≡ 260) (bl : length digits ≡ 260) (cl : length distances ≡ 260) (dl : length marks ≡ 64) where
  pub put_only : Only 0 told_places numbers n₄
  put_only =
      only_then (only_in (omega arith) (omega arith) A.only)
      (only_then (only_in (omega arith) (omega arith) B.only)
      (only_then (only_in (omega arith) (omega arith) C.only) (only_in (omega arith) (omega arith) D.only)))

  pub put_told :
      {formulas effects actions programs : List ℕ} {v : Shape} → spans ≡ spans_of (records_of programs v) (many_of v)
      → digits ≡ digits_of (records_of programs v) (many_of v) (final_bounds_of true (records_of programs v) (many_of v)) (spans_of (records_of programs v) (many_of v))
      → distances ≡ distances_of (records_of programs v) (many_of v) → Marks formulas effects actions programs v.p marks
      → Told formulas effects actions programs v n₄
  put_told {formulas} {effects} {actions} {programs} {v} a b c d =
      let l₁ = A.len ∙ long in
      let l₂ = B.len ∙ l₁ in
      let l₃ = C.len ∙ l₂ in
      record {
        long = D.len ∙ l₃;
        spans_are = spans_kept D.only D.len l₃ (omega arith) ∙ spans_kept C.only C.len l₂ (omega arith) ∙ spans_kept B.only B.len l₁ (omega arith)
            ∙ at_put A al ∙ a;
        digits_are = digits_kept D.only D.len l₃ (omega arith) ∙ digits_kept C.only C.len l₂ (omega arith) ∙ at_put B bl ∙ b;
        distances_are = distances_kept D.only D.len l₃ (omega arith) ∙ at_put C cl ∙ c;
        marks_are = subst (Marks formulas effects actions programs v.p) (sym (at_put D dl)) d;
      }
