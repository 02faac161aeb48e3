-- Notes are never interpreted: under any other notes the trailer, the tables and the check are the same. Every part from the first
-- record on moves with the notes' length. Assumes nothing.
use mathlib.Core.Path.{◌≡◌, sym, ◌∙◌, ap, ap₂}
use mathlib.Core.Bool.{not, cond, ◌&&◌}
use mathlib.Core.List.{List, ◌++◌}
use Prim.Native.Nat.{ℕ, ◌+◌, ◌-◌, ◌≤◌}
use native.Mathlib.Omega.{arith}
use borrow.Author.Tests.{le-ltb, le-leb}
use lib.ListN.{length, take, drop, length-append, length-drop, take-append-drop}
use lib.Seq.{drop-append-add, drop-drop, take_at}
use lib.Dec.{eqb}
use Rattle.records.specs.Bytes.{part}
use Rattle.sheet.specs.Trailer.{trailer_in, trailer_of, limits_ok, record_bytes, distance_ok}
use Rattle.sheet.specs.Layout.{layout_in, layout_of, fluents_in, formulas_in, effects_in, actions_in, programs_in}
use Rattle.sheet.specs.Check.{refused, trailer_checked, check_of, Accepts, Checked}
use Rattle.sheet.specs.Notes.{notes_count, notes_of, FirstRecord, with_notes}
use Rattle.sheet.specs.declared.Trailer.{Trailer}
use Rattle.sheet.specs.declared.Layout.{Layout}
use Rattle.sheet.proofs.Accepted.{trailed}
use Rattle.sheet.proofs.Tables.{SameTables, sizes_same, checked_same}

module _ (s notes : List ℕ) (first : FirstRecord s) where
  abbrev at : ℕ
  at = (layout_of s).fluents

  abbrev room : ℕ
  room = length s - 18

  -- the first record stands as far ahead of the trailer as the distance says
  back : at + (trailer_of s).distance ≡ room
  unfolding layout_of layout_in
  back = let r = first.room in omega arith

  len : length (with_notes s notes) ≡ length notes + ((trailer_of s).distance + 18)
  unfolding with_notes
  len = let l = first.long in let b = back in simp (length-append, length-drop) (omega arith)

  -- a part from the first record on moves with the notes' length
  moved : (a e a' e' : ℕ) → at ≤ a → a' + at ≡ length notes + a → e' + at ≡ length notes + e → part (with_notes s notes) a' e' ≡ part s a e
  unfolding with_notes
  moved a e a' e' l p q =
      let behind : a' ≡ length notes + (a - at) = omega arith in
      let size : e' - a' ≡ e - a = omega arith in
      let back-again : at + (a - at) ≡ a = omega arith in
      ap₂ take size
      (ap (λ (n : ℕ). drop n (notes ++ drop at s)) behind
      ∙ drop-append-add notes (drop at s) (a - at)
      ∙ drop-drop (a - at) at s
      ∙ ap (λ (n : ℕ). drop n s) back-again)

  -- so the trailer and the tables are the same
  trailer_same : trailer_of (with_notes s notes) ≡ trailer_of s
  trailer_same =
      let n = length (with_notes s notes) in
      let l = first.long in
      let b = back in
      let k = len in
      ap trailer_in (moved room (length s) (n - 18) n (omega arith) (omega arith) (omega arith))

  layout_same : layout_of (with_notes s notes) ≡ layout_in (trailer_of s) (length notes + (trailer_of s).distance)
  unfolding layout_of
  layout_same =
      let k = len in
      let r : length (with_notes s notes) - 18 ≡ length notes + (trailer_of s).distance = omega arith in
      ap₂ layout_in trailer_same r

  pub tables_same : SameTables s (with_notes s notes)
  unfolding layout_of layout_in
  tables_same =
      let x = with_notes s notes in
      let l = layout_same in
      let m = layout_in (trailer_of s) (length notes + (trailer_of s).distance) in
      let o = layout_of s in
      record {
        rest = record {
          f = ap (λ (l : Layout). l.f) l;
          q = ap (λ (l : Layout). l.q) l;
          e = ap (λ (l : Layout). l.e) l;
          a = ap (λ (l : Layout). l.a) l;
          p = ap (λ (l : Layout). l.p) l;
          formulas = ap (formulas_in x) l ∙ moved o.formulas o.effects m.formulas m.effects (omega arith) (omega arith) (omega arith);
          effects = ap (effects_in x) l ∙ moved o.effects o.actions m.effects m.actions (omega arith) (omega arith) (omega arith);
          actions = ap (actions_in x) l ∙ moved o.actions o.programs m.actions m.programs (omega arith) (omega arith) (omega arith);
          programs = ap (programs_in x) l ∙ moved o.programs o.end m.programs m.end (omega arith) (omega arith) (omega arith);
        };
        fluents = ap (fluents_in x) l ∙ moved o.fluents o.formulas m.fluents m.formulas (omega arith) (omega arith) (omega arith);
      }

  start_after : (layout_of (with_notes s notes)).fluents ≡ length notes
  unfolding layout_in
  start_after = ap (λ (l : Layout). l.fluents) layout_same ∙ omega arith

  pub bound_same : (layout_of (with_notes s notes)).d ≡ (layout_of s).d
  unfolding layout_of layout_in
  bound_same = ap (λ (l : Layout). l.d) layout_same

  -- under any notes there is room for the distance
  distance_same : distance_ok (trailer_of (with_notes s notes)) (length (with_notes s notes) - 18) ≡ distance_ok (trailer_of s) room
  unfolding distance_ok
  distance_same =
      let k = len in
      let e = ap (λ (t : Trailer). t.distance) trailer_same in
      let fits = le-leb (trailer_of (with_notes s notes)).distance (length (with_notes s notes) - 18) (omega arith) in
      let fitted = fits ∙ sym (le-leb (trailer_of s).distance room first.room) in
      λ i. eqb (trailer_same i).distance (record_bytes (trailer_same i)) && fitted i

  -- "Bytes before that point are notes, never interpreted": the check answers the same
  pub check_same : check_of (with_notes s notes) ≡ check_of s
  unfolding check_of trailer_checked layout_of
  check_same =
      let k = len in
      simp (le-ltb (length s) 18 first.long, le-ltb (length (with_notes s notes)) 18 (omega arith))
      (λ i.
      cond (not (eqb (trailer_same i).magic 0x5142)) (refused 1 0)
      (cond (not (limits_ok (trailer_same i))) (refused 2 0)
      (cond (not (distance_same i)) (refused 3 0) (checked_same (sizes_same tables_same) bound_same i))))

-- an accepted sheet has a first record
pub accepted_first : (s : List ℕ) → Accepts s → FirstRecord s
accepted_first s accepted = let t = trailed s accepted in record { long = t.long; room = t.room }

module _ (s : List ℕ) (accepted : Accepts s) where
  -- "The notes are handed back as that part of the sheet": those put in are
  pub notes_put : (notes : List ℕ) → notes_of (with_notes s notes) ≡ notes
  unfolding with_notes
  notes_put notes =
      let x = with_notes s notes in
      let first = accepted_first s accepted in
      ap (λ (c : Checked). take (notes_count x c) x) (check_same s notes first ∙ accepted.2)
      ∙ take_at notes (drop (layout_of s).fluents s) (layout_of x).fluents (sym (start_after s notes first))

  -- and the sheet's own put in change nothing
  pub notes_own : with_notes s (notes_of s) ≡ s
  unfolding with_notes
  notes_own = rw accepted.2 (take-append-drop (layout_of s).fluents s)
