-- Sheets that differ in what no answer depends on, about the calls as a user makes them: under other notes (document 01), and with other
-- initial values of fluents that no formula names (document 02, F-5), planning and replay answer and leave the same. Assumes nothing.
use mathlib.Core.Path.{◌≡◌, refl, sym, ◌∙◌, ap, subst}
use mathlib.Core.Bool.{false, cond}
use mathlib.Core.List.{List}
use Prim.Native.Nat.{ℕ, ◌≤◌, ◌<◌}
use lib.Dec.{ltb}
use lib.ListN.{length, take, drop}
use lib.Seq.{take_at}
use Rattle.std.specs.Prelude.{Result, Ok, Err}
use Rattle.records.specs.Mask.{has_bit}
use Rattle.records.specs.Records.{fluent_at}
use Rattle.sheet.specs.Layout.{layout_of, fluents_in}
use Rattle.sheet.specs.Check.{Checked, accepted_with, refusal_of, check_of, Accepts}
use Rattle.sheet.specs.Notes.{FirstRecord, with_notes}
use Rattle.demands.specs.Decoded.{bound_of}
use Rattle.demands.specs.Planning as meant
use Rattle.demands.specs.Initials.{SameButInitials, with_initial}
use Rattle.demands.proofs.Alike.{AnsweredAlike, plan_same, replay_same}
use Rattle.demands.proofs.Notes.{notes_alike}
use Rattle.demands.proofs.Outside.{outside_alike}
use Rattle.demands.proofs.Initials.{initial_alone, initial_accepted}
use Rattle.sheet.specs.declared.Refusal.{Refusal}
use Rattle.planner.specs.Answers.{Stage, refused, searching, with_work, plan_stage, replay_stage, plan_checked, replay_checked}
use Rattle.planner.specs.Answers.{answer_as, plan_at, traced, trace_at, work_at, index_at, answer_of, trace_of, plan_work, index_of, Called}
use Rattle.planner.specs.Answers.{reply, replay_at, reply_of, replay_work}
use Rattle.planner.specs.Numbers.{plan_moves}
use Rattle.planner.specs.Sizes.{sized_as, sizes_of}
use Rattle.planner.specs.declared.Planned.{Planned}
use Rattle.planner.proofs.Demands.{answer_is, trace_is, reply_is}

-- with the same areas lent
module _ {s s' : List ℕ} (same : AnsweredAlike s s') where
  stage_same : (work trace : ℕ) → plan_stage s' work trace ≡ plan_stage s work trace
  stage_same work trace = ap (plan_checked s' work trace) same.check ∙ go (check_of s)
    where
      go : (c : Checked) → plan_checked s' work trace c ≡ plan_checked s work trace c
      go (Ok a) = ap (λ (b : ℕ). cond (ltb trace b) (refused (refusal_of 10 0)) (with_work work a.words)) same.bound
      go (Err why) = refl

  pub answer_same : (work trace : ℕ) → answer_of s' work trace ≡ answer_of s work trace
  unfolding answer_of
  answer_same work trace = ap (plan_at s') (stage_same work trace) ∙ go (plan_stage s work trace)
    where
      go : (c : Stage) → plan_at s' c ≡ plan_at s c
      go (refused why) = refl
      go (searching w) = ap answer_as (plan_same same)

  pub trace_same : (work : ℕ) (trace : List ℕ) → trace_of s' work trace ≡ trace_of s work trace
  unfolding trace_of
  trace_same work trace = ap (λ (c : Stage). trace_at s' c trace) (stage_same work (length trace)) ∙ go (plan_stage s work (length trace))
    where
      go : (c : Stage) → trace_at s' c trace ≡ trace_at s c trace
      go (refused why) = refl
      go (searching w) = ap (λ (a : meant.PlanAnswer). traced a trace) (plan_same same)

  pub reply_same : (h : List ℕ) (work : ℕ) → reply_of s' h work ≡ reply_of s h work
  unfolding reply_of
  reply_same h work = ap (λ (c : Checked). replay_at s' h (replay_checked work c)) same.check ∙ go (replay_stage s work)
    where
      go : (c : Stage) → replay_at s' h c ≡ replay_at s h c
      go (refused why) = refl
      go (searching w) = ap reply (replay_same same h)

  pub work_same : (work : List ℕ) (trace : ℕ) → (plan_work s' work trace ≡ plan_work s work trace) × (replay_work s' work ≡ replay_work s work)
  unfolding plan_work replay_work
  work_same work trace = (
    ap (λ (c : Stage). work_at c work) (stage_same (length work) trace),
    ap (λ (c : Checked). work_at (replay_checked (length work) c) work) same.check,
  )

  pub index_same : (work trace : ℕ) (index : List ℕ) → index_of s' work trace index ≡ index_of s work trace index
  unfolding index_of
  index_same work trace index = ap (λ (c : Stage). index_at c index) (stage_same work trace)

  pub sizes_same : sizes_of s' ≡ sizes_of s
  unfolding sizes_of
  sizes_same = ap (sized_as s') same.check ∙ go (check_of s)
    where
      go : (c : Checked) → sized_as s' c ≡ sized_as s c
      go (Ok a) = λ i. Ok (record { fluents = same.fluents i; bound = same.bound i })
      go (Err why) = refl

  -- two calls of `plan` that were lent the same answer the same and leave the same
  pub calls_same : (work trace index : List ℕ) (a a' : Result Planned Refusal) (work₁ trace₁ index₁ work₂ trace₂ index₂ : List ℕ)
      → Called s work trace index a work₁ trace₁ index₁ → Called s' work trace index a' work₂ trace₂ index₂
      → (a' ≡ a) × (work₂ ≡ work₁) × (trace₂ ≡ trace₁) × (index₂ ≡ index₁)
  calls_same work trace index a a' work₁ trace₁ index₁ work₂ trace₂ index₂ c c' = (
    c'.answered ∙ answer_same (length work) (length trace) ∙ sym c.answered,
    c'.in_work ∙ (work_same work (length trace)).0 ∙ sym c.in_work,
    c'.in_trace ∙ trace_same (length work) trace ∙ sym c.in_trace,
    c'.in_index ∙ index_same (length work) (length trace) index ∙ sym c.in_index,
  )

-- "Bytes before that point are notes, never interpreted": under any other notes
pub other_notes : (s other : List ℕ) → FirstRecord s → AnsweredAlike s (with_notes s other)
other_notes = notes_alike

-- Document 02, F-5: "Two accepted sheets that differ only in initial values of fluents outside the union get the same plan verdict, trace
-- and replay replies"
module _ (s s' : List ℕ) (w names : ℕ) (accepted : check_of s ≡ accepted_with w names) (accepted' : Accepts s') (but : SameButInitials names s s') where
  pub outside_same : AnsweredAlike s s'
  outside_same = outside_alike s (w, names, accepted) s' accepted' but

  -- each call with areas of its own, which are long enough and hold anything
  module _ (work work' : List ℕ) (enough : w ≤ length work) (enough' : w ≤ length work') where
    -- the same reply to every history
    pub outside_replied : (h : List ℕ) → reply_of s' h (length work') ≡ reply_of s h (length work)
    outside_replied h = reply_same outside_same h (length work') ∙ reply_is s w names accepted work' enough' h ∙ sym (reply_is s w names accepted work enough h)

    module _ (trace trace' : List ℕ) (long : bound_of s ≤ length trace) (long' : bound_of s ≤ length trace') where
      -- the same number, n and t
      pub outside_answered : answer_of s' (length work') (length trace') ≡ answer_of s (length work) (length trace)
      outside_answered =
          answer_same outside_same (length work') (length trace')
          ∙ answer_is s w names accepted work' enough' trace' long'
          ∙ sym (answer_is s w names accepted work enough trace long)

      -- the same n entries of the trace
      pub outside_traced :
          let n = plan_moves (answer_of s (length work) (length trace)) in take n (trace_of s' (length work') trace') ≡ take n (trace_of s (length work) trace)
      outside_traced =
          let n = plan_moves (answer_of s (length work) (length trace)) in
          let e = ap plan_moves (answer_is s w names accepted work enough trace long) in
          ap (take n) (trace_same outside_same (length work') trace' ∙ trace_is s w names accepted work' enough' trace' long')
          ∙ subst (λ (n : ℕ). take n (traced (meant.plan_of s) trace') ≡ take n (traced (meant.plan_of s) trace)) (sym e) (go (meant.plan_of s))
          ∙ sym (ap (take n) (trace_is s w names accepted work enough trace long))
        where
          go : (a : meant.PlanAnswer) → take (plan_moves (answer_as a)) (traced a trace') ≡ take (plan_moves (answer_as a)) (traced a trace)
          go (meant.found h t) = take_at h (drop (length h) trace') (length h) refl ∙ sym (take_at h (drop (length h) trace) (length h) refl)
          go (meant.PlanAnswer.refused why) = refl

-- such sheets exist: an accepted sheet and the same with another initial value, below the domain size, of a fluent outside the union
module _
    (s : List ℕ) (w names : ℕ) (accepted : check_of s ≡ accepted_with w names) (x v : ℕ) (known : x < (layout_of s).f)
    (below : v < (fluent_at (fluents_in s (layout_of s)) x).size) (outside : has_bit names x ≡ false) where
  pub initial_same : AnsweredAlike s (with_initial s x v)
  initial_same =
      outside_same s (with_initial s x v) w names accepted (w, names, initial_accepted s (w, names, accepted) x v known below ∙ accepted)
      (initial_alone s (w, names, accepted) x v known names outside)
