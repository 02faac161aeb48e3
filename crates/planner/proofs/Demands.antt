-- Demands 1, 2 and 3 of the mission and F-1 and F-4 of document 02, about the calls `plan` and `replay` as a user makes them: sheet, lent
-- work, trace and index in; answer and final content of the lent slices out. The contracts in src/lib.rt say that the calls equal answer_of,
-- trace_of, plan_work, index_of, reply_of and replay_work (specs/Answers.antt); the theorems here say what those are, in the demands' words.
-- Assumes nothing.
use mathlib.Core.Path.{◌≡◌, refl, sym, ◌∙◌, ap, ap₂, subst}
use mathlib.Core.Bool.{Bool, true, false, cond}
use mathlib.Core.List.{List, [], ◌++◌, Memᴰ}
use mathlib.Core.Logic.Iff
use mathlib.Core.Logic.{◌⊎◌, ◌↔◌, inl, inr, ⊎_elim}
use Prim.Native.Nat.{ℕ, ◌≤◌, ◌<◌}
use native.Mathlib.Omega.{arith}
use borrow.Author.Tests.{lt-ltb, le-ltb}
use lib.Dec.{ltb}
use lib.ListN.{length, take, drop, replicate}
use lib.Seq.{take_at, drop_at}
use Rattle.std.specs.Prelude.{Result, Ok, Err}
use Rattle.runs.specs.Search.{Verdict, plan, nothing, more}
use Rattle.height.specs.Work.{work_words}
use Rattle.sheet.specs.Check.{Checked, accepted_with, refusal_of, check_of}
use Rattle.sheet.specs.declared.Refusal.{Refusal}
use Rattle.sheet.proofs.Numbers.{Numbered, numbered}
use Rattle.demands.specs.Decoded.{bound_of, levels_of}
use Rattle.demands.specs.Planning as meant
use Rattle.demands.specs.Planning.{plan_of, replay_of, answer, verdict_of, accepts_of}
use Rattle.demands.specs.Planning.{RunEndsFinal, HistoryOfRun, NoPlanAtAll, NoPlanWithinBound, NoRunEndsFinal, RunOf, FirstPlan}
use Rattle.demands.specs.Entries.{KnownEntry}
use Rattle.demands.specs.Raised.{with_bound}
use Rattle.demands.proofs.Demands.{plan_is, replay_is, history_accepted, history_refused, plan_accepted_history, plan_transitions_lem, first_exactly}
use Rattle.demands.proofs.Demands.{plan_exactly, thirteen_exactly, thirteen_none_ends, fourteen_exactly}
use Rattle.demands.proofs.Demands.{raised_alone, raised_accepted, raised_plan_stays, raised_first_stays, raised_thirteen_stays}
use Rattle.demands.proofs.Entries.{unknown_entry_no}
use Rattle.planner.specs.Answers.{Stage, refused, searching, plan_stage, replay_stage, plan_checked, replay_checked}
use Rattle.planner.specs.Answers.{answer_as, plan_at, traced, trace_at, work_at, index_at, answer_of, trace_of, plan_work, index_of, Called}
use Rattle.planner.specs.Answers.{reply, replay_at, reply_of, replay_work}
use Rattle.planner.specs.Numbers.{plan_number, plan_moves, plan_transitions, reply_number, reply_yes, sizes_bound}
use Rattle.planner.specs.Sizes.{sized_as, sizes_of}
use Rattle.planner.specs.declared.Planned.{Planned}

-- Demand 1: "turns away what it can't use by a number; what it returns and leaves in each lent slice is written down"

-- a sheet with a cause of 1 to 9: that number and place, all else untouched, whatever was lent
module _ (s : List ℕ) (why : Refusal) (cause : check_of s ≡ Err why) where
  sheet_stage : (work trace : ℕ) → plan_stage s work trace ≡ refused why
  sheet_stage work trace = ap (plan_checked s work trace) cause

  pub sheet_refused : (work trace : ℕ) → answer_of s work trace ≡ Err why
  unfolding answer_of
  sheet_refused work trace = ap (plan_at s) (sheet_stage work trace)

  pub sheet_refused_reply : (h : List ℕ) (work : ℕ) → reply_of s h work ≡ Err why
  unfolding reply_of
  sheet_refused_reply h work = ap (λ (c : Stage). replay_at s h c) (ap (replay_checked work) cause)

  pub sheet_untouched : (work trace index : List ℕ) → (trace_of s (length work) trace ≡ trace) × (plan_work s work (length trace) ≡ work) ×
      (index_of s (length work) (length trace) index ≡ index) × (replay_work s work ≡ work)
  unfolding trace_of plan_work index_of replay_work
  sheet_untouched work trace index = (
    ap (λ (c : Stage). trace_at s c trace) (sheet_stage (length work) (length trace)),
    ap (λ (c : Stage). work_at c work) (sheet_stage (length work) (length trace)),
    ap (λ (c : Stage). index_at c index) (sheet_stage (length work) (length trace)),
    ap (λ (c : Stage). work_at c work) (ap (replay_checked (length work)) cause),
  )

-- an accepted sheet, whose figure is w
module _ (s : List ℕ) (w names : ℕ) (accepted : check_of s ≡ accepted_with w names) where
  -- the bound that `sizes` tells is the number of trace entries that planning asks for
  pub told_bound : sizes_bound (sizes_of s) ≡ bound_of s
  unfolding sizes_of
  told_bound = ap (λ (c : Checked). sizes_bound (sized_as s c)) accepted

  -- 10, where the trace is shorter than D
  module _ (work trace : List ℕ) (short : length trace < bound_of s) where
    stage_ten : plan_stage s (length work) (length trace) ≡ refused (refusal_of 10 0)
    stage_ten = ap (plan_checked s (length work) (length trace)) accepted ∙ simp (lt-ltb (length trace) (bound_of s) short)

    pub ten : (index : List ℕ) → (answer_of s (length work) (length trace) ≡ Err (refusal_of 10 0)) × (trace_of s (length work) trace ≡ trace) ×
        (plan_work s work (length trace) ≡ work) × (index_of s (length work) (length trace) index ≡ index)
    unfolding answer_of trace_of plan_work index_of
    ten index = (
      ap (plan_at s) stage_ten,
      ap (λ (c : Stage). trace_at s c trace) stage_ten,
      ap (λ (c : Stage). work_at c work) stage_ten,
      ap (λ (c : Stage). index_at c index) stage_ten,
    )

  -- 11, where the work area is shorter than required
  module _ (work : List ℕ) (short : length work < w) where
    stage_eleven : replay_stage s (length work) ≡ refused (refusal_of 11 0)
    stage_eleven = ap (replay_checked (length work)) accepted ∙ simp (lt-ltb (length work) w short)

    plan_stage_eleven : (trace : List ℕ) → bound_of s ≤ length trace → plan_stage s (length work) (length trace) ≡ refused (refusal_of 11 0)
    plan_stage_eleven trace long =
        ap (plan_checked s (length work) (length trace)) accepted
        ∙ simp (le-ltb (length trace) (bound_of s) long, lt-ltb (length work) w short)

    pub eleven : (trace index : List ℕ) → bound_of s ≤ length trace → (answer_of s (length work) (length trace) ≡ Err (refusal_of 11 0)) ×
        (trace_of s (length work) trace ≡ trace) × (plan_work s work (length trace) ≡ work) × (index_of s (length work) (length trace) index ≡ index)
    unfolding answer_of trace_of plan_work index_of
    eleven trace index long =
        let e = plan_stage_eleven trace long in (
          ap (plan_at s) e,
          ap (λ (c : Stage). trace_at s c trace) e,
          ap (λ (c : Stage). work_at c work) e,
          ap (λ (c : Stage). index_at c index) e,
        )

    pub eleven_reply : (h : List ℕ) → (reply_of s h (length work) ≡ Err (refusal_of 11 0)) × (replay_work s work ≡ work)
    unfolding reply_of replay_work
    eleven_reply h = (ap (λ (c : Stage). replay_at s h c) stage_eleven, ap (λ (c : Stage). work_at c work) stage_eleven)

  -- enough work: the required words are 0 afterwards, those beyond untouched
  module _ (work : List ℕ) (enough : w ≤ length work) where
    stage_replay : replay_stage s (length work) ≡ searching w
    stage_replay = ap (replay_checked (length work)) accepted ∙ simp (le-ltb (length work) w enough)

    pub replay_cleared : replay_work s work ≡ replicate w 0 ++ drop w work
    unfolding replay_work
    replay_cleared = ap (λ (c : Stage). work_at c work) stage_replay

    pub reply_is : (h : List ℕ) → reply_of s h (length work) ≡ reply (replay_of s h)
    unfolding reply_of
    reply_is h = ap (λ (c : Stage). replay_at s h c) stage_replay

    -- yes or no, as replay's definition says
    yes_iff : (b : Bool) → (reply_yes (reply (meant.replied b)) ≡ 1) ↔ (meant.replied b ≡ meant.replied true)
    yes_iff true = (λ e. refl, λ e. refl)
    yes_iff false = (λ e. absurd (omega arith), λ e. cc)

    no_iff : (b : Bool) → (reply_yes (reply (meant.replied b)) ≡ 0) ↔ (meant.replied b ≡ meant.replied false)
    no_iff true = (λ e. absurd (omega arith), λ e. cc)
    no_iff false = (λ e. refl, λ e. refl)

    number_none : (b : Bool) → reply_number (reply (meant.replied b)) ≡ 0
    number_none true = refl
    number_none false = refl

    module _ (h : List ℕ) where
      meant_is : replay_of s h ≡ meant.replied (accepts_of s h)
      meant_is = replay_is s (w, names, accepted) h

      replied_as_lem : reply_of s h (length work) ≡ reply (meant.replied (accepts_of s h))
      replied_as_lem = reply_is h ∙ ap reply meant_is

      -- no number
      pub replied : reply_number (reply_of s h (length work)) ≡ 0
      replied = ap reply_number replied_as_lem ∙ number_none (accepts_of s h)

      -- Demand 2: "A history is accepted exactly when some run of at most D transitions makes exactly those moves and ends final"
      pub yes_exactly : (reply_yes (reply_of s h (length work)) ≡ 1) ↔ HistoryOfRun s h
      yes_exactly =
          Iff.trans (λ e. sym (ap reply_yes replied_as_lem) ∙ e, λ e. ap reply_yes replied_as_lem ∙ e)
          (Iff.trans (yes_iff (accepts_of s h)) (Iff.trans (λ e. meant_is ∙ e, λ e. sym meant_is ∙ e) (history_accepted s (w, names, accepted) h)))

      -- "Replay says yes or no": no exactly when there is no such run
      pub no_exactly : (reply_yes (reply_of s h (length work)) ≡ 0) ↔ (¬ HistoryOfRun s h)
      no_exactly =
          Iff.trans (λ e. sym (ap reply_yes replied_as_lem) ∙ e, λ e. ap reply_yes replied_as_lem ∙ e)
          (Iff.trans (no_iff (accepts_of s h)) (Iff.trans (λ e. meant_is ∙ e, λ e. sym meant_is ∙ e) (history_refused s (w, names, accepted) h)))

      -- "an unknown entry means no"
      pub unknown_no : (e : ℕ) → Memᴰ e h → ¬ KnownEntry s e → reply_yes (reply_of s h (length work)) ≡ 0
      unknown_no e k unknown = ap reply_yes (reply_is h ∙ ap reply (unknown_entry_no s (w, names, accepted) h e k unknown))

    module _ (trace : List ℕ) (long : bound_of s ≤ length trace) where
      stage_plan : plan_stage s (length work) (length trace) ≡ searching w
      stage_plan =
          ap (plan_checked s (length work) (length trace)) accepted
          ∙ simp (le-ltb (length trace) (bound_of s) long, le-ltb (length work) w enough)

      -- and the whole index is 0
      pub plan_cleared : (index : List ℕ) → (plan_work s work (length trace) ≡ replicate w 0 ++ drop w work) × (index_of s (length work) (length trace) index ≡ replicate (length index) 0)
      unfolding plan_work index_of
      plan_cleared index = (ap (λ (c : Stage). work_at c work) stage_plan, ap (λ (c : Stage). index_at c index) stage_plan)

      pub answer_is : answer_of s (length work) (length trace) ≡ answer_as (plan_of s)
      unfolding answer_of
      answer_is = ap (plan_at s) stage_plan

      pub trace_is : trace_of s (length work) trace ≡ traced (plan_of s) trace
      unfolding trace_of
      trace_is = ap (λ (c : Stage). trace_at s c trace) stage_plan

      -- the answer's number, by the verdict
      none_iff : (v : Verdict) → (plan_number (answer_as (answer v)) ≡ 0) ↔ ((h : List ℕ) × (t : ℕ) × (answer v ≡ meant.found h t))
      none_iff (plan h t) = (λ e. (h, t, refl), λ e. refl)
      none_iff nothing = (λ e. absurd (omega arith), λ (h, t, e). cc)
      none_iff more = (λ e. absurd (omega arith), λ (h, t, e). cc)

      some_iff : (k : ℕ) → 1 ≤ k → (v : Verdict) → (plan_number (answer_as (answer v)) ≡ k) ↔ (answer v ≡ meant.refused_by k)
      some_iff k l (plan h t) = (λ e. absurd (omega arith), ap (λ (a : meant.PlanAnswer). plan_number (answer_as a)))
      some_iff k l nothing = (ap meant.refused_by, ap (λ (a : meant.PlanAnswer). plan_number (answer_as a)))
      some_iff k l more = (ap meant.refused_by, ap (λ (a : meant.PlanAnswer). plan_number (answer_as a)))

      verdict_is : answer_of s (length work) (length trace) ≡ answer_as (answer (verdict_of s))
      verdict_is = answer_is ∙ ap answer_as (plan_is s (w, names, accepted))

      number_none_iff : (plan_number (answer_of s (length work) (length trace)) ≡ 0) ↔ ((h : List ℕ) × (t : ℕ) × (plan_of s ≡ meant.found h t))
      number_none_iff =
          let e = ap plan_number verdict_is in
          let q = plan_is s (w, names, accepted) in (
            λ z. let r = (none_iff (verdict_of s)).0 (sym e ∙ z) in (r.0, r.1, q ∙ r.2),
            λ (h, t, f). e ∙ (none_iff (verdict_of s)).1 (h, t, sym q ∙ f),
          )

      number_iff : (k : ℕ) → 1 ≤ k → (plan_number (answer_of s (length work) (length trace)) ≡ k) ↔ (plan_of s ≡ meant.refused_by k)
      number_iff k l =
          let e = ap plan_number verdict_is in
          let q = plan_is s (w, names, accepted) in
          (λ z. q ∙ (some_iff k l (verdict_of s)).0 (sym e ∙ z), λ f. e ∙ (some_iff k l (verdict_of s)).1 (sym q ∙ f))

      -- "every plan handed out is such a history": the first n entries of the trace are the history of a run of t transitions, at most
      -- D, that ends final; replay says yes to it; the rest of the trace is untouched
      pub plan_is_run :
          plan_number (answer_of s (length work) (length trace)) ≡ 0
          → (let n = plan_moves (answer_of s (length work) (length trace)) in
          let t = plan_transitions (answer_of s (length work) (length trace)) in
          (h : List ℕ)
          × (length h ≡ n)
          × (take n (trace_of s (length work) trace) ≡ h)
          × (drop n (trace_of s (length work) trace) ≡ drop n trace)
          × (t ≤ bound_of s)
          × RunOf s h t
          × (reply_yes (reply_of s h (length work)) ≡ 1))
      plan_is_run e =
          let f = number_none_iff.0 e in
          let h = f.0 in
          let t = f.1 in
          let a = answer_is ∙ ap answer_as f.2 in
          let n = ap plan_moves a in
          let u = ap plan_transitions a in
          let q = trace_is ∙ ap (λ (a : meant.PlanAnswer). traced a trace) f.2 in
          let r = plan_transitions_lem s (w, names, accepted) h t f.2 in (
            h,
            sym n,
            ap₂ take n q ∙ take_at h (drop (length h) trace) (length h) refl,
            ap₂ drop n q ∙ drop_at h (drop (length h) trace) (length h) refl ∙ ap (λ (k : ℕ). drop k trace) (sym n),
            subst (λ (k : ℕ). k ≤ bound_of s) (sym u) r.0,
            subst (RunOf s h) (sym u) r.1,
            ap reply_yes (reply_is h ∙ ap reply (plan_accepted_history s (w, names, accepted) h t f.2)),
          )

      -- document 02, F-1: "the plan is the first": a plan with n moves, t transitions and this history in the trace is handed out exactly
      -- where it is the first
      pub first_handed_out :
          (h : List ℕ) (t : ℕ)
          → (let a = answer_of s (length work) (length trace) in
          (plan_number a ≡ 0) × (plan_moves a ≡ length h) × (plan_transitions a ≡ t) × (trace_of s (length work) trace ≡ h ++ drop (length h) trace))
          ↔ FirstPlan s h t
      first_handed_out h t = (
        λ (e, n, u, q).
            let f = number_none_iff.0 e in
            let g = f.0 in
            let a = answer_is ∙ ap answer_as f.2 in
            let z : length g ≡ length h = sym (ap plan_moves a) ∙ n in
            let laid = sym (trace_is ∙ ap (λ (a : meant.PlanAnswer). traced a trace) f.2) ∙ q in
            let same : g ≡ h = sym (take_at g (drop (length g) trace) (length h) z) ∙ ap (take (length h)) laid ∙ take_at h (drop (length h) trace) (length h) refl in
            (first_exactly s (w, names, accepted) h t).0 (f.2 ∙ ap₂ meant.found same (sym (ap plan_transitions a) ∙ u)),
        λ F.
            let e = (first_exactly s (w, names, accepted) h t).1 F in
            let a = answer_is ∙ ap answer_as e in
            (ap plan_number a, ap plan_moves a, ap plan_transitions a, trace_is ∙ ap (λ (a : meant.PlanAnswer). traced a trace) e),
      )

      -- Demand 3: "A plan comes out exactly when some run of at most D transitions ends final"
      pub found_exactly : (plan_number (answer_of s (length work) (length trace)) ≡ 0) ↔ RunEndsFinal s
      found_exactly = Iff.trans number_none_iff (plan_exactly s (w, names, accepted))

      -- "13 exactly when none does and no run has D + 1"
      pub thirteen : (plan_number (answer_of s (length work) (length trace)) ≡ 13) ↔ NoPlanAtAll s
      thirteen = Iff.trans (number_iff 13 (omega arith)) (thirteen_exactly s (w, names, accepted))

      -- so no run of any length ends final: there is no plan at any bound
      pub thirteen_at_every_length : plan_number (answer_of s (length work) (length trace)) ≡ 13 → NoRunEndsFinal s
      thirteen_at_every_length e = thirteen_none_ends s (w, names, accepted) ((number_iff 13 (omega arith)).0 e)

      -- "14 exactly when none does and some run has D + 1"
      pub fourteen : (plan_number (answer_of s (length work) (length trace)) ≡ 14) ↔ NoPlanWithinBound s
      fourteen = Iff.trans (number_iff 14 (omega arith)) (fourteen_exactly s (w, names, accepted))

      -- "Trace is untouched under every number"
      pub trace_untouched : (k : ℕ) → 1 ≤ k → plan_number (answer_of s (length work) (length trace)) ≡ k → trace_of s (length work) trace ≡ trace
      trace_untouched k l e = trace_is ∙ ap (λ (a : meant.PlanAnswer). traced a trace) ((number_iff k l).0 e)

-- Document 02, F-4, about every call of `plan`, whatever it was lent

-- numbers 1 to 11 turn a call away; without one, or under 13 and 14, it searched
abbrev NumberedAt : (number : ℕ) → Stage → Type 0
NumberedAt k (refused why) = (1 ≤ k) × (k ≤ 11)
NumberedAt k (searching w) = (k ≡ 0) ⊎ (11 < k)

stage_numbered : (s : List ℕ) (work trace : ℕ) → NumberedAt (plan_number (answer_of s work trace)) (plan_stage s work trace)
unfolding answer_of
stage_numbered s work trace = go (check_of s) refl (numbered s)
  where
    searched : (v : Verdict) → (plan_number (answer_as (answer v)) ≡ 0) ⊎ (11 < plan_number (answer_as (answer v)))
    searched (plan h t) = inl refl
    searched nothing = inr (omega arith)
    searched more = inr (omega arith)

    lent : (w names : ℕ) → check_of s ≡ accepted_with w names → (b c : Bool)
        → (let g = cond b (refused (refusal_of 10 0)) (cond c (refused (refusal_of 11 0)) (searching w)) in NumberedAt (plan_number (plan_at s g)) g)
    lent w names e true c = (omega arith, omega arith)
    lent w names e false true = (omega arith, omega arith)
    lent w names e false false =
        subst (λ (a : meant.PlanAnswer). (plan_number (answer_as a) ≡ 0) ⊎ (11 < plan_number (answer_as a))) (sym (plan_is s (w, names, e))) (searched (verdict_of s))

    go : (x : Checked) → check_of s ≡ x → Numbered x → NumberedAt (plan_number (plan_at s (plan_checked s work trace x))) (plan_checked s work trace x)
    go (Ok a) e n = lent a.words a.names e (ltb trace (bound_of s)) (ltb work a.words)
    go (Err why) e n = (n.0, omega (arith, n.1))

module _ (s work trace index : List ℕ) (a : Result Planned Refusal) (work' trace' index' : List ℕ) (call : Called s work trace index a work' trace' index') where
  call_numbered : NumberedAt (plan_number a) (plan_stage s (length work) (length trace))
  call_numbered =
      subst (λ (b : Result Planned Refusal). NumberedAt (plan_number b) (plan_stage s (length work) (length trace))) (sym call.answered)
      (stage_numbered s (length work) (length trace))

  -- "After a search the whole index is 0": where a plan, 13 or 14 came out
  pub index_cleared : (plan_number a ≡ 0) ⊎ ((plan_number a ≡ 13) ⊎ (plan_number a ≡ 14)) → index' ≡ replicate (length index) 0
  unfolding index_of
  index_cleared e = call.in_index ∙ go (plan_stage s (length work) (length trace)) call_numbered
    where
      none : (1 ≤ plan_number a) × (plan_number a ≤ 11) → ⊥
      none l = ⊎_elim (λ e. omega (arith, l)) (⊎_elim (λ e. omega (arith, l)) (λ e. omega (arith, l))) e

      go : (c : Stage) → NumberedAt (plan_number a) c → index_at c index ≡ replicate (length index) 0
      go (refused why) l = absurd (none l)
      go (searching w) l = refl

  -- "under 1 to 11 it is untouched"
  pub index_untouched : 1 ≤ plan_number a → plan_number a ≤ 11 → index' ≡ index
  unfolding index_of
  index_untouched low high = call.in_index ∙ go (plan_stage s (length work) (length trace)) call_numbered
    where
      go : (c : Stage) → NumberedAt (plan_number a) c → index_at c index ≡ index
      go (refused why) l = refl
      go (searching w) l = absurd (⊎_elim (λ e. omega (arith, low)) (λ e. omega (arith, high)) l)

  -- "On every sheet the verdict and trace with an index of any length equal those with length 0", and so is what is left in work
  pub index_changes_nothing : (a₀ : Result Planned Refusal) (work₀ trace₀ index₀ : List ℕ) → Called s work trace [] a₀ work₀ trace₀ index₀
      → (a ≡ a₀) × (trace' ≡ trace₀) × (work' ≡ work₀)
  index_changes_nothing a₀ work₀ trace₀ index₀ without = (
    call.answered ∙ sym without.answered,
    call.in_trace ∙ sym without.in_trace,
    call.in_work ∙ sym without.in_work,
  )

-- "Raising D alone keeps a plan a plan and 13 a 13": an accepted sheet, with a higher D put in; the areas lent for writing are long
-- enough for each call and hold anything
module _
    (s : List ℕ) (w names : ℕ) (accepted : check_of s ≡ accepted_with w names) (d : ℕ) (raised : bound_of s ≤ d) (small : d ≤ 64)
    (work trace work' trace' : List ℕ) (enough : w ≤ length work) (long : bound_of s ≤ length trace)
    (enough' : work_words (levels_of s) d ≤ length work') (long' : d ≤ length trace') where
  accepted' : check_of (with_bound s d) ≡ accepted_with (work_words (levels_of s) d) names
  accepted' = raised_accepted s (w, names, accepted) d small

  longer : bound_of (with_bound s d) ≤ length trace'
  longer = omega (arith, (raised_alone s (w, names, accepted) d).1)

  pub plan_stays : plan_number (answer_of s (length work) (length trace)) ≡ 0 → plan_number (answer_of (with_bound s d) (length work') (length trace')) ≡ 0
  plan_stays e =
      let f = (number_none_iff s w names accepted work enough trace long).0 e in
      (number_none_iff (with_bound s d) _ _ accepted' work' enough' trace' longer).1 (raised_plan_stays s (w, names, accepted) d raised small f.0 f.1 f.2)

  -- and the very same plan: n, t, and the moves in the trace
  pub first_stays : plan_number (answer_of s (length work) (length trace)) ≡ 0
      → (answer_of (with_bound s d) (length work') (length trace') ≡ answer_of s (length work) (length trace))
      × (let n = plan_moves (answer_of s (length work) (length trace)) in take n (trace_of (with_bound s d) (length work') trace') ≡ take n (trace_of s (length work) trace))
  first_stays e =
      let (h, t, f) = (number_none_iff s w names accepted work enough trace long).0 e in
      let f' = raised_first_stays s (w, names, accepted) d raised small h t f in
      let a = answer_is s w names accepted work enough trace long ∙ ap answer_as f in
      let q = trace_is s w names accepted work enough trace long ∙ ap (λ (a : meant.PlanAnswer). traced a trace) f in
      let q' = trace_is (with_bound s d) _ _ accepted' work' enough' trace' longer ∙ ap (λ (a : meant.PlanAnswer). traced a trace') f' in
      let n = plan_moves (answer_of s (length work) (length trace)) in
      let z : length h ≡ n = sym (ap plan_moves a) in (
        answer_is (with_bound s d) _ _ accepted' work' enough' trace' longer ∙ ap answer_as f' ∙ sym a,
        ap (take n) q' ∙ take_at h (drop (length h) trace') n z ∙ sym (ap (take n) q ∙ take_at h (drop (length h) trace) n z),
      )

  pub thirteen_stays : plan_number (answer_of s (length work) (length trace)) ≡ 13 → plan_number (answer_of (with_bound s d) (length work') (length trace')) ≡ 13
  thirteen_stays e =
      (number_iff (with_bound s d) _ _ accepted' work' enough' trace' longer 13 (omega arith)).1
      (raised_thirteen_stays s (w, names, accepted) d raised small ((number_iff s w names accepted work enough trace long 13 (omega arith)).0 e))
