-- What the search reports is what the calls answer and leave: its outcome is that of the sheet's verdict, and a plan's history, which has
-- no more moves than transitions, stands in the trace. Assumes nothing.
use Prim.Native.Nat.{ℕ, ◌≤◌, ◌<◌}
use native.Mathlib.Nat.{zero-add}
use native.Mathlib.Omega.{arith}
use mathlib.Core.Bool.{Bool, false}
use mathlib.Core.List.{List, ◌++◌}
use mathlib.Core.Path.{◌≡◌, refl, sym, ◌∙◌, ap, ap₂}
use lib.ListN.{length, take, drop, replicate}
use lib.Seq.{length-take-le}
use Rattle.std.specs.Prelude.{Ok}
use Rattle.runs.proofs.Histories.{run_length}
use Rattle.runs.specs.Search.{Verdict, plan, nothing, more}
use Rattle.sheet.specs.Check.{accepted_with, check_of}
use Rattle.demands.specs.Decoded.{world_of, bound_of, first_of}
use Rattle.demands.specs.Planning as meant
use Rattle.demands.specs.Planning.{answer, verdict_of, accepts_of}
use Rattle.demands.proofs.Demands.{plan_is, replay_is, plan_transitions_lem, longer_no}
use Rattle.search.specs.Outcome.{ReportsVerdict, Reported}
use Rattle.search.proofs.Reporting.{lay_front}
use Rattle.search.specs.declared.Outcome.{Outcome}
use Rattle.search.specs.declared.Outcome.TheVariants.{Found}
use Rattle.planner.specs.Answers.{answer_as, traced, reply, answer_of, trace_of, reply_of}
use Rattle.planner.proofs.Demands.{answer_is, trace_is, reply_is}
use Rattle.planner.specs.Reports.{planned_as}

-- the answer and the trace, where the histories of plans fit
pub planned_says :
    (trace trace' : List ℕ) (o : Outcome) (v : Verdict)
    → ((h : List ℕ) (t : ℕ) → v ≡ plan h t → length h ≤ length trace)
    → ReportsVerdict 0 0 trace trace' o v
    → (planned_as o ≡ answer_as (answer v)) × (trace' ≡ traced (answer v) trace)
planned_says trace trace' o (plan h t) short (e, l) = (ap planned_as (e ∙ ap₂ Found (zero-add (length h)) (zero-add t)), l ∙ lay_front h trace (short h t refl))
planned_says trace trace' o nothing short (e, l) = (ap planned_as e, l)
planned_says trace trace' o more short (e, l) = (ap planned_as e, l)

-- on an accepted sheet, with areas long enough: what is reported of its verdict is planning's answer and trace
module _ (s : List ℕ) (w names : ℕ) (accepted : check_of s ≡ accepted_with w names) (work trace : List ℕ) (enough : w ≤ length work) (long : bound_of s ≤ length trace) where
  short : (h : List ℕ) (t : ℕ) → verdict_of s ≡ plan h t → length h ≤ length trace
  short h t e =
      let r = plan_transitions_lem s (w, names, accepted) h t (plan_is s (w, names, accepted) ∙ ap answer e) in
      omega (arith, r.0, run_length (meant.Goes (world_of s)) t (first_of s) h r.1.0 r.1.1)

  pub planning :
      (trace' : List ℕ) (o : Outcome)
      → Reported 0 0 trace trace' o (verdict_of s)
      → (planned_as o ≡ answer_of s (length work) (length trace)) × (trace' ≡ trace_of s (length work) trace)
  planning trace' o R =
      let P = planned_says trace trace' o (verdict_of s) short R.says in
      let e = plan_is s (w, names, accepted) in (
        P.0 ∙ sym (ap answer_as e) ∙ sym (answer_is s w names accepted work enough trace long),
        P.1 ∙ sym (ap (λ (a : meant.PlanAnswer). traced a trace) e) ∙ sym (trace_is s w names accepted work enough trace long),
      )

-- and whether it is accepted is replay's
pub replaying :
    (s : List ℕ) (w names : ℕ) (accepted : check_of s ≡ accepted_with w names) (work : List ℕ) (enough : w ≤ length work) (h : List ℕ) (b : Bool) → b ≡ accepts_of s h
    → Ok b ≡ reply_of s h (length work)
replaying s w names accepted work enough h b e =
    ap Ok e
    ∙ sym (ap reply (replay_is s (w, names, accepted) h))
    ∙ sym (reply_is s w names accepted work enough h)

-- a history of more moves than the bound is answered with no
pub longer :
    (s : List ℕ) (w names : ℕ) (accepted : check_of s ≡ accepted_with w names) (work : List ℕ) (enough : w ≤ length work) (h : List ℕ) → bound_of s < length h
    → Ok false ≡ reply_of s h (length work)
longer s w names accepted work enough h l = sym (reply_is s w names accepted work enough h ∙ ap reply (longer_no s (w, names, accepted) h l))

-- the required words cleared, those beyond untouched
pub cleared : (w : ℕ) (work part : List ℕ) → part ≡ replicate (length (take w work)) 0 → w ≤ length work → part ++ drop w work ≡ replicate w 0 ++ drop w work
cleared w work part e l = ap (λ (p : List ℕ). p ++ drop w work) (e ∙ ap (λ (n : ℕ). replicate n 0) (length-take-le w work l))
