-- To be believed: what planning and replay answer and leave, for every input (document 01, "Work area" and "Who can cause which number";
-- document 02, F-4, for the index), over what `demands` says of the sheet alone. Which plan and which t come out document 02 decides (F-1):
-- the first plan's, by proofs/Demands.antt. Assumes nothing.
use Rattle.std.specs.Prelude.{ℕ, ◌≡◌, Bool, cond, List, ◌++◌, length, drop, replicate, ltb, Result, Ok, Err}
use Rattle.sheet.specs.Check.{Checked, refusal_of, check_of}
use Rattle.sheet.specs.declared.Refusal.{Refusal}
use Rattle.demands.specs.Decoded.{bound_of}
use Rattle.demands.specs.Planning as meant
use Rattle.demands.specs.Planning.{plan_of, replay_of}
use Rattle.planner.specs.declared.Planned.{Planned}

-- n moves and t transitions
abbrev pub planned : (n t : ℕ) → Result Planned Refusal
planned n t = Ok (record { n = n; t = t })

-- how far a call comes: turned away by a number and a place, or searching with w words of work
pub data Stage : Type 0 where
  refused : (why : Refusal) → Stage
  searching : (w : ℕ) → Stage

-- 11: work shorter than required
abbrev pub with_work : (work w : ℕ) → Stage
with_work work w = cond (ltb work w) (refused (refusal_of 11 0)) (searching w)

-- replay: 1 to 9, then 11
abbrev pub replay_checked : (work : ℕ) → Checked → Stage
replay_checked work (Ok a) = with_work work a.words
replay_checked work (Err why) = refused why

abbrev pub replay_stage : List ℕ → (work : ℕ) → Stage
replay_stage s work = replay_checked work (check_of s)

-- planning: 1 to 9, then 10 where the trace is shorter than D, then 11
abbrev pub plan_checked : List ℕ → (work trace : ℕ) → Checked → Stage
plan_checked s work trace (Ok a) = cond (ltb trace (bound_of s)) (refused (refusal_of 10 0)) (with_work work a.words)
plan_checked s work trace (Err why) = refused why

abbrev pub plan_stage : List ℕ → (work trace : ℕ) → Stage
plan_stage s work trace = plan_checked s work trace (check_of s)

-- planning's answer: n moves and t transitions, or a number and a place
abbrev pub answer_as : meant.PlanAnswer → Result Planned Refusal
answer_as (meant.found h t) = planned (length h) t
answer_as (meant.PlanAnswer.refused why) = Err why

abbrev pub plan_at : List ℕ → Stage → Result Planned Refusal
plan_at s (refused why) = Err why
plan_at s (searching w) = answer_as (plan_of s)

-- the trace: "the first n trace entries hold it, the rest are untouched"; "untouched under every number"
abbrev pub traced : meant.PlanAnswer → List ℕ → List ℕ
traced (meant.found h t) trace = h ++ drop (length h) trace
traced (meant.PlanAnswer.refused why) trace = trace

abbrev pub trace_at : List ℕ → Stage → List ℕ → List ℕ
trace_at s (refused why) trace = trace
trace_at s (searching w) trace = traced (plan_of s) trace

-- work: untouched under 1 to 12; else "the required work words are 0 and those beyond untouched"
abbrev pub work_at : Stage → List ℕ → List ℕ
work_at (refused why) work = work
work_at (searching w) work = replicate w 0 ++ drop w work

-- the index: "After a search the whole index is 0; under 1 to 11 it is untouched" (document 02, F-4)
abbrev pub index_at : Stage → List ℕ → List ℕ
index_at (refused why) index = index
index_at (searching w) index = replicate (length index) 0

-- what `plan` answers and leaves
unfoldable pub answer_of : List ℕ → (work trace : ℕ) → Result Planned Refusal
answer_of s work trace = plan_at s (plan_stage s work trace)

unfoldable pub trace_of : List ℕ → (work : ℕ) → List ℕ → List ℕ
trace_of s work trace = trace_at s (plan_stage s work (length trace)) trace

unfoldable pub plan_work : List ℕ → List ℕ → (trace : ℕ) → List ℕ
plan_work s work trace = work_at (plan_stage s (length work) trace) work

unfoldable pub index_of : List ℕ → (work trace : ℕ) → List ℕ → List ℕ
index_of s work trace index = index_at (plan_stage s work trace) index

-- a call of `plan` that was lent sheet, work, trace and index gave this answer and left the last three so: the four clauses of its contract
pub record Called (s work trace index : List ℕ) (answer : Result Planned Refusal) (work' trace' index' : List ℕ) : Type 0 where
  pub answered : answer ≡ answer_of s (length work) (length trace)
  pub in_trace : trace' ≡ trace_of s (length work) trace
  pub in_work : work' ≡ plan_work s work (length trace)
  pub in_index : index' ≡ index_of s (length work) (length trace) index

-- what `replay` answers and leaves
abbrev pub reply : meant.ReplayAnswer → Result Bool Refusal
reply (meant.replied accepted) = Ok accepted
reply (meant.ReplayAnswer.refused why) = Err why

abbrev pub replay_at : List ℕ → List ℕ → Stage → Result Bool Refusal
replay_at s h (refused why) = Err why
replay_at s h (searching w) = reply (replay_of s h)

unfoldable pub reply_of : List ℕ → List ℕ → (work : ℕ) → Result Bool Refusal
reply_of s h work = replay_at s h (replay_stage s work)

unfoldable pub replay_work : List ℕ → List ℕ → List ℕ
replay_work s work = work_at (replay_stage s (length work)) work
