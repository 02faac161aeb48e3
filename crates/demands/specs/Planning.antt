-- To be believed: what the demands say of a sheet's runs. And planning and replay on bytes, computed: the sheet is checked, then searched;
-- that they answer by those runs is proved in proofs/Demands.antt. Assumes nothing.
use Rattle.std.specs.Prelude.{ℕ, Bool, List, Ok, Err}
use Rattle.std.proofs.Math.Option.{Option}
use Rattle.golog.specs.World.{World}
use Rattle.golog.specs.Transitions.{Configuration, final, transitions}
use Rattle.golog.specs.Trans.{Trans, Final}
use Rattle.runs.specs.Runs.{Run, Legal, FinalRun, NoneAtAll, NoneWithin}
use Rattle.runs.specs.Search.{Verdict, plan, nothing, more}
use Rattle.runs.specs.First.{IsFirst}
use Rattle.runs.specs.Earliest.{first_plan}
use Rattle.runs.specs.Guide.{accepts}
use Rattle.sheet.specs.Check.{refusal_of, check_of, Checked}
use Rattle.sheet.specs.declared.Refusal.{Refusal}
use Rattle.demands.specs.Decoded.{world_of, first_of, bound_of}

-- the paper's relation between configurations, and which are final
abbrev pub Goes : World → Configuration → Option ℕ → Configuration → Type 0
Goes W c m d = Trans W c.0 c.1 m d.0 d.1

abbrev pub Ends : World → Configuration → Type 0
Ends W c = Final W c.0 c.1

-- the same, computed
abbrev pub transitions_in : World → Configuration → List (Option ℕ × Configuration)
transitions_in W c = transitions W c.0 c.1

abbrev pub is_final_in : World → Configuration → Bool
is_final_in W c = final W c.0 c.1

-- what the mission says of a sheet's runs: "some run of at most D transitions ends final", "makes exactly those moves and ends
-- final", "no run has D + 1", "some run has D + 1"
abbrev pub RunEndsFinal : List ℕ → Type 0
RunEndsFinal s = FinalRun (Goes (world_of s)) (Ends (world_of s)) (bound_of s) (first_of s)

abbrev pub HistoryOfRun : List ℕ → List ℕ → Type 0
HistoryOfRun s h = Legal (Goes (world_of s)) (Ends (world_of s)) (bound_of s) (first_of s) h

-- number 13, "none at all"
abbrev pub NoPlanAtAll : List ℕ → Type 0
NoPlanAtAll s = NoneAtAll (Goes (world_of s)) (Ends (world_of s)) (bound_of s) (first_of s)

-- number 14, "none within the bound"
abbrev pub NoPlanWithinBound : List ℕ → Type 0
NoPlanWithinBound s = NoneWithin (Goes (world_of s)) (Ends (world_of s)) (bound_of s) (first_of s)

-- no run of any length ends final
abbrev pub NoRunEndsFinal : List ℕ → Type 0
NoRunEndsFinal s = (n : ℕ) (h : List ℕ) (d : Configuration) → Run (Goes (world_of s)) n (first_of s) h d → ¬ Ends (world_of s) d

-- some run of exactly t transitions has history h and ends final
abbrev pub RunOf : List ℕ → List ℕ → ℕ → Type 0
RunOf s h t = (d : Configuration) × Run (Goes (world_of s)) t (first_of s) h d × Ends (world_of s) d

-- document 02, F-1: "the plan is the first": fewest transitions, and among those the smallest history
abbrev pub FirstPlan : List ℕ → (h : List ℕ) → (t : ℕ) → Type 0
FirstPlan s h t = IsFirst (Goes (world_of s)) (Ends (world_of s)) (bound_of s) (first_of s) h t

-- the verdict on an accepted sheet: the first plan, 13 or 14
unfoldable pub verdict_of : List ℕ → Verdict
verdict_of s = first_plan (transitions_in (world_of s)) (is_final_in (world_of s)) (bound_of s) (first_of s)

-- whether a history is accepted on an accepted sheet
unfoldable pub accepts_of : List ℕ → List ℕ → Bool
accepts_of s h = accepts (transitions_in (world_of s)) (is_final_in (world_of s)) (bound_of s) (first_of s) h

-- what planning answers, the lent areas being long enough: a history with its transitions, or a number and a place
pub data PlanAnswer : Type 0 where
  found : (history : List ℕ) → (t : ℕ) → PlanAnswer
  refused : (why : Refusal) → PlanAnswer

-- a number whose place is 0
abbrev pub refused_by : (number : ℕ) → PlanAnswer
refused_by number = refused (refusal_of number 0)

-- 13, "none at all"; 14, "none within the bound"
abbrev pub answer : Verdict → PlanAnswer
answer (plan h t) = found h t
answer nothing = refused_by 13
answer more = refused_by 14

abbrev pub planned_from : List ℕ → Checked → PlanAnswer
planned_from s (Ok a) = answer (verdict_of s)
planned_from s (Err why) = refused why

unfoldable pub plan_of : List ℕ → PlanAnswer
plan_of s = planned_from s (check_of s)

-- what replay answers, work being long enough: yes or no, or a number and a place
pub data ReplayAnswer : Type 0 where
  replied : (yes : Bool) → ReplayAnswer
  refused : (why : Refusal) → ReplayAnswer

abbrev pub replayed_from : List ℕ → List ℕ → Checked → ReplayAnswer
replayed_from s h (Ok a) = replied (accepts_of s h)
replayed_from s h (Err why) = refused why

unfoldable pub replay_of : List ℕ → List ℕ → ReplayAnswer
replay_of s h = replayed_from s h (check_of s)
