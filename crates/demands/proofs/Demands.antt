-- Demands 2 and 3 of the mission and F-1 of document 02, about bytes in and answers out; each theorem stands under the demand's words. Those
-- about the calls, with what is lent to them, are in planner, proofs/Demands.antt.
-- The runs are those of the paper's Trans and Final (golog, specs/Trans.antt) from a sheet's first configuration; plan_of and
-- replay_of (specs/Planning.antt) are what the calls answer. A sheet is accepted when no cause of 1 to 9 holds of it.
-- Assumes nothing.
use mathlib.Core.Path.{◌≡◌, refl, sym, ◌∙◌, ap, ap₂, subst}
use mathlib.Core.Bool.{Bool, true, false}
use mathlib.Core.List.{List}
use mathlib.Core.Logic.Iff
use mathlib.Core.Logic.{◌↔◌}
use Prim.Native.Nat.{ℕ, ◌≤◌, ◌<◌}
use native.Mathlib.Omega.{arith}
use lib.Dec.{T}
use lib.ListN.{length}
use Rattle.height.specs.Work.{work_words}
use Rattle.runs.specs.Runs.{ExactlyOne}
use Rattle.runs.specs.Search.{Verdict, plan, nothing, more, Lists, DecidesFinal, Means}
use Rattle.runs.specs.First.{IsFirst}
use Rattle.runs.specs.Earliest.{first_plan, MeansFirst}
use Rattle.runs.proofs.Firsts.{first_plan_means, same_first, first_plan_exactly, first_exists, first_unique, first_stays}
use Rattle.runs.proofs.Verdicts.{plan_iff, nothing_iff, more_iff, exactly_one}
use Rattle.runs.proofs.Raised.{none_of_any_length, nothing_stays}
use Rattle.runs.proofs.Histories.{run_length}
use Rattle.runs.proofs.Guided.{accepts_iff}
use Rattle.golog.specs.World.{World}
use Rattle.golog.specs.Transitions.{Configuration}
use Rattle.golog.proofs.Exact.{steps_exact, final_exact}
use Rattle.sheet.specs.Check.{Accepts, check_of, accepted_with}
use Rattle.sheet.proofs.Accepted.{trailed}
use Rattle.demands.specs.Decoded.{world_of, first_of, bound_of, levels_of}
use Rattle.demands.specs.Planning.{Goes, Ends, transitions_in, is_final_in, RunEndsFinal, HistoryOfRun, NoPlanAtAll, NoPlanWithinBound, NoRunEndsFinal, RunOf, FirstPlan}
use Rattle.demands.specs.Planning.{refused_by, verdict_of, accepts_of, PlanAnswer, found, answer, planned_from, plan_of, ReplayAnswer, replied, replayed_from, replay_of}
use Rattle.demands.specs.Raised.{SameButBound, with_bound}
use Rattle.demands.proofs.Tables.{all_same, first_same}
use Rattle.demands.proofs.Raised.{tables_same, accepted_too, bound_alone, bound_put}

-- the lists of transitions are the paper's Trans, the test for final configurations its Final
pub listed : (W : World) → Lists (transitions_in W) (Goes W)
listed W c m d = steps_exact W c.0 c.1 m d.0 d.1

pub decided : (W : World) → DecidesFinal (is_final_in W) (Ends W)
decided W c = final_exact W c.0 c.1

pub means : (W : World) (k : ℕ) (c : Configuration) → Means (Goes W) (Ends W) k c (first_plan (transitions_in W) (is_final_in W) k c)
means W = first_plan_means (Goes W) (Ends W) (transitions_in W) (is_final_in W) (listed W) (decided W)

-- only one verdict means the first plan of a sheet, or that there is none: its own
pub verdict_is : (s : List ℕ) (v : Verdict) → MeansFirst (Goes (world_of s)) (Ends (world_of s)) (bound_of s) (first_of s) v → v ≡ verdict_of s
unfolding verdict_of
verdict_is s v m = let W = world_of s in same_first (Goes W) (Ends W) (transitions_in W) (is_final_in W) (listed W) (decided W) (bound_of s) (first_of s) v m

-- an answer and the verdict that it comes from
found_plan : (v : Verdict) (h : List ℕ) (t : ℕ) → (answer v ≡ found h t) ↔ (v ≡ plan h t)
found_plan (plan g u) h t = (λ e. cc, λ e. cc)
found_plan nothing h t = (λ e. cc, λ e. cc)
found_plan more h t = (λ e. cc, λ e. cc)

fourteen≢thirteen : ¬ (refused_by 14 ≡ refused_by 13)
fourteen≢thirteen e = omega (arith, ap number e)
  where
    number : PlanAnswer → ℕ
    number (found h t) = 0
    number (PlanAnswer.refused why) = why.number

answer_nothing : (v : Verdict) → (answer v ≡ refused_by 13) ↔ (v ≡ nothing)
answer_nothing (plan g u) = (λ e. cc, λ e. cc)
answer_nothing nothing = (λ e. refl, λ e. refl)
answer_nothing more = (λ e. absurd (fourteen≢thirteen e), λ e. cc)

answer_more : (v : Verdict) → (answer v ≡ refused_by 14) ↔ (v ≡ more)
answer_more (plan g u) = (λ e. cc, λ e. cc)
answer_more nothing = (λ e. absurd (fourteen≢thirteen (sym e)), λ e. cc)
answer_more more = (λ e. refl, λ e. refl)

yes_true : (b : Bool) → (replied b ≡ replied true) ↔ T b
yes_true true = (λ e. tt, λ t. refl)
yes_true false = (λ e. let z : ◌≡◌ {A = ℕ} 0 1 = cc in omega arith, λ t. absurd t)

no_false : (b : Bool) → (replied b ≡ replied false) ↔ (¬ T b)
no_false true = (λ e t. let z : ◌≡◌ {A = ℕ} 0 1 = cc in omega arith, λ f. absurd (f tt))
no_false false = (λ e t. t, λ f. refl)

module _ (s : List ℕ) (accepted : Accepts s) where
  pub plan_is : plan_of s ≡ answer (verdict_of s)
  unfolding plan_of
  plan_is = ap (planned_from s) accepted.2

  pub replay_is : (h : List ℕ) → replay_of s h ≡ replied (accepts_of s h)
  unfolding replay_of
  replay_is h = ap (replayed_from s h) accepted.2

  same_answer : (a : PlanAnswer) → (plan_of s ≡ a) ↔ (answer (verdict_of s) ≡ a)
  same_answer a = (λ e. sym plan_is ∙ e, λ e. plan_is ∙ e)

  same_reply : (h : List ℕ) (a : ReplayAnswer) → (replay_of s h ≡ a) ↔ (replied (accepts_of s h) ≡ a)
  same_reply h a = (λ e. sym (replay_is h) ∙ e, λ e. replay_is h ∙ e)

  accepts_exactly : (h : List ℕ) → T (accepts_of s h) ↔ HistoryOfRun s h
  unfolding accepts_of
  accepts_exactly h =
      let W = world_of s in
      accepts_iff (Goes W) (Ends W) (transitions_in W) (is_final_in W) (listed W) (decided W) (bound_of s) (first_of s) h

  -- "A history is accepted exactly when some run of at most D transitions makes exactly those moves and ends final"
  pub history_accepted : (h : List ℕ) → (replay_of s h ≡ replied true) ↔ HistoryOfRun s h
  history_accepted h = Iff.trans (same_reply h (replied true)) (Iff.trans (yes_true (accepts_of s h)) (accepts_exactly h))

  -- "Replay says yes or no": no exactly when there is no such run
  pub history_refused : (h : List ℕ) → (replay_of s h ≡ replied false) ↔ (¬ HistoryOfRun s h)
  history_refused h = Iff.trans (same_reply h (replied false)) (Iff.trans (no_false (accepts_of s h)) (Iff.not (accepts_exactly h)))

  -- no run of at most D transitions makes more moves than that
  pub longer_no : (h : List ℕ) → bound_of s < length h → replay_of s h ≡ replied false
  longer_no h l = (history_refused h).1 (λ (n, d, few, run, end). omega (arith, few, run_length (Goes (world_of s)) n (first_of s) h d run))

  -- "the plan is the first": it comes out exactly where it is
  pub first_exactly : (h : List ℕ) (t : ℕ) → (plan_of s ≡ found h t) ↔ FirstPlan s h t
  unfolding verdict_of
  first_exactly h t =
      let W = world_of s in
      Iff.trans (same_answer (found h t))
      (Iff.trans (found_plan (verdict_of s) h t)
      (first_plan_exactly (Goes W) (Ends W) (transitions_in W) (is_final_in W) (listed W) (decided W) (bound_of s) (first_of s) h t))

  -- "Plan and t are thus decided by a definition": there is a first plan exactly where some run of at most D transitions ends final, and one
  -- only
  pub first_there : ((h : List ℕ) × (t : ℕ) × FirstPlan s h t) ↔ RunEndsFinal s
  first_there = let W = world_of s in first_exists (Goes W) (Ends W) (transitions_in W) (is_final_in W) (listed W) (decided W) (bound_of s) (first_of s)

  pub first_alone : (h g : List ℕ) (t u : ℕ) → FirstPlan s h t → FirstPlan s g u → (h ≡ g) × (t ≡ u)
  first_alone = let W = world_of s in first_unique (Goes W) (Ends W) (bound_of s) (first_of s)

  -- "A plan returns n moves and t, the transitions of one run of at most D that ends final with that history"
  pub plan_transitions_lem : (h : List ℕ) (t : ℕ) → plan_of s ≡ found h t → (t ≤ bound_of s) × RunOf s h t
  plan_transitions_lem h t e = let F = (first_exactly h t).0 e in (F.within, F.plan)

  -- "every plan handed out is such a history"
  pub plan_accepted_history : (h : List ℕ) (t : ℕ) → plan_of s ≡ found h t → replay_of s h ≡ replied true
  plan_accepted_history h t e = let (l, (d, run, end)) = plan_transitions_lem h t e in (history_accepted h).1 (t, d, l, run, end)

  -- "A plan comes out exactly when some run of at most D transitions ends final"
  pub plan_exactly : ((h : List ℕ) × (t : ℕ) × (plan_of s ≡ found h t)) ↔ RunEndsFinal s
  unfolding verdict_of
  plan_exactly =
      let W = world_of s in
      Iff.trans (
        λ (h, t, e). (h, t, (found_plan (verdict_of s) h t).0 ((same_answer (found h t)).0 e)),
        λ (h, t, e). (h, t, (same_answer (found h t)).1 ((found_plan (verdict_of s) h t).1 e)),
      )
      (plan_iff (Goes W) (Ends W) (first_plan (transitions_in W) (is_final_in W)) (means W) (bound_of s) (first_of s))

  -- "13 exactly when none does and no run has D + 1"
  pub thirteen_exactly : (plan_of s ≡ refused_by 13) ↔ NoPlanAtAll s
  unfolding verdict_of
  thirteen_exactly =
      let W = world_of s in
      Iff.trans (same_answer (refused_by 13))
      (Iff.trans (answer_nothing (verdict_of s))
      (nothing_iff (Goes W) (Ends W) (first_plan (transitions_in W) (is_final_in W)) (means W) (bound_of s) (first_of s)))

  -- 13 at every length: it is no matter of the bound
  pub thirteen_none_ends : plan_of s ≡ refused_by 13 → NoRunEndsFinal s
  thirteen_none_ends e = let W = world_of s in none_of_any_length (Goes W) (Ends W) (bound_of s) (first_of s) (thirteen_exactly.0 e)

  -- "14 exactly when none does and some run has D + 1"
  pub fourteen_exactly : (plan_of s ≡ refused_by 14) ↔ NoPlanWithinBound s
  unfolding verdict_of
  fourteen_exactly =
      let W = world_of s in
      Iff.trans (same_answer (refused_by 14))
      (Iff.trans (answer_more (verdict_of s))
      (more_iff (Goes W) (Ends W) (first_plan (transitions_in W) (is_final_in W)) (means W) (bound_of s) (first_of s)))

  -- the three verdicts exclude each other, and one always holds
  pub one_verdict : ExactlyOne (RunEndsFinal s) (NoPlanAtAll s) (NoPlanWithinBound s)
  one_verdict =
      let W = world_of s in
      exactly_one (Goes W) (Ends W) (first_plan (transitions_in W) (is_final_in W)) (means W) (bound_of s) (first_of s)

-- "Raising D alone keeps a plan a plan and 13 a 13": two sheets that differ in D alone
module _ (s s' : List ℕ) (accepted : Accepts s) (accepted' : Accepts s') (but : SameButBound s s') (raised : bound_of s ≤ bound_of s') where
  -- the verdict within any bound is that of the first sheet
  verdict_same : verdict_of s' ≡ first_plan (transitions_in (world_of s)) (is_final_in (world_of s)) (bound_of s') (first_of s)
  unfolding verdict_of
  verdict_same =
      let same = tables_same s s' accepted but in
      ap₂ (λ (W : World) (c : Configuration). first_plan (transitions_in W) (is_final_in W) (bound_of s') c) (all_same same) (first_same same)

  -- the very same plan
  pub first_stays_first : (h : List ℕ) (t : ℕ) → plan_of s ≡ found h t → plan_of s' ≡ found h t
  first_stays_first h t e =
      let same = tables_same s s' accepted but in
      let W = world_of s in
      let F = first_stays (Goes W) (Ends W) (bound_of s') (bound_of s) (first_of s) h t raised ((first_exactly s accepted h t).0 e) in
      (first_exactly s' accepted' h t).1
      (subst (λ (U : World). IsFirst (Goes U) (Ends U) (bound_of s') (first_of s') h t) (sym (all_same same))
      (subst (λ (c : Configuration). IsFirst (Goes W) (Ends W) (bound_of s') c h t) (sym (first_same same)) F))

  pub plan_stays_plan : (h : List ℕ) (t : ℕ) → plan_of s ≡ found h t → (g : List ℕ) × (u : ℕ) × (plan_of s' ≡ found g u)
  plan_stays_plan h t e = (h, t, first_stays_first h t e)

  pub thirteen_stays_thirteen : plan_of s ≡ refused_by 13 → plan_of s' ≡ refused_by 13
  unfolding verdict_of
  thirteen_stays_thirteen e =
      let W = world_of s in
      let r = nothing_stays (Goes W) (Ends W) (first_plan (transitions_in W) (is_final_in W)) (means W) (bound_of s') (bound_of s) (first_of s) raised
      ((answer_nothing (verdict_of s)).0 ((same_answer s accepted (refused_by 13)).0 e)) in
      (same_answer s' accepted' (refused_by 13)).1 ((answer_nothing (verdict_of s')).1 (verdict_same ∙ r))

-- the same of one accepted sheet whose D is raised: "puts a higher D, at most 64, into the trailer"
module _ (s : List ℕ) (accepted : Accepts s) (d : ℕ) where
  -- the sheet with d put in differs in D alone, and its D is d
  pub raised_alone : SameButBound s (with_bound s d) × (bound_of (with_bound s d) ≡ d)
  raised_alone = let long = (trailed s accepted).long in (bound_alone s long d, bound_put s long d)

  -- "D 0–64": it is accepted too, with the figure for d
  pub raised_accepted : d ≤ 64 → check_of (with_bound s d) ≡ accepted_with (work_words (levels_of s) d) accepted.1
  raised_accepted small =
      let e = raised_alone.1 in
      accepted_too s (with_bound s d) accepted raised_alone.0 (omega arith) ∙ ap (λ (b : ℕ). accepted_with (work_words (levels_of s) b) accepted.1) e

  module _ (raised : bound_of s ≤ d) (small : d ≤ 64) where
    higher : bound_of s ≤ bound_of (with_bound s d)
    higher = let e = raised_alone.1 in omega arith

    -- "keeps a plan a plan"
    pub raised_plan_stays : (h : List ℕ) (t : ℕ) → plan_of s ≡ found h t → (g : List ℕ) × (u : ℕ) × (plan_of (with_bound s d) ≡ found g u)
    raised_plan_stays = plan_stays_plan s (with_bound s d) accepted (_, _, raised_accepted small) raised_alone.0 higher

    -- the very same plan
    pub raised_first_stays : (h : List ℕ) (t : ℕ) → plan_of s ≡ found h t → plan_of (with_bound s d) ≡ found h t
    raised_first_stays = first_stays_first s (with_bound s d) accepted (_, _, raised_accepted small) raised_alone.0 higher

    -- "and 13 a 13"
    pub raised_thirteen_stays : plan_of s ≡ refused_by 13 → plan_of (with_bound s d) ≡ refused_by 13
    raised_thirteen_stays = thirteen_stays_thirteen s (with_bound s d) accepted (_, _, raised_accepted small) raised_alone.0 higher
