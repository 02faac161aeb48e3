-- Planning, replay and `sizes` give a number exactly for its listed cause, the first in rising order, and none exactly where there is no
-- cause: for every sheet and whatever is lent. Assumes nothing.
use mathlib.Core.Path.{◌≡◌, refl, sym, ◌∙◌, ap, subst}
use mathlib.Core.List.{List}
use mathlib.Core.Logic.{◌⊎◌, ◌↔◌, ⊎_elim, inl, inr}
use mathlib.Core.Bool.{Bool, true, false, cond}
use Prim.Native.Nat.{ℕ, ◌≤◌, ◌<◌}
use native.Mathlib.Omega.{arith}
use borrow.Author.Tests.{ltb-true, lt-ltb}
use lib.Dec.{ltb}
use Rattle.std.specs.Prelude.{Result, Ok, Err}
use Rattle.runs.specs.Search.{Verdict, plan, nothing, more}
use Rattle.sheet.specs.Check.{Checked, accepted_with, refusal_of, check_of, number_of, place_of, Accepts}
use Rattle.sheet.specs.Causes.{Cause, First}
use Rattle.sheet.proofs.Rising.{By, Told, unplaced, then, last, wider, sooner}
use Rattle.sheet.proofs.Exactly.{answered_by}
use Rattle.sheet.proofs.Numbers.{Numbered, numbered, caused}
use Rattle.sheet.proofs.Accepted.{ruled}
use Rattle.sheet.proofs.Called.{number_exactly, no_number_exactly}
use Rattle.demands.specs.Decoded.{bound_of}
use Rattle.demands.specs.Planning as meant
use Rattle.demands.specs.Planning.{plan_of, replied, accepts_of, answer, verdict_of, NoPlanAtAll, NoPlanWithinBound}
use Rattle.demands.proofs.Demands.{plan_is, replay_is, thirteen_exactly, fourteen_exactly}
use Rattle.sheet.specs.declared.Refusal.{Refusal}
use Rattle.planner.specs.Answers.{Stage, refused, searching, with_work, plan_checked, answer_as, plan_at, answer_of, replay_checked, reply, replay_at, reply_of}
use Rattle.planner.specs.Numbers.{plan_number, plan_place, reply_number, reply_place, sizes_number, sizes_place}
use Rattle.planner.specs.Causes.{required, PlanCause, ReplayCause}
use Rattle.planner.specs.Sizes.{sized_as, sizes_of}
use Rattle.planner.specs.declared.Planned.{Planned}

-- an answer by its number and place alone
abbrev seen : Result Planned Refusal → Checked
seen (Ok x) = accepted_with 0 0
seen (Err why) = Err why

seen_number : (a : Result Planned Refusal) → plan_number a ≡ number_of (seen a)
seen_number (Ok x) = refl
seen_number (Err why) = refl

seen_place : (a : Result Planned Refusal) → plan_place a ≡ place_of (seen a)
seen_place (Ok x) = refl
seen_place (Err why) = refl

abbrev heard : Result Bool Refusal → Checked
heard (Ok accepted) = accepted_with 0 0
heard (Err why) = Err why

heard_number : (a : Result Bool Refusal) → reply_number a ≡ number_of (heard a)
heard_number (Ok accepted) = refl
heard_number (Err why) = refl

heard_place : (a : Result Bool Refusal) → reply_place a ≡ place_of (heard a)
heard_place (Ok accepted) = refl
heard_place (Err why) = refl

-- a test between two stages
at_test : {A : Type 0} (f : Stage → A) (b : Bool) (x y : Stage) → cond b (f x) (f y) ≡ f (cond b x y)
at_test f true x y = refl
at_test f false x y = refl

-- the figure of an accepted sheet is what is required
figure_required : (s : List ℕ) (w names : ℕ) → check_of s ≡ accepted_with w names → w ≡ required s
figure_required s w names e = (ruled s (w, names, e)).figure

abbrev Ending : List ℕ → (number place : ℕ) → Type 0
Ending s k p = ((k ≡ 13) × (p ≡ 0) × NoPlanAtAll s) ⊎ ((k ≡ 14) × (p ≡ 0) × NoPlanWithinBound s)

ending_high : (s : List ℕ) (k p : ℕ) → Ending s k p → 11 < k
ending_high s k p = ⊎_elim (λ c. omega (arith, c.0)) (λ c. omega (arith, c.0))

-- 13 and 14, of an accepted sheet
module _ (s : List ℕ) (accepted : Accepts s) where
  planned_by : (v : Verdict) → verdict_of s ≡ v → By (Ending s) (seen (answer_as (answer v)))
  planned_by (plan h t) e = λ k p. ⊎_elim (λ (a, b, c). no 13 ((thirteen_exactly s accepted).1 c)) (λ (a, b, c). no 14 ((fourteen_exactly s accepted).1 c))
    where
      no : (n : ℕ) → plan_of s ≡ meant.refused_by n → ⊥
      no n q = let z : ◌≡◌ {A = ℕ} 0 1 = let y : meant.found h t ≡ meant.refused_by n = sym (plan_is s accepted ∙ ap answer e) ∙ q in cc in omega arith
  planned_by nothing e = (
    inl (refl, refl, (thirteen_exactly s accepted).0 (plan_is s accepted ∙ ap answer e)),
    λ j q l. ⊎_elim (λ c. omega (arith, c.0)) (λ c. omega (arith, c.0)),
    λ q. ⊎_elim (λ c. c.1) (λ c. c.1),
  )
  planned_by more e = (
    inr (refl, refl, (fourteen_exactly s accepted).0 (plan_is s accepted ∙ ap answer e)),
    λ j q l. ⊎_elim (λ (a, b, c). no ((thirteen_exactly s accepted).1 c)) (λ c. omega (arith, c.0)),
    λ q. ⊎_elim (λ c. c.1) (λ c. c.1),
  )
    where
      no : plan_of s ≡ meant.refused_by 13 → ⊥
      no q = omega (arith, ap (λ (a : meant.PlanAnswer). plan_number (answer_as a)) (sym (plan_is s accepted ∙ ap answer e) ∙ q))

  searched_by : By (Ending s) (seen (answer_as (plan_of s)))
  searched_by = subst (λ (a : meant.PlanAnswer). By (Ending s) (seen (answer_as a))) (sym (plan_is s accepted)) (planned_by (verdict_of s) refl)

abbrev Eleven : List ℕ → (work number place : ℕ) → Type 0
Eleven s work k p = (k ≡ 11) × (p ≡ 0) × (work < required s)

short_work : (s : List ℕ) (w work : ℕ) → w ≡ required s → (ltb work w ≡ true) ↔ (work < required s)
short_work s w work e = (λ t. let l = ltb-true work w t in omega arith, λ l. lt-ltb work w (omega arith))

-- planning
module _ (s : List ℕ) (work trace : ℕ) where
  abbrev Lent : (number place : ℕ) → Type 0
  Lent k p = ((k ≡ 10) × (p ≡ 0) × (trace < bound_of s)) ⊎ (Eleven s work k p ⊎ Ending s k p)

  module _ (w names : ℕ) (accepted : check_of s ≡ accepted_with w names) where
    searched : Told 11 (Unit {0}) (Ending s) (seen (plan_at s (searching w)))
    searched = record { above = ending_high s; by = λ g. searched_by s (w, names, accepted) }

    lent : Told 9 (Unit {0}) Lent (seen (plan_at s (plan_checked s work trace (accepted_with w names))))
    lent =
        subst (Told 9 (Unit {0}) Lent)
        (ap (cond (ltb trace (bound_of s)) (Err (refusal_of 10 0))) (at_test (λ (c : Stage). seen (plan_at s c)) (ltb work w) (refused (refusal_of 11 0)) (searching w))
        ∙ at_test (λ (c : Stage). seen (plan_at s c)) (ltb trace (bound_of s)) (refused (refusal_of 10 0)) (with_work work w))
        (then (unplaced 10 _ (λ g. (ltb-true trace (bound_of s), lt-ltb trace (bound_of s)))) 9 (omega arith) (λ g e. g)
        (then (unplaced 11 _ (λ g. short_work s w work (figure_required s w names accepted))) 10 (omega arith) (λ g e. g) searched))

  lent_high : (k p : ℕ) → Lent k p → 9 < k
  lent_high k p = ⊎_elim (λ c. omega (arith, c.0)) (⊎_elim (λ c. omega (arith, c.0)) (⊎_elim (λ c. omega (arith, c.0)) (λ c. omega (arith, c.0))))

  plan_answered : By (PlanCause s work trace) (seen (answer_of s work trace))
  unfolding answer_of
  plan_answered = go (check_of s) refl (answered_by s) (numbered s)
    where
      go : (c : Checked) → check_of s ≡ c → By (Cause s) c → Numbered c → By (PlanCause s work trace) (seen (plan_at s (plan_checked s work trace c)))
      go (Ok a) e none n = wider (Cause s) Lent none (seen (plan_at s (plan_checked s work trace (Ok a)))) ((lent a.words a.names e).by tt)
      go (Err r) e by n = sooner (Cause s) Lent 9 r.number r.place n.1 lent_high by

  plan_some : (k p : ℕ) → PlanCause s work trace k p → 1 ≤ k
  plan_some k p = ⊎_elim (λ c. (caused s k p c).0) (λ c. let l = lent_high k p c in omega arith)

  -- "Checked in rising order"; "A number is given for its listed cause only"
  pub plan_number_exactly :
      (k p : ℕ) → 1 ≤ k → ((plan_number (answer_of s work trace) ≡ k) × (plan_place (answer_of s work trace) ≡ p)) ↔ First (PlanCause s work trace) k p
  plan_number_exactly =
      let a = answer_of s work trace in
      number_exactly (PlanCause s work trace) plan_some (seen a) plan_answered (plan_number a) (plan_place a) (seen_number a) (seen_place a)

  -- "A plan is what planning returns without a number": exactly where there is no cause
  pub planned_exactly : (plan_number (answer_of s work trace) ≡ 0) ↔ ((k p : ℕ) → ¬ PlanCause s work trace k p)
  planned_exactly =
      let a = answer_of s work trace in
      no_number_exactly (PlanCause s work trace) plan_some (seen a) plan_answered (plan_number a) (plan_place a) (seen_number a)

-- replay
module _ (s h : List ℕ) (work : ℕ) where
  module _ (w names : ℕ) (accepted : check_of s ≡ accepted_with w names) where
    replied_none : heard (replay_at s h (searching w)) ≡ accepted_with 0 0
    replied_none = ap (λ (r : meant.ReplayAnswer). heard (reply r)) (replay_is s (w, names, accepted) h)

    worked : By (Eleven s work) (heard (replay_at s h (replay_checked work (accepted_with w names))))
    worked =
        subst (By (Eleven s work))
        (ap (cond (ltb work w) (Err (refusal_of 11 0))) (sym replied_none)
        ∙ at_test (λ (c : Stage). heard (replay_at s h c)) (ltb work w) (refused (refusal_of 11 0)) (searching w))
        ((last (unplaced {G = Unit {0}} 11 _ (λ g. short_work s w work (figure_required s w names accepted))) 9 (omega arith) 0 0).by tt)

  replay_answered : By (ReplayCause s work) (heard (reply_of s h work))
  unfolding reply_of
  replay_answered = go (check_of s) refl (answered_by s) (numbered s)
    where
      go : (c : Checked) → check_of s ≡ c → By (Cause s) c → Numbered c → By (ReplayCause s work) (heard (replay_at s h (replay_checked work c)))
      go (Ok a) e none n = wider (Cause s) (Eleven s work) none (heard (replay_at s h (replay_checked work (Ok a)))) (worked a.words a.names e)
      go (Err r) e by n = sooner (Cause s) (Eleven s work) 9 r.number r.place n.1 (λ j q c. omega (arith, c.0)) by

  replay_some : (k p : ℕ) → ReplayCause s work k p → 1 ≤ k
  replay_some k p = ⊎_elim (λ c. (caused s k p c).0) (λ c. omega (arith, c.0))

  pub reply_number_exactly :
      (k p : ℕ) → 1 ≤ k → ((reply_number (reply_of s h work) ≡ k) × (reply_place (reply_of s h work) ≡ p)) ↔ First (ReplayCause s work) k p
  reply_number_exactly =
      let a = reply_of s h work in
      number_exactly (ReplayCause s work) replay_some (heard a) replay_answered (reply_number a) (reply_place a) (heard_number a) (heard_place a)

  -- "Replay says yes or no" exactly where there is no cause of a number
  pub replied_exactly : (reply_number (reply_of s h work) ≡ 0) ↔ ((k p : ℕ) → ¬ ReplayCause s work k p)
  replied_exactly =
      let a = reply_of s h work in
      no_number_exactly (ReplayCause s work) replay_some (heard a) replay_answered (reply_number a) (reply_place a) (heard_number a)

-- sizes: the numbers of the check
module _ (s : List ℕ) where
  sizes_number_lem : (c : Checked) → sizes_number (sized_as s c) ≡ number_of c
  sizes_number_lem (Ok a) = refl
  sizes_number_lem (Err why) = refl

  sizes_place_lem : (c : Checked) → sizes_place (sized_as s c) ≡ place_of c
  sizes_place_lem (Ok a) = refl
  sizes_place_lem (Err why) = refl

  sizes_some : (k p : ℕ) → Cause s k p → 1 ≤ k
  sizes_some k p c = (caused s k p c).0

  pub sizes_number_exactly : (k p : ℕ) → 1 ≤ k → ((sizes_number (sizes_of s) ≡ k) × (sizes_place (sizes_of s) ≡ p)) ↔ First (Cause s) k p
  unfolding sizes_of
  sizes_number_exactly =
      let c = check_of s in
      number_exactly (Cause s) sizes_some c (answered_by s) (sizes_number (sized_as s c)) (sizes_place (sized_as s c)) (sizes_number_lem c) (sizes_place_lem c)

  -- F and D are told exactly where there is no cause
  pub sizes_exactly : (sizes_number (sizes_of s) ≡ 0) ↔ ((k p : ℕ) → ¬ Cause s k p)
  unfolding sizes_of
  sizes_exactly =
      let c = check_of s in
      no_number_exactly (Cause s) sizes_some c (answered_by s) (sizes_number (sized_as s c)) (sizes_place (sized_as s c)) (sizes_number_lem c)
