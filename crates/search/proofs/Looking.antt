-- What can be told of a configuration before a transition is made: it is over, final where a history may end; or the bound is reached,
-- and it has a transition or none; or nothing later matters, by the law of pruning. Else the verdict is that on its transitions. Assumes
-- nothing.
use Rattle.std.specs.Prelude.{Ok, Err}
use Prim.Native.Nat.{ℕ, zero, suc, ◌-◌, ◌≤◌, ◌<◌}
use native.Mathlib.Nat.{add-zero}
use native.Mathlib.Omega.{arith}
use mathlib.Core.Bool.{Bool, true, false, not, ◌&&◌}
use mathlib.Core.List.{List, [], ◌∷◌, Memᴰ}
use mathlib.Core.Path.{◌≡◌, refl, sym, ◌∙◌, ap, ap₂, subst}
use Rattle.golog.specs.Prog.{Prog}
use Rattle.golog.specs.Transitions.{Configuration, Transition, is_none}
use Rattle.golog.specs.Distance.{distance}
use Rattle.golog.proofs.Distance.{final_near, step_near}
use Rattle.runs.specs.Search.{plan, nothing, any_transition, tries, unless}
use Rattle.runs.specs.Guide.{Guide, may_end, guided_transitions}
use Rattle.runs.specs.Bounded.{join, flagged}
use Rattle.runs.specs.Pruning.{NoneEndsLater}
use Rattle.runs.proofs.Pruned.{pruned, none_near}
use Rattle.demands.specs.Decoded.{world_of}
use Rattle.demands.specs.Planning.{transitions_in, is_final_in}
use Rattle.engine.specs.Tables.{Prepared, Surveyed, Filled}
use Rattle.engine.specs.Frames.{Frame}
use Rattle.engine.specs.Going.{transitions_of, is_final, Ahead, Tells}
use Rattle.engine.specs.declared.Findings.{Findings}
use Rattle.search.specs.Outcome.{told, ReportsVerdict, Reported}
use Rattle.search.specs.Searching.{verdict_from, branches_of, configured, guide_of, Visited, LookedAt}
use Rattle.search.specs.declared.Task.{Task}
use Rattle.search.specs.declared.Visit.{Visit}
use Rattle.search.specs.declared.Outcome.TheVariants as o
use Rattle.search.proofs.Rows.{says_flag}

any_flag : (xs : List Transition) → any_transition xs ≡ flagged (not (is_none xs))
any_flag [] = refl
any_flag (x ∷ xs) = refl

plan_stays : (cut : Bool) → join (flagged cut) (plan [] 0) ≡ plan [] 0
plan_stays true = refl
plan_stays false = refl

-- x is whether it is over: a history may end here, and it is final
module _ (s : List ℕ) (c : Configuration) (g : Guide) (n d : ℕ) (cut x : Bool) (e : x ≡ (may_end g && is_final s c)) where
  here : (left : ℕ) → x ≡ true → verdict_from s left (c, g) ≡ plan [] 0
  here zero y = ap (λ (b : Bool). unless b (any_transition (transitions_of s c))) (sym e ∙ y)
  here (suc left) y =
      ap (λ (b : Bool). unless b (tries (λ (d : Configuration × Guide). verdict_from s left d) (guided_transitions (transitions_in (world_of s)) (c, g)))) (sym e ∙ y)

  pub over : (left : ℕ) (h : List ℕ) → x ≡ true → Reported n d h h (o.Found n d) (join (flagged cut) (verdict_from s left (c, g)))
  over left h y =
      record {
        says =
            subst (ReportsVerdict n d h h (o.Found n d)) (sym (ap (join (flagged cut)) (here left y) ∙ plan_stays cut))
            (ap₂ o.Found (sym (add-zero n)) (sym (add-zero d)), refl);
      }

  -- it is not over, the bound ran out before, and none ends later
  left_out :
      (left : ℕ) (h : List ℕ) → x ≡ false → cut ≡ true → NoneEndsLater (transitions_in (world_of s)) (is_final_in (world_of s)) left (c, g)
      → Reported n d h h o.More (join (flagged cut) (verdict_from s left (c, g)))
  left_out left h y ce none =
      record {
        says =
            subst (ReportsVerdict n d h h o.More)
            (sym (ap (λ (b : Bool). join (flagged b) (verdict_from s left (c, g))) ce
            ∙ pruned (transitions_in (world_of s)) (is_final_in (world_of s)) left (c, g) none
            ∙ ap (λ (b : Bool). join (flagged true) (unless b nothing)) (sym e ∙ y)))
            (refl, refl);
      }

  -- at the bound
  pub last_out : (left : ℕ) (h : List ℕ) → x ≡ false → cut ≡ true → left ≡ 0 → Reported n d h h o.More (join (flagged cut) (verdict_from s left (c, g)))
  last_out left h y ce z = rw z (left_out 0 h y ce tt)

  -- before it, where every transition leads so far from an end that it is not reached within the others
  pub far_out :
      (left : ℕ) (h : List ℕ) → x ≡ false → cut ≡ true → 1 ≤ left → ((y : Transition) → Memᴰ y (transitions_of s c) → left ≤ distance y.1.0)
      → Reported n d h h o.More (join (flagged cut) (verdict_from s left (c, g)))
  far_out left h y ce l far =
      let W = world_of s in
      let z : left ≡ suc (left - 1) = omega arith in
      rw z (left_out (suc (left - 1)) h y ce (none_near (transitions_in W) (is_final_in W) (λ (c : Configuration). distance c.0) (λ c. final_near W c.0 c.1)
      (λ c. step_near W c.0 c.1) (left - 1) c g (λ y k. omega (arith, far y k))))

  -- at the bound, where it did not run out before: is there a transition more?
  pub at_bound : (left : ℕ) (spent : Bool) (h : List ℕ) → x ≡ false → cut ≡ false → left ≡ 0 → spent ≡ is_none (transitions_of s c) →
      Reported n d h h (told (not spent)) (join (flagged cut) (verdict_from s left (c, g)))
  at_bound left spent h y ce z es =
      record {
        says =
            subst (ReportsVerdict n d h h (told (not spent)))
            (sym (ap₂ (λ (b : Bool) (k : ℕ). join (flagged b) (verdict_from s k (c, g))) ce z
            ∙ ap (λ (b : Bool). unless b (any_transition (transitions_of s c))) (sym e ∙ y)
            ∙ any_flag (transitions_of s c)
            ∙ ap (λ (b : Bool). flagged (not b)) (sym es)))
            (says_flag n d h (not spent));
      }

  -- before it, the verdict is that on the transitions
  pub on_ward : (left : ℕ) → x ≡ false → 1 ≤ left → verdict_from s left (c, g) ≡ branches_of s left g (transitions_of s c)
  on_ward left y l =
      let k : left ≡ suc (left - 1) = omega arith in
      ap (λ (k : ℕ). verdict_from s k (c, g)) k
      ∙ ap (λ (b : Bool). unless b (branches_of s left g (transitions_of s c))) (sym e ∙ y)

-- what is told of a visit that was looked at. x is whether it is over, `done` whether it is final
module _
    {s w moves : List ℕ} {t : Task} {q : Visit} {flags flags' : List Bool} {numbers numbers' : List ℕ} {x done : Bool}
    (P : Prepared s flags' numbers') (F : Filled q.depth q.depth flags flags' numbers numbers') (e : x ≡ (may_end (guide_of moves t q) && done))
    (final : (left : ℕ) (p : Prog) → Frame s left w q.depth p → done ≡ is_final s (configured q p)) where
  is : {p : Prog} → Visited s w moves t q p → x ≡ (may_end (guide_of moves t q) && is_final s (configured q p))
  is {p} Y = e ∙ ap (λ (b : Bool). may_end (guide_of moves t q) && b) (final _ p Y.frame)

  module _ {cut : Bool} where
    pub told_over : x ≡ true → LookedAt s w moves t q cut flags flags' numbers numbers' (Err (o.Found q.n q.depth))
    told_over y = record { prepared = P; filled = F; says = λ p Y h. over s (configured q p) (guide_of moves t q) q.n q.depth cut x (is Y) q.left h y }

    pub told_last : x ≡ false → (cut ≡ true) × (q.left ≡ 0) → LookedAt s w moves t q cut flags flags' numbers numbers' (Err o.More)
    told_last y z = record {
      prepared = P;
      filled = F;
      says = λ p Y h. last_out s (configured q p) (guide_of moves t q) q.n q.depth cut x (is Y) q.left h y z.0 z.1;
    }

-- the same after a survey
module _
    {s w moves : List ℕ} {t : Task} {q : Visit} {flags flags' : List Bool} {numbers numbers' : List ℕ} {x : Bool} {f : Findings}
    (S : Surveyed s q.state q.depth flags' numbers') (F : Filled q.depth q.depth flags flags' numbers numbers') (e : x ≡ (may_end (guide_of moves t q) && f.done))
    (T : (left : ℕ) (p : Prog) → Frame s left w q.depth p → Tells s (configured q p) f) where
  pub surveyed_over : {cut : Bool} → x ≡ true → LookedAt s w moves t q cut flags flags' numbers numbers' (Err (o.Found q.n q.depth))
  surveyed_over = told_over S.prepared F e (λ left p Y. (T left p Y).final_is)

  abbrev is_now : {p : Prog} → Visited s w moves t q p → x ≡ (may_end (guide_of moves t q) && is_final s (configured q p))
  is_now = is S.prepared F e (λ left p Y. (T left p Y).final_is)

  module _ {cut : Bool} (y : x ≡ false) where
    pub surveyed_last :
        {spent : Bool} → cut ≡ false → q.left ≡ 0
        → ((s : List ℕ) (c : Configuration) (xs : List Transition) → Ahead s c f.first xs → spent ≡ is_none xs)
        → LookedAt s w moves t q cut flags flags' numbers numbers' (Err (told (not spent)))
    surveyed_last {spent} ce z none = record {
      prepared = S.prepared;
      filled = F;
      says = λ p Y h. at_bound s (configured q p) (guide_of moves t q) q.n q.depth cut x (is_now Y) q.left spent h y ce z (none _ _ _ (T _ p Y.frame).first);
    }

    pub surveyed_far : 1 ≤ q.left → (cut ≡ true) × (q.left < f.soon) → LookedAt s w moves t q cut flags flags' numbers numbers' (Err o.More)
    surveyed_far l z = record {
      prepared = S.prepared;
      filled = F;
      says = λ p Y h.
          far_out s (configured q p) (guide_of moves t q) q.n q.depth cut x (is_now Y) q.left h y z.0 l (λ d k. omega (arith, z.1, (T _ p Y.frame).far d k));
    }

    pub surveyed_on : 1 ≤ q.left → LookedAt s w moves t q cut flags flags' numbers numbers' (Ok f.first)
    surveyed_on l = record {
      prepared = S.prepared;
      filled = F;
      says = λ p Y. record {
        some_left = l;
        surveyed = S;
        first = (T _ p Y.frame).first;
        same = ap (join (flagged cut)) (on_ward s (configured q p) (guide_of moves t q) q.n q.depth cut x (is_now Y) q.left y l);
      };
    }
