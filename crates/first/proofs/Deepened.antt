-- The bounds one after the other: what the search reports at one of them ends the deepening, or the next is tried. A plan that is found has the
-- fewest transitions once no search for fewer finds one. Assumes nothing.
use Rattle.std.proofs.Common.{◌≡◌, ℕ, suc, ◌+◌, ◌-◌, ◌<◌, ◌≤◌, Bool, true, false, List, length, take, sym, refl, ap, ◌∙◌, subst, true≢false, arith}
use Rattle.runs.specs.Search.{Verdict, plan, nothing, more, Means}
use Rattle.runs.specs.First.{NoneBelow}
use Rattle.runs.specs.Guide.{unguided}
use Rattle.runs.specs.Bounded.{join, flagged}
use Rattle.runs.specs.Growing.{SoFar}
use Rattle.runs.proofs.Firsts.{none_below}
use Rattle.runs.proofs.Deepening.{so_far_none, so_far_nothing, so_far_more, so_far_all, fewest_met}
use Rattle.demands.specs.Decoded.{world_of, first_of, bound_of}
use Rattle.demands.specs.Planning.{Goes, Ends}
use Rattle.search.specs.Outcome.{ReportsVerdict, Reported, is_found, is_more}
use Rattle.search.specs.Searching.{verdict_from}
use Rattle.search.specs.declared.Outcome.{Outcome}
use Rattle.search.specs.declared.Outcome.TheVariants.{Found, More}
use Rattle.search.proofs.Reporting.{unfound_kept}
use Rattle.first.specs.Settling.{transition_count, Holds, FoundSoFar, FewestFound}
use Rattle.first.proofs.Asking.{unguided_means, found_run, no_run}

-- a plan was found within t transitions, where none has fewer than `low`
module _ {s : List ℕ} (low t : ℕ) (cut : Bool) (few : NoneBelow (Goes (world_of s)) (Ends (world_of s)) low (first_of s)) (l : t ≤ bound_of s) {trace trace' : List ℕ} {o : Outcome}
    (R : Reported 0 0 trace trace' o (join (flagged cut) (verdict_from s t (first_of s, unguided)))) (room : t ≤ length trace) where
  found_so_far : (n u : ℕ) → o ≡ Found n u → FoundSoFar s low trace' o × (u ≤ t)
  found_so_far n u e =
      let (k, m, f, b) = found_run s t unguided cut R n u e room in (
        record {
          verdict = plan (take n trace') u;
          holds = (e ∙ ap (λ (j : ℕ). Found j u) (sym k), ap (λ (j : ℕ). take j trace') k);
          means = record { within = omega arith; plan = f; none_below = few };
          not_more = ap is_more e;
        },
        m,
      )

-- the bounds below `low` were tried without a plan
pub record Tried (s : List ℕ) (low : ℕ) : Type 0 where
  pub none_so_far : SoFar (Goes (world_of s)) (Ends (world_of s)) low (bound_of s) (first_of s) more

pub tried_none : (s : List ℕ) → Tried s 0
tried_none s = record { none_so_far = so_far_none (Goes (world_of s)) (Ends (world_of s)) (bound_of s) (first_of s) }

-- the bound is raised: beyond those tried, at most one past d, with room for a plan
pub record Raising (s best : List ℕ) (d low : ℕ) : Type 0 where
  pub bound : d ≡ bound_of s
  pub room : d ≤ length best
  pub tried : Tried s low
  pub inside : low ≤ d + 1

-- a plan of fewer transitions is sought than that of the plan at hand
pub record Lowering (s best : List ℕ) (low : ℕ) (fewest : Outcome) : Type 0 where
  pub room : bound_of s ≤ length best
  pub so_far : FoundSoFar s low best fewest

module _ {s : List ℕ} {low : ℕ} (T : Tried s low) (t : ℕ) (l : t ≤ bound_of s) {trace trace' : List ℕ} {o : Outcome}
    (R : Reported 0 0 trace trace' o (verdict_from s t (first_of s, unguided))) where
  abbrev Meaning : Verdict → Type 0
  Meaning v = Means (Goes (world_of s)) (Ends (world_of s)) t (first_of s) v

  -- it goes on
  pub tried_on : is_more o ≡ true → Tried s (suc t)
  tried_on e = go (verdict_from s t (first_of s, unguided)) (unguided_means s t) R.says
    where
      go : (v : Verdict) → Meaning v → ReportsVerdict 0 0 trace trace' o v → Tried s (suc t)
      go (plan h u) m (q, z) = absurd (true≢false (sym e ∙ ap is_more q))
      go nothing m (q, z) = absurd (true≢false (sym e ∙ ap is_more q))
      go more m (q, z) = record { none_so_far = so_far_more (Goes (world_of s)) (Ends (world_of s)) (bound_of s) t (first_of s) m }

  -- it ends
  pub tried_out : t ≤ length trace → is_more o ≡ false → FoundSoFar s low trace' o
  tried_out room e = go (verdict_from s t (first_of s, unguided)) (unguided_means s t) R.says
    where
      go : (v : Verdict) → Meaning v → ReportsVerdict 0 0 trace trace' o v → FoundSoFar s low trace' o
      go (plan h u) m (q, z) = (found_so_far low t false T.none_so_far.0 l R room _ _ q).0
      go nothing m (q, z) =
          record {
            verdict = nothing;
            holds = q;
            means = so_far_nothing (Goes (world_of s)) (Ends (world_of s)) low (bound_of s) t (first_of s) l m;
            not_more = e;
          }
      go more m (q, z) = absurd (true≢false (sym (ap is_more q) ∙ e))

-- all bounds were tried
pub all_tried : {s : List ℕ} (trace : List ℕ) → Tried s (suc (bound_of s)) → FewestFound s trace More
all_tried {s} trace T = record { verdict = more; holds = refl; means = so_far_all (Goes (world_of s)) (Ends (world_of s)) (bound_of s) (first_of s) T.none_so_far }

module _ {s : List ℕ} {low : ℕ} {trace : List ℕ} {o : Outcome} (F : FoundSoFar s low trace o) where
  abbrev SoFarOf : Verdict → Type 0
  SoFarOf v = SoFar (Goes (world_of s)) (Ends (world_of s)) low (bound_of s) (first_of s) v

  -- no bound is between: nothing has fewer transitions
  pub lowest : transition_count o ≤ low → FewestFound s trace o
  lowest l = go F.verdict F.holds F.means
    where
      go : (v : Verdict) → Holds trace o v → SoFarOf v → FewestFound s trace o
      go (plan h t) (q, z) m =
          let y : transition_count o ≡ t = ap transition_count q in
          record { verdict = plan h t; holds = (q, z); means = fewest_met (Goes (world_of s)) (Ends (world_of s)) m (omega arith) }
      go nothing q m = record { verdict = nothing; holds = q; means = m }
      go more q m = absurd (true≢false (sym (ap is_more q) ∙ F.not_more))

  -- at most `left` were asked for, fewer than those at hand
  module _ (left : ℕ) (l : left < transition_count o) {trace' : List ℕ} {x : Outcome}
      (R : Reported 0 0 trace trace' x (join (flagged true) (verdict_from s left (first_of s, unguided)))) where
    -- there is none
    pub lowered_none : is_found x ≡ false → (trace' ≡ trace) × FoundSoFar s (left + 1) trace' o
    lowered_none z =
        let kept = unfound_kept 0 0 trace trace' x (join (flagged true) (verdict_from s left (first_of s, unguided))) R.says z in
        (kept, subst (λ (r : List ℕ). FoundSoFar s (left + 1) r o) (sym kept) (go F.verdict F.holds F.means))
      where
        few : NoneBelow (Goes (world_of s)) (Ends (world_of s)) (left + 1) (first_of s)
        few = none_below (Goes (world_of s)) (Ends (world_of s)) (left + 1) (first_of s) (λ n g y f. no_run s left unguided true R z n g (omega arith) f tt)

        go : (v : Verdict) → Holds trace o v → SoFarOf v → FoundSoFar s (left + 1) trace o
        go (plan h t) (q, k) m =
            record {
              verdict = plan h t;
              holds = (q, k);
              means = record { within = m.within; plan = m.plan; none_below = few };
              not_more = F.not_more;
            }
        go nothing q m = absurd (omega (arith, l, ap transition_count q))
        go more q m = absurd (omega (arith, l, ap transition_count q))

    -- there is one
    pub lowered : bound_of s ≤ length trace → (n u : ℕ) → x ≡ Found n u → FoundSoFar s low trace' (Found n u) × (u ≤ left)
    lowered room n u e = go F.verdict F.holds F.means
      where
        go : (v : Verdict) → Holds trace o v → SoFarOf v → FoundSoFar s low trace' (Found n u) × (u ≤ left)
        go (plan h t) (q, k) m =
            let within : left ≤ bound_of s = omega (arith, l, ap transition_count q, m.within) in
            let X = found_so_far low left true m.none_below within R (omega (arith, room, within)) n u e in
            (subst (FoundSoFar s low trace') e X.0, X.1)
        go nothing q m = absurd (omega (arith, l, ap transition_count q))
        go more q m = absurd (omega (arith, l, ap transition_count q))

-- at most `left` were asked for: a plan takes the place of that at hand, or none has so few
module _ {s best : List ℕ} {low : ℕ} {fewest : Outcome} (L : Lowering s best low fewest) (left : ℕ) (l : left < transition_count fewest) {best' : List ℕ} {x : Outcome}
    (R : Reported 0 0 best best' x (join (flagged true) (verdict_from s left (first_of s, unguided)))) (long : length best' ≡ length best) where
  pub lowering_found : low ≤ left → (n u : ℕ) → x ≡ Found n u → Lowering s best' low (Found n u) × (u - low < transition_count fewest - low)
  lowering_found e n u z =
      let X = lowered L.so_far left l R L.room n u z in
      (record { room = omega (arith, long, L.room); so_far = X.0 }, omega (arith, X.1, l, e))

  pub lowering_none : is_found x ≡ false → Lowering s best' (left + 1) fewest
  lowering_none z = record { room = omega (arith, long, L.room); so_far = (lowered_none L.so_far left l R z).1 }
