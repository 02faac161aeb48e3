-- A search for a plan under a guide answers by runs of the sheet: what it finds is the history of a run that ends final and obeys the guide,
-- and where it finds nothing there is none. Assumes nothing.
use Rattle.std.proofs.Common.{◌≡◌, ℕ, ◌≤◌, Bool, true, false, List, length, take, Some, None, refl, sym, ap, ◌∙◌, subst, ap₂, arith, take-take}
use Rattle.runs.specs.Search.{is_plan, Means}
use Rattle.runs.specs.Guide.{Guide, unguided, along, Obeys}
use Rattle.runs.specs.Bounded.{join, flagged}
use Rattle.runs.proofs.Searched.{search_means}
use Rattle.runs.proofs.Bounded.{outcome_unguided, plan_obeys, none_obeys}
use Rattle.runs.proofs.Histories.{run_length}
use Rattle.runs.proofs.Joined.{flag_plan, flag_plan_is}
use Rattle.demands.specs.Decoded.{world_of, first_of}
use Rattle.demands.specs.Planning.{Goes, Ends, RunOf, transitions_in, is_final_in}
use Rattle.demands.proofs.Demands.{listed, decided}
use Rattle.search.specs.Outcome.{Reported, is_found}
use Rattle.search.specs.Searching.{verdict_from}
use Rattle.search.specs.declared.Window.{Window}
use Rattle.search.specs.declared.Outcome.{Outcome}
use Rattle.search.specs.declared.Outcome.TheVariants.{Found, Nothing, More}
use Rattle.search.proofs.Reporting.{found_says, found_plan}
use Rattle.first.specs.Settling.{Within, asking, Answers}
use Rattle.first.specs.declared.History.{History}
use Rattle.first.proofs.Histories.{laid_history}

-- where nothing is asked, the verdict says what it says of the sheet's runs
pub unguided_means : (s : List ℕ) (k : ℕ) → Means (Goes (world_of s)) (Ends (world_of s)) k (first_of s) (verdict_from s k (first_of s, unguided))
unguided_means s k =
    let W = world_of s in
    subst (Means (Goes W) (Ends W) k (first_of s)) (sym (outcome_unguided (transitions_in W) (is_final_in W) k (first_of s)))
    (search_means (Goes W) (Ends W) (transitions_in W) (is_final_in W) (listed W) (decided W) k (first_of s))

-- a history has no more entries than its run has transitions
pub ends_length : (s : List ℕ) (t : ℕ) (h : List ℕ) → RunOf s h t → length h ≤ t
ends_length s t h (d, run, end) = run_length (Goes (world_of s)) t (first_of s) h d run

-- what a search for a plan of at most t transitions under a guide reports, with or without a flag
module _ (s : List ℕ) (t : ℕ) (g : Guide) (cut : Bool) {trace trace' : List ℕ} {o : Outcome}
    (R : Reported 0 0 trace trace' o (join (flagged cut) (verdict_from s t (first_of s, g)))) where
  -- a plan: the history of a run that ends final and obeys the guide stands in front
  pub found_run :
      (n u : ℕ) → o ≡ Found n u → t ≤ length trace
      → (length (take n trace') ≡ n) × (u ≤ t) × RunOf s (take n trace') u × Obeys g (take n trace')
  found_run n u e l =
      let W = world_of s in
      let v = verdict_from s t (first_of s, g) in
      let (h, z, k, q) = found_says trace trace' o (join (flagged cut) v) n u e R.says in
      let (m, f, b) = plan_obeys (transitions_in W) (is_final_in W) (Goes W) (Ends W) (listed W) (decided W) t (first_of s) g h u (flag_plan_is cut v h u z) in
      let same : h ≡ take n trace' = sym (ap₂ take k q ∙ laid_history trace h (omega (arith, ends_length s u h f))) in
      (ap length (sym same) ∙ sym k, m, subst (λ (h : List ℕ). RunOf s h u) same f, subst (Obeys g) same b)

  -- none: no such run has a history that does
  pub no_run : is_found o ≡ false → (u : ℕ) (h : List ℕ) → u ≤ t → RunOf s h u → ¬ Obeys g h
  no_run e u h =
      let W = world_of s in
      let v = verdict_from s t (first_of s, g) in
      let q : is_plan v ≡ false = sym (flag_plan cut v) ∙ sym (found_plan 0 0 trace trace' o (join (flagged cut) v) R.says) ∙ e in
      none_obeys (transitions_in W) (is_final_in W) (Goes W) (Ends W) (listed W) (decided W) t (first_of s) g q u h

-- the first i entries of a history and a window were asked for
module _ (s : List ℕ) (t : ℕ) (h : History) (i : ℕ) (w : Window) (l : i ≤ h.n) where
  same_guide : along (take i h.entries) w.low w.high ≡ asking h i w
  same_guide = ap (λ (m : List ℕ). along m w.low w.high) (sym (take-take i h.n h.entries l))

  module _ (few : t ≤ 64) (held : Within h) {entries : List ℕ} {o : Outcome}
      (R : Reported 0 0 h.entries entries o (join (flagged true) (verdict_from s t (first_of s, along (take i h.entries) w.low w.high)))) where
    pub asked_yes :
        (n u : ℕ) → length entries ≡ length h.entries → o ≡ Found n u
        → Answers s t h i w (Some (record { entries = entries; n = n }))
    asked_yes n u long e =
        let (k, m, f, b) = found_run s t _ true R n u e (omega (arith, held.places)) in (
          record { places = long ∙ held.places; few = omega (arith, ends_length s u (take n entries) f) },
          (u, m, f),
          subst (λ (g : Guide). Obeys g (take n entries)) same_guide b,
        )

    pub asked_no : is_found o ≡ false → Answers s t h i w None
    asked_no e u g m f b = no_run s t _ true R e u g m f (subst (λ (x : Guide). Obeys x g) (sym same_guide) b)

-- what is no plan
pub no_plan : (o : Outcome) → ((n t : ℕ) → ¬ (o ≡ Found n t)) → is_found o ≡ false
no_plan (Found n t) k = absurd (k n t refl)
no_plan Nothing k = refl
no_plan More k = refl
