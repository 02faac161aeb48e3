-- The search over frames serves every strategy: where nothing is asked it is the plain search, and under any guide it finds the plan that
-- the guided search finds, since what it says at the bound is no plan. So a plan is a run whose history obeys the guide, and where there
-- is no plan there is no such run. Assumes nothing.
use Prim.Native.Nat.{ℕ, zero, suc, ◌≤◌}
use mathlib.Core.Bool.{Bool, true, false, ◌||◌}
use mathlib.Core.List.{List, [], ◌∷◌, ◌++◌}
use mathlib.Core.Option.{Option, none, some}
use mathlib.Core.Path.{◌≡◌, refl, sym, ◌∙◌, ap, ap₂}
use mathlib.Core.Bool.{true≢false}
use Rattle.runs.specs.Search.{Verdict, plan, nothing, more, is_plan, before, tries, any_transition, unless, search, Lists, DecidesFinal, Means}
use Rattle.runs.specs.First.{FinalAt}
use Rattle.runs.specs.Guide.{Guide, unguided, follow, guided_transitions, guided_final, GuidedTrans, GuidedEnds, Obeys, exactly, accepts}
use Rattle.runs.specs.Bounded.{verdict_within, join}
use Rattle.runs.proofs.Verdicts.{says, plan_iff}
use Rattle.runs.proofs.Guided.{guided_means, guided_final_lem}

-- the verdict on two rows of transitions, one after the other
before_join : (m : Option ℕ) (v r t : Verdict) → before m v (join r t) ≡ join (before m v r) t
before_join m (plan h u) r t = refl
before_join m nothing r t = refl
before_join m more (plan h u) t = refl
before_join m more nothing t = refl
before_join m more more (plan h u) = refl
before_join m more more nothing = refl
before_join m more more more = refl

module _ {C : Type 0} where
  pub tries_append : (f : C → Verdict) (xs ys : List (Option ℕ × C)) → tries f (xs ++ ys) ≡ join (tries f xs) (tries f ys)
  tries_append f [] ys = refl
  tries_append f (x ∷ xs) ys =
      ap (before x.0 (f x.1)) (tries_append f xs ys) ∙ before_join x.0 (f x.1) (tries f xs) (tries f ys)

  tries_unguided :
      (f : C × Guide → Verdict) (g : C → Verdict) → ((d : C) → f (d, unguided) ≡ g d) → (xs : List (Option ℕ × C)) → tries f (follow unguided xs) ≡ tries g xs
  tries_unguided f g e [] = refl
  tries_unguided f g e ((none, d) ∷ xs) = ap₂ (before none) (e d) (tries_unguided f g e xs)
  tries_unguided f g e ((some a, d) ∷ xs) = ap₂ (before (some a)) (e d) (tries_unguided f g e xs)

  -- where nothing is asked
  pub outcome_unguided :
      (transitions : C → List (Option ℕ × C)) (final : C → Bool) (k : ℕ) (c : C) → verdict_within transitions final k (c, unguided) ≡ search transitions final k c
  outcome_unguided transitions final zero c = refl
  outcome_unguided transitions final (suc k) c =
      ap (unless (final c))
      (tries_unguided (λ (d : C × Guide). verdict_within transitions final k d) (λ (d : C). search transitions final k d) (λ d. outcome_unguided transitions final k d) (transitions c))

-- the plan of a verdict, whatever it says without one
abbrev plan_only : Verdict → Verdict
plan_only (plan h t) = plan h t
plan_only nothing = nothing
plan_only more = nothing

plan_before : (m : Option ℕ) (v r : Verdict) → plan_only (before m v r) ≡ before m (plan_only v) (plan_only r)
plan_before m (plan h t) r = refl
plan_before m nothing r = refl
plan_before m more (plan h t) = refl
plan_before m more nothing = refl
plan_before m more more = refl

any_none : {C : Type 0} (xs : List (Option ℕ × C)) → plan_only (any_transition xs) ≡ nothing
any_none [] = refl
any_none (x ∷ xs) = refl

plan_unless : (b : Bool) (v w : Verdict) → plan_only v ≡ plan_only w → plan_only (unless b v) ≡ plan_only (unless b w)
plan_unless true v w e = refl
plan_unless false v w e = e

plan_tries : {D : Type 0} (f g : D → Verdict) → ((d : D) → plan_only (f d) ≡ plan_only (g d)) → (xs : List (Option ℕ × D)) → plan_only (tries f xs) ≡ plan_only (tries g xs)
plan_tries f g e [] = refl
plan_tries f g e (x ∷ xs) =
    plan_before x.0 (f x.1) (tries f xs)
    ∙ ap₂ (before x.0) (e x.1) (plan_tries f g e xs)
    ∙ sym (plan_before x.0 (g x.1) (tries g xs))

-- whether there is one
pub is_plan_before : (m : Option ℕ) (v r : Verdict) → is_plan (before m v r) ≡ (is_plan v || is_plan r)
is_plan_before m (plan h t) r = refl
is_plan_before m nothing r = refl
is_plan_before m more (plan h t) = refl
is_plan_before m more nothing = refl
is_plan_before m more more = refl

pub is_plan_any : {C : Type 0} (xs : List (Option ℕ × C)) → is_plan (any_transition xs) ≡ false
is_plan_any [] = refl
is_plan_any (x ∷ xs) = refl

-- two verdicts with the same plan
same_is_plan : (v w : Verdict) → plan_only v ≡ plan_only w → is_plan v ≡ is_plan w
same_is_plan v w e = sym (go v) ∙ ap is_plan e ∙ go w
  where
    go : (v : Verdict) → is_plan (plan_only v) ≡ is_plan v
    go (plan h t) = refl
    go nothing = refl
    go more = refl

same_plan : (v w : Verdict) (h : List ℕ) (t : ℕ) → plan_only v ≡ plan_only w → v ≡ plan h t → w ≡ plan h t
same_plan v w h t e q = go w (sym (ap plan_only q) ∙ e)
  where
    go : (w : Verdict) → plan h t ≡ plan_only w → w ≡ plan h t
    go (plan g u) z = sym z
    go nothing z = sym z
    go more z = cc

module _ {C : Type 0} (transitions : C → List (Option ℕ × C)) (final : C → Bool) where
  abbrev guided : ℕ → C × Guide → Verdict
  guided = search (guided_transitions transitions) (guided_final final)

  outcome_plan : (k : ℕ) (c : C × Guide) → plan_only (verdict_within transitions final k c) ≡ plan_only (guided k c)
  outcome_plan zero c = plan_unless (guided_final final c) _ _ (any_none (transitions c.0) ∙ sym (any_none (guided_transitions transitions c)))
  outcome_plan (suc k) c =
      plan_unless (guided_final final c) _ _
      (plan_tries (λ (d : C × Guide). verdict_within transitions final k d) (λ (d : C × Guide). guided k d) (λ d. outcome_plan k d) (guided_transitions transitions c))

  finds_as : (k : ℕ) (c : C × Guide) → is_plan (verdict_within transitions final k c) ≡ is_plan (guided k c)
  finds_as k c = same_is_plan (verdict_within transitions final k c) (guided k c) (outcome_plan k c)

  -- replay
  pub outcome_exactly : (k : ℕ) (c : C) (h : List ℕ) → is_plan (verdict_within transitions final k (c, exactly h)) ≡ accepts transitions final k c h
  outcome_exactly k c h = finds_as k (c, exactly h)

  module _ (Trans : C → Option ℕ → C → Type 0) (Ends : C → Type 0) (listed : Lists transitions Trans) (decided : DecidesFinal final Ends) where
    means : (k : ℕ) (c : C × Guide) → Means (GuidedTrans Trans) (GuidedEnds Ends) k c (guided k c)
    means = guided_means Trans Ends transitions final listed decided

    -- a plan is the history of a run that ends final, and obeys the guide
    pub plan_obeys : (k : ℕ) (c : C) (g : Guide) (h : List ℕ) (t : ℕ) → verdict_within transitions final k (c, g) ≡ plan h t → (t ≤ k) × FinalAt Trans Ends t c h × Obeys g h
    plan_obeys k c g h t e =
        let same = same_plan (verdict_within transitions final k (c, g)) (guided k (c, g)) h t (outcome_plan k (c, g)) e in
        let (d, l, run, end) = says (GuidedTrans Trans) (GuidedEnds Ends) guided means k (c, g) (plan h t) same in
        let (f, o) = (guided_final_lem Trans Ends t c g h).0 (d, run, end) in
        (l, f, o)

    -- without a plan no such run has a history that does
    pub none_obeys :
        (k : ℕ) (c : C) (g : Guide) → is_plan (verdict_within transitions final k (c, g)) ≡ false
        → (t : ℕ) (h : List ℕ) → t ≤ k → FinalAt Trans Ends t c h → ¬ Obeys g h
    none_obeys k c g e t h l f o =
        let (d, run, end) = (guided_final_lem Trans Ends t c g h).1 (f, o) in
        let (h', u, q) = (plan_iff (GuidedTrans Trans) (GuidedEnds Ends) guided means k (c, g)).1 (t, h, d, l, run, end) in
        true≢false (sym (ap is_plan q) ∙ sym (finds_as k (c, g)) ∙ e)
