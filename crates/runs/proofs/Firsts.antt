-- There is at most one first plan, and `first_plan` computes it: the least history from c is the least, over its transitions, of the move
-- and the least history from where it leads, since a move in front keeps the order; and the numbers of transitions are tried upwards.
-- So there is one exactly where some run within the bound ends final, and a higher bound keeps it. Assumes nothing.
use Prim.Native.Nat.{ℕ, zero, suc, ◌+◌, ◌≤◌, ◌<◌, zero-le}
use native.Mathlib.Omega.{arith}
use native.Mathlib.Nat.{le_antisymm}
use native.Mathlib.Decide.{dec_le}
use mathlib.Core.Bool.{Bool, true, false, cond}
use mathlib.Core.List.Memᴰ
use mathlib.Core.List.{List, [], ◌∷◌, Memᴰ}
use mathlib.Core.Logic.{◌⊎◌, inl, inr, ⊎_elim, ◌↔◌}
use mathlib.Core.Option.{Option, none, some}
use mathlib.Core.Path.{◌≡◌, refl, ap₂, sym, subst}
use lib.Dec.{T}
use Rattle.runs.specs.Runs.{add, FinalRun}
use Rattle.runs.specs.Search.{Verdict, plan, nothing, more, search, Lists, DecidesFinal, Means}
use Rattle.runs.specs.Order.{AtMost}
use Rattle.runs.specs.First.{FinalAt, NoneBelow, IsFirst}
use Rattle.runs.specs.Earliest.{at_most, lesser, onto, least_of, if_final, or_else, least_at, earliest, first_plan, MeansFirst}
use Rattle.runs.proofs.Searched.{search_means}
use Rattle.runs.proofs.Ordered.{at_most_iff, at_most_trans, at_most_antisym, at_most_total, none_at_most, entry_at_most}

-- a move in front keeps the order
add_at_most : (m : Option ℕ) (h g : List ℕ) → AtMost h g → AtMost (add m h) (add m g)
add_at_most none h g w = w
add_at_most (some a) h g w = (entry_at_most a a h g).1 (inr (refl, w))

-- the least of the histories that P holds of; or that it holds of none
abbrev LeastIn : (P : List ℕ → Type 0) → Option (List ℕ) → Type 0
LeastIn P none = (h : List ℕ) → ¬ P h
LeastIn P (some h) = P h × ((g : List ℕ) → P g → AtMost h g)

least_iff : (P Q : List ℕ → Type 0) → ((h : List ℕ) → P h ↔ Q h) → (o : Option (List ℕ)) → LeastIn P o → LeastIn Q o
least_iff P Q i none p = λ h q. p h ((i h).1 q)
least_iff P Q i (some h) p = ((i h).0 p.0, λ g q. p.1 g ((i g).1 q))

-- R holds of what P or Q holds of: the lesser of the two least is the least
least_lesser : (P Q R : List ℕ → Type 0) → ((h : List ℕ) → (P h ⊎ Q h) ↔ R h) → (o p : Option (List ℕ)) → LeastIn P o → LeastIn Q p → LeastIn R (lesser o p)
least_lesser P Q R i none none l m = λ h r. ⊎_elim (l h) (m h) ((i h).1 r)
least_lesser P Q R i none (some g) l m = ((i g).0 (inr m.0), λ f r. ⊎_elim (λ x. absurd (l f x)) (m.1 f) ((i f).1 r))
least_lesser P Q R i (some h) none l m = ((i h).0 (inl l.0), λ f r. ⊎_elim (l.1 f) (λ y. absurd (m f y)) ((i f).1 r))
least_lesser P Q R i (some h) (some g) l m = go (at_most h g) (at_most_iff h g)
  where
    back : ¬ AtMost h g → AtMost g h
    back n = ⊎_elim (λ w. absurd (n w)) (λ w. w) (at_most_total h g)

    go : (b : Bool) → T b ↔ AtMost h g → LeastIn R (some (cond b h g))
    go true w = ((i h).0 (inl l.0), λ f r. ⊎_elim (l.1 f) (λ y. at_most_trans h g f (w.0 tt) (m.1 f y)) ((i f).1 r))
    go false w = ((i g).0 (inr m.0), λ f r. ⊎_elim (λ x. at_most_trans g h f (back w.1) (l.1 f x)) (m.1 f) ((i f).1 r))

-- the least with a move in front
least_onto : (m : Option ℕ) (P : List ℕ → Type 0) (o : Option (List ℕ)) → LeastIn P o → LeastIn (λ (h : List ℕ). (r : List ℕ) × (h ≡ add m r) × P r) (onto m o)
least_onto m P none l = λ h (r, e, p). l r p
least_onto m P (some h) l = ((h, refl, l.0), λ g (r, e, p). subst (AtMost (add m h)) (sym e) (add_at_most m h r (l.1 r p)))

module _ {C : Type 0} (Trans : C → Option ℕ → C → Type 0) (Ends : C → Type 0) where
  -- no run of so few transitions ends final: each that does has as many
  pub none_below : (t : ℕ) (c : C) → ((n : ℕ) (g : List ℕ) → n < t → ¬ FinalAt Trans Ends n c g) → NoneBelow Trans Ends t c
  none_below t c no_run n g f = go (dec_le t n)
    where
      go : Dec (t ≤ n) → t ≤ n
      go (yes l) = l
      go (no l) = absurd (no_run n g (omega arith) f)

  -- "Plan and t are thus decided": there is only one
  pub first_unique : (k : ℕ) (c : C) (h g : List ℕ) (t u : ℕ) → IsFirst Trans Ends k c h t → IsFirst Trans Ends k c g u → (h ≡ g) × (t ≡ u)
  first_unique k c h g t u F G =
      let e : t ≡ u = le_antisymm (F.fewest u g G.plan) (G.fewest t h F.plan) in (
        at_most_antisym h g (F.smallest g (subst (λ (n : ℕ). FinalAt Trans Ends n c g) (sym e) G.plan))
            (G.smallest h (subst (λ (n : ℕ). FinalAt Trans Ends n c h) e F.plan)),
        e,
      )

  -- the first plan is a plan
  first_means : (k : ℕ) (c : C) (v : Verdict) → MeansFirst Trans Ends k c v → Means Trans Ends k c v
  first_means k c (plan h t) F = let (d, run, end) = F.plan in (d, F.within, run, end)
  first_means k c nothing p = p
  first_means k c more p = p

  first_final : (k : ℕ) (c : C) (h : List ℕ) (t : ℕ) → IsFirst Trans Ends k c h t → FinalRun Trans Ends k c
  first_final k c h t F = let (d, run, end) = F.plan in (t, h, d, F.within, run, end)

  -- so what it says fixes the verdict
  verdict_unique : (k : ℕ) (c : C) (v w : Verdict) → MeansFirst Trans Ends k c v → MeansFirst Trans Ends k c w → v ≡ w
  verdict_unique k c (plan h t) (plan g u) p q = let e = first_unique k c h g t u p q in ap₂ plan e.0 e.1
  verdict_unique k c (plan h t) nothing p q = absurd (q.0 (first_final k c h t p))
  verdict_unique k c (plan h t) more p q = absurd (q.0 (first_final k c h t p))
  verdict_unique k c nothing (plan h t) p q = absurd (p.0 (first_final k c h t q))
  verdict_unique k c nothing nothing p q = refl
  verdict_unique k c nothing more p q = absurd (p.1 q.1)
  verdict_unique k c more (plan h t) p q = absurd (p.0 (first_final k c h t q))
  verdict_unique k c more nothing p q = absurd (q.1 p.1)
  verdict_unique k c more more p q = refl

  -- the histories of final runs that begin with a transition of the list and have t more
  abbrev Through : ℕ → List (Option ℕ × C) → List ℕ → Type 0
  Through t xs h = (m : Option ℕ) × (e : C) × (r : List ℕ) × Memᴰ (m, e) xs × (h ≡ add m r) × FinalAt Trans Ends t e r

  -- the first transition's, and the later ones'
  through_cons :
      (t : ℕ) (x : Option ℕ × C) (xs : List (Option ℕ × C)) (h : List ℕ)
      → (((r : List ℕ) × (h ≡ add x.0 r) × FinalAt Trans Ends t x.1 r) ⊎ Through t xs h) ↔ Through t (x ∷ xs) h
  through_cons t x xs h = (
    ⊎_elim (λ (r, e, f). (x.0, x.1, r, Memᴰ.head refl, e, f)) (λ (m, e, r, k, q, f). (m, e, r, Memᴰ.tail k, q, f)),
    λ (m, e, r, k, q, f). ⊎_elim (λ z. let w = subst (P r) z (q, f) in inl (r, w.0, w.1)) (λ j. inr (m, e, r, j, q, f)) (Memᴰ.cases_cons k),
  )
    where
      P : List ℕ → Option ℕ × C → Type 0
      P r y = (h ≡ add y.0 r) × FinalAt Trans Ends t y.1 r

  least_of_lem :
      (t : ℕ) (f : C → Option (List ℕ)) → ((e : C) → LeastIn (FinalAt Trans Ends t e) (f e)) → (xs : List (Option ℕ × C)) → LeastIn (Through t xs) (least_of f xs)
  least_of_lem t f l [] = λ h (m, e, r, k, q, g). Memᴰ.not-nil k
  least_of_lem t f l (x ∷ xs) =
      least_lesser _ (Through t xs) (Through t (x ∷ xs)) (through_cons t x xs) (onto x.0 (f x.1)) (least_of f xs)
      (least_onto x.0 (FinalAt Trans Ends t x.1) (f x.1) (l x.1)) (least_of_lem t f l xs)

  module _ (transitions : C → List (Option ℕ × C)) (final : C → Bool) (listed : Lists transitions Trans) (decided : DecidesFinal final Ends) where
    at_once : (c : C) (b : Bool) → T b ↔ Ends c → LeastIn (FinalAt Trans Ends 0 c) (if_final b)
    at_once c true p = ((c, (refl, refl), p.0 tt), λ g f. none_at_most g)
    at_once c false p = λ h (d, r, e). p.1 (subst Ends (sym r.1) e)

    through_iff : (t : ℕ) (c : C) (h : List ℕ) → Through t (transitions c) h ↔ FinalAt Trans Ends (suc t) c h
    through_iff t c h = (
      λ (m, e, r, k, q, (d, run, end)). (d, (m, e, r, (listed c m e).0 k, q, run), end),
      λ (d, (m, e, r, st, q, run), end). (m, e, r, (listed c m e).1 st, q, (d, run, end)),
    )

    -- of each number of transitions the least history
    least_at_lem : (t : ℕ) (c : C) → LeastIn (FinalAt Trans Ends t c) (least_at transitions final t c)
    least_at_lem zero c = at_once c (final c) (decided c)
    least_at_lem (suc t) c =
        least_iff (Through t (transitions c)) (FinalAt Trans Ends (suc t) c) (through_iff t c) (least_at transitions final (suc t) c)
        (least_of_lem t (λ (d : C). least_at transitions final t d) (λ d. least_at_lem t d) (transitions c))

    -- t transitions, where none has fewer: the least history is the first plan; without one, none has so few
    module _ (k t : ℕ) (c : C) (few : NoneBelow Trans Ends t c) (l : t ≤ k) where
      one_more : ((h : List ℕ) → ¬ FinalAt Trans Ends t c h) → NoneBelow Trans Ends (suc t) c
      one_more no_run =
          none_below (suc t) c (λ n g l f. no_run g (subst (λ (i : ℕ). FinalAt Trans Ends i c g) (le_antisymm (omega arith) (few n g f)) f))

      tried :
          (o : Option (List ℕ)) → LeastIn (FinalAt Trans Ends t c) o → (v : Verdict) → (NoneBelow Trans Ends (suc t) c → MeansFirst Trans Ends k c v)
          → MeansFirst Trans Ends k c (or_else o t v)
      tried none p v rest = rest (one_more p)
      tried (some h) p v rest = record { within = l; plan = p.0; fewest = few; smallest = p.1 }

    upwards :
        (k n t : ℕ) (c : C) (v : Verdict) → n + t ≡ k → NoneBelow Trans Ends t c → (NoneBelow Trans Ends (suc k) c → MeansFirst Trans Ends k c v)
        → MeansFirst Trans Ends k c (earliest transitions final n t c v)
    upwards k zero t c v e few rest =
        tried k t c few (omega arith) (least_at transitions final t c) (least_at_lem t c) v (λ low. rest (subst (λ (i : ℕ). NoneBelow Trans Ends (suc i) c) (omega arith) low))
    upwards k (suc n) t c v e few rest =
        tried k t c few (omega arith) (least_at transitions final t c) (least_at_lem t c) (earliest transitions final n (suc t) c v)
        (λ low. upwards k n (suc t) c v (omega arith) low rest)

    -- without a final run the verdict of the search stands
    stands : (k : ℕ) (c : C) (v : Verdict) → NoneBelow Trans Ends (suc k) c → Means Trans Ends k c v → MeansFirst Trans Ends k c v
    stands k c (plan h t) few (d, l, run, end) = absurd (omega (arith, few t h (d, run, end)))
    stands k c nothing few m = m
    stands k c more few m = m

    -- F-1: "Plan and t are thus decided by a definition; existence is judged as before"
    first_plan_lem : (k : ℕ) (c : C) → MeansFirst Trans Ends k c (first_plan transitions final k c)
    first_plan_lem k c =
        upwards k k 0 c (search transitions final k c) (omega arith) (λ n g f. zero-le)
        (λ low. stands k c (search transitions final k c) low (search_means Trans Ends transitions final listed decided k c))

    -- so a plan comes out exactly where some run of at most k transitions ends final, and nothing and more as they did (Verdicts, Raised)
    pub first_plan_means : (k : ℕ) (c : C) → Means Trans Ends k c (first_plan transitions final k c)
    first_plan_means k c = first_means k c (first_plan transitions final k c) (first_plan_lem k c)

    -- what else says so is it
    pub same_first : (k : ℕ) (c : C) (v : Verdict) → MeansFirst Trans Ends k c v → v ≡ first_plan transitions final k c
    same_first k c v m = verdict_unique k c v (first_plan transitions final k c) m (first_plan_lem k c)

    -- a plan comes out exactly when it is the first
    pub first_plan_exactly : (k : ℕ) (c : C) (h : List ℕ) (t : ℕ) → (first_plan transitions final k c ≡ plan h t) ↔ IsFirst Trans Ends k c h t
    first_plan_exactly k c h t = (λ e. subst (MeansFirst Trans Ends k c) e (first_plan_lem k c), λ F. sym (same_first k c (plan h t) F))

    -- there is a first plan exactly where some run of at most k transitions ends final
    pub first_exists : (k : ℕ) (c : C) → ((h : List ℕ) × (t : ℕ) × IsFirst Trans Ends k c h t) ↔ FinalRun Trans Ends k c
    first_exists k c = (λ (h, t, F). first_final k c h t F, λ r. go (first_plan transitions final k c) (first_plan_lem k c) r)
      where
        go : (v : Verdict) → MeansFirst Trans Ends k c v → FinalRun Trans Ends k c → (h : List ℕ) × (t : ℕ) × IsFirst Trans Ends k c h t
        go (plan h t) F r = (h, t, F)
        go nothing p r = absurd (p.0 r)
        go more p r = absurd (p.0 r)

  -- a higher bound keeps the very same plan
  pub first_stays : (j k : ℕ) (c : C) (h : List ℕ) (t : ℕ) → k ≤ j → IsFirst Trans Ends k c h t → IsFirst Trans Ends j c h t
  first_stays j k c h t l F = record { within = omega (arith, F.within); plan = F.plan; fewest = F.fewest; smallest = F.smallest }
