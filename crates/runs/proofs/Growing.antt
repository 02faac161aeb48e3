-- Growing: the first i entries of a plan's history are settled where nothing smaller ends final. Of what may follow them the least rank is
-- sought in windows: a plan found in one is the plan to go on with, and where none is found nothing below the window's end follows. Once
-- the plan's own rank is reached, one entry more is settled; a history all of whose entries are settled is the first. Assumes nothing.
use Prim.Native.Nat.{ℕ, suc, ◌≤◌, ◌<◌}
use native.Mathlib.Omega.{arith}
use native.Mathlib.Nat.{le_antisymm}
use native.Mathlib.Decide.{dec_le, dec_lt}
use mathlib.Core.List.{List, [], ◌∷◌, ◌++◌, cons≢nil}
use mathlib.Core.Logic.{◌⊎◌, inl, inr, ⊎_elim}
use mathlib.Core.Option.{Option}
use mathlib.Core.Path.{◌≡◌, refl, sym, ap, ap₂, subst, ◌∙◌}
use lib.ListN.{length, take, drop, get_or, length-append}
use lib.Seq.{length-take-le, take_all, take_at, drop_at, take-suc, drop-cons}
use Rattle.runs.specs.Order.{AtMost}
use Rattle.runs.specs.First.{FinalAt, NoneBelow, IsFirst}
use Rattle.runs.specs.Guide.{rank, along, Obeys}
use Rattle.runs.specs.Growing.{Grown, Narrowed}
use Rattle.runs.proofs.Tests.{window_iff}
use Rattle.runs.proofs.Ordered.{none_at_most, entry_at_most}

-- what is not smaller than p is not smaller than p with x behind it, unless it is p, or goes on from p with less
beyond : (p : List ℕ) (x : ℕ) (g : List ℕ) → AtMost p g → ((r : List ℕ) → g ≡ p ++ r → suc x ≤ rank r) → AtMost (p ++ x ∷ []) g
beyond [] x [] w h = absurd (omega (arith, h [] refl))
beyond [] x (a ∷ g) w h = (entry_at_most x a [] g).1 (go (dec_lt x a))
  where
    go : Dec (x < a) → (x < a) ⊎ ((x ≡ a) × AtMost [] g)
    go (yes l) = inl l
    go (no l) = inr (omega (arith, h (a ∷ g) refl), none_at_most g)
beyond (b ∷ p) x [] w h = ⊎_elim (λ v. absurd v) (λ e. absurd (cons≢nil e)) w
beyond (b ∷ p) x (a ∷ g) w h =
    (entry_at_most b a (p ++ x ∷ []) g).1
    (⊎_elim inl (λ (e, v). inr (e, beyond p x g v (λ r q. h r (ap₂ ◌∷◌ (sym e) q)))) ((entry_at_most b a p g).0 w))

-- the rank of what follows the first i entries of h
pub rank_inside : (h : List ℕ) (i : ℕ) → i < length h → rank (drop i h) ≡ suc (get_or h i 0)
rank_inside h i l = ap rank (drop-cons h i 0 l)

module _ {C : Type 0} (Trans : C → Option ℕ → C → Type 0) (Ends : C → Type 0) (t : ℕ) (c : C) where
  pub grown_none : (h : List ℕ) → FinalAt Trans Ends t c h → Grown Trans Ends t c 0 h
  grown_none h f = record { plan = f; settled = λ g e. none_at_most g }

  -- nothing is known yet of what follows
  pub narrowed_none : (i : ℕ) (h : List ℕ) → i ≤ length h → Grown Trans Ends t c i h → Narrowed Trans Ends t c i 0 h
  narrowed_none i h l G = record { grown = G; inside = l; above = λ r f. omega arith }

  module _ {i low : ℕ} {h : List ℕ} (N : Narrowed Trans Ends t c i low h) where
    -- a plan was found in the window: it begins with the settled entries
    pub narrowed_found :
        (high : ℕ) (g : List ℕ) → FinalAt Trans Ends t c g → Obeys (along (take i h) low high) g
        → Narrowed Trans Ends t c i low g × (rank (drop i g) < high)
    narrowed_found high g f (r, e, w) =
        let n : length (take i h) ≡ i = length-take-le i h N.inside in
        let same : take i g ≡ take i h = ap (take i) e ∙ take_at (take i h) r i n in
        let rest : drop i g ≡ r = ap (drop i) e ∙ drop_at (take i h) r i n in (
          record {
            grown = record { plan = f; settled = rw same N.grown.settled };
            inside = omega (arith, n, ap length e ∙ length-append (take i h) r);
            above = rw same N.above;
          },
          rw rest ((window_iff low high (rank r)).0 w).1,
        )

    -- none was: nothing below the window's end follows
    pub narrowed_up : (high : ℕ) → ((g : List ℕ) → FinalAt Trans Ends t c g → ¬ Obeys (along (take i h) low high) g) → Narrowed Trans Ends t c i high h
    narrowed_up high no_plan = record { grown = N.grown; inside = N.inside; above = above }
      where
        above : (r : List ℕ) → FinalAt Trans Ends t c (take i h ++ r) → high ≤ rank r
        above r f = go (dec_le high (rank r))
          where
            go : Dec (high ≤ rank r) → high ≤ rank r
            go (yes l) = l
            go (no l) = absurd (no_plan (take i h ++ r) f (r, refl, (window_iff low high (rank r)).1 (N.above r f, omega arith)))

    -- the plan's own rank is reached: one entry more is settled, where there is one
    pub settled_more : i < length h → rank (drop i h) ≤ low → Grown Trans Ends t c (suc i) h
    settled_more l e =
        let x = get_or h i 0 in
        let s : take (suc i) h ≡ take i h ++ x ∷ [] = take-suc h i 0 l in
        record {
          plan = N.grown.plan;
          settled = λ g f. rw s (beyond (take i h) x g (N.grown.settled g f)
              (λ r q. omega (arith, e, rank_inside h i l, N.above r (subst (FinalAt Trans Ends t c) q f))));
        }

  -- all entries are settled
  pub settled_all : (k i : ℕ) (h : List ℕ) → t ≤ k → NoneBelow Trans Ends t c → length h ≤ i → Grown Trans Ends t c i h → IsFirst Trans Ends k c h t
  settled_all k i h l few all G =
      record {
        within = l;
        plan = G.plan;
        fewest = few;
        smallest = λ g f. subst (λ (x : List ℕ). AtMost x g) (take_all i h all) (G.settled g f);
      }

  -- where none has fewer transitions, a plan within t has t
  pub fewest_same : (u : ℕ) (h : List ℕ) → NoneBelow Trans Ends t c → u ≤ t → FinalAt Trans Ends u c h → (u ≡ t) × FinalAt Trans Ends t c h
  fewest_same u h few l f =
      let e : u ≡ t = le_antisymm l (few u h f) in
      (e, subst (λ (n : ℕ). FinalAt Trans Ends n c h) e f)
