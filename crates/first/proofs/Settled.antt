-- Settling an entry: an answer raises what is known of the rank that follows, or lowers the rank at hand, until they meet; then one entry more
-- is settled. Once all are, the history is the first plan's. Assumes nothing.
use Rattle.std.proofs.Common.{◌≡◌, ℕ, suc, ◌+◌, ◌-◌, ◌<◌, ◌≤◌, List, length, drop, Option, Some, None, inl, inr, ◌⊎◌, sym, ◌∙◌, subst, add-one, arith, take_all}
use native.Mathlib.Decide.{dec_lt}
use Rattle.runs.specs.Guide.{rank}
use Rattle.runs.specs.Growing.{Grown, Narrowed}
use Rattle.runs.proofs.Growing.{narrowed_none, narrowed_found, narrowed_up, settled_more, settled_all, fewest_same}
use Rattle.demands.specs.Decoded.{world_of, first_of, bound_of}
use Rattle.demands.specs.Planning.{Goes, Ends, FirstPlan}
use Rattle.search.specs.declared.Window.{Window}
use Rattle.first.specs.Settling.{history_of, Within, CanSettle, Settled, Answers}
use Rattle.first.specs.declared.History.{History}
use Rattle.first.proofs.Histories.{history_length}

-- the rank of what follows the first i entries
abbrev pub rank_of : History → (i : ℕ) → ℕ
rank_of h i = rank (drop i (history_of h))

-- the first i entries are settled, and nothing of a rank below `low` follows them
pub record Narrowing (s : List ℕ) (t i low : ℕ) (h : History) : Type 0 where
  pub within : Within h
  pub narrowed : Narrowed (Goes (world_of s)) (Ends (world_of s)) t (first_of s) i low (history_of h)

-- the next window begins where that is known, and ends at most at the rank at hand, and past its beginning while that is below
pub record Halving (s : List ℕ) (t i low high : ℕ) (h : History) : Type 0 where
  pub narrowing : Narrowing s t i low h
  pub at_most : high ≤ rank_of h i
  pub past : low < rank_of h i → low < high

module _ {s : List ℕ} {t i : ℕ} {h : History} where
  pub narrowing_none : i ≤ h.n → Settled s t i h → Narrowing s t i 0 h
  narrowing_none l S =
      record {
        within = S.within;
        narrowed = narrowed_none (Goes (world_of s)) (Ends (world_of s)) t (first_of s) i (history_of h) (omega (arith, history_length h S.within)) S.grown;
      }

  module _ {low : ℕ} (N : Narrowing s t i low h) where
    pub narrowing_inside : i ≤ h.n
    narrowing_inside = omega (arith, N.narrowed.inside, history_length h N.within)

    module _ (w : Window) (P : CanSettle s t) (e : w.low ≡ low) (l : low < w.high) (m : w.high ≤ rank_of h i) where
      -- a plan was found, of a lesser rank
      pub narrowing_found : {g : History} → Answers s t h i w (Some g) → Narrowing s t i low g × (rank_of g i < rank_of h i)
      narrowing_found {g} (held, (u, few, f), b) =
          let (same, r) = fewest_same (Goes (world_of s)) (Ends (world_of s)) t (first_of s) u (history_of g) P.fewest few f in
          let (X, less) = narrowed_found (Goes (world_of s)) (Ends (world_of s)) t (first_of s) N.narrowed w.high (history_of g) r (rw e at b) in
          (record { within = held; narrowed = X }, omega arith)

      -- there is none
      pub narrowing_up : Answers s t h i w None → Narrowing s t i w.high h
      narrowing_up none =
          record {
            within = N.within;
            narrowed = narrowed_up (Goes (world_of s)) (Ends (world_of s)) t (first_of s) N.narrowed w.high (λ g f b. none t g (omega arith) f (rw e b));
          }

      -- an answer was given: the window moves up, or the rank at hand goes down
      pub narrowing_on :
          (r : Option History) {low' : ℕ} {h' : History} → Answers s t h i w r
          → ((g : History) × (r ≡ Some g) × (h' ≡ g) × (low' ≡ low)) ⊎ ((r ≡ None) × (h' ≡ h) × (low' ≡ w.high))
          → Narrowing s t i low' h' × (rank_of h' i - low' < rank_of h i - low)
      narrowing_on r A (inl (g, eg, eh, el)) = let X = narrowing_found (rw eg at A) in (rw (eh, el) X.0, rw (eh, el) (omega (arith, X.1)))
      narrowing_on r A (inr (er, eh, el)) = let X = narrowing_up (rw er at A) in (rw (eh, el) X, rw (eh, el) (omega (arith, e, l, m)))

    -- what is known meets the rank at hand
    pub narrowing_met : rank_of h i ≤ low → Settled s t (i + 1) h
    narrowing_met l = record { within = N.within; grown = subst GrownTo (sym (add-one i)) (go (dec_lt i (length (history_of h)))) }
      where
        GrownTo : ℕ → Type 0
        GrownTo k = Grown (Goes (world_of s)) (Ends (world_of s)) t (first_of s) k (history_of h)

        go : Dec (i < length (history_of h)) → GrownTo (suc i)
        go (yes m) = settled_more (Goes (world_of s)) (Ends (world_of s)) t (first_of s) N.narrowed m l
        go (no m) =
            let G = N.narrowed.grown in
            record {
              plan = G.plan;
              settled = rw (take_all (suc i) (history_of h) (omega arith) ∙ sym (take_all i (history_of h) (omega arith))) G.settled;
            }

-- all entries are settled
pub settled_first : {s : List ℕ} {t i : ℕ} {h : History} → CanSettle s t → Settled s t i h → h.n ≤ i → FirstPlan s (history_of h) t
settled_first {s} {t} {i} {h} P S l =
    settled_all (Goes (world_of s)) (Ends (world_of s)) t (first_of s) (bound_of s) i (history_of h) P.bounded P.fewest
    (omega (arith, history_length h S.within)) S.grown
