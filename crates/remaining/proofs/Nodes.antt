-- A transition adds at most two nodes for each link on the way down to what it performs: one for the construct around what a part
-- leaves, one for the sibling. The sibling is no higher than the record. So n transitions from a record of height h leave at most
-- 1 + 2 × h × n nodes: the work figure. Assumes nothing.
use mathlib.Core.Path.{◌≡◌, ap, subst, subst₂}
use mathlib.Core.Bool.{Bool, true, false, cond, ◌||◌}
use mathlib.Core.List.Memᴰ
use mathlib.Core.List.{Memᴰ}
use mathlib.Core.Option.{Option}
use Prim.Native.Nat.{ℕ, zero, suc, ◌+◌, ◌*◌, ◌≤◌}
use native.Mathlib.Nat.{mul-suc}
use native.Mathlib.Omega.{arith}
use lib.Dec.{T, eqb}
use Rattle.records.specs.declared.Program.{Program}
use Rattle.records.specs.Placeholders.{put_in}
use Rattle.kinds.specs.Programs.{has_a, has_b, picks, links, tag_a, loops, tag_b}
use Rattle.kinds.proofs.ProgramFields.{link_a, link_b}
use Rattle.kinds.proofs.Constructs.{sibling_a_lem, sibling_b}
use Rattle.height.specs.Height.{rise}
use Rattle.golog.specs.declared.State.{State}
use Rattle.golog.specs.World.{World, after}
use Rattle.golog.specs.Transitions.{is_none}
use Rattle.remaining.specs.Rest.{Rest, gone, leaf, node, nodes, largest, high, WithinFigure, AllLower}
use Rattle.remaining.specs.Leaves.{RestTransition, sibling_a, leaf_of, goes_right, wrap_right, rest_final, rest_transitions, Compact, compact_transitions}
use Rattle.remaining.proofs.Entries.{rise_lower, rise_a, rise_b}
use Rattle.remaining.proofs.Every.{Every, nobody, every_append, every_map, every_part, every_at, leaf_every}

-- a construct around a part: one node, and one for the sibling
around : (z : Bool) (tag b : ℕ) (g : Rest) → (nodes (cond z g (node tag g (leaf b))) ≤ 2 + nodes g) × (nodes (cond z g (node tag (leaf b) g)) ≤ 2 + nodes g)
unfolding nodes
around true tag b g = (omega arith, omega arith)
around false tag b g = (omega arith, omega arith)

module _ (W : World) (s : State) (p : ℕ → Program) (low : AllLower p) where
  leaf_nodes : (i : ℕ) → Every (λ (x : RestTransition). nodes x.1 ≤ 1 + 2 * rise p i) (leaf_of W s p i).transitions
  unfolding nodes
  leaf_nodes =
      leaf_every W s p low (λ (i : ℕ) (x : RestTransition). nodes x.1 ≤ 1 + 2 * rise p i) (λ i. omega arith)
      (λ i x t h. omega (arith, (around (eqb (tag_a (p i).kind) 0) (tag_a (p i).kind) (sibling_a (p i) i) x.1).0, rise_a p low i t))
      (λ i x t h. omega (arith, (around (eqb (tag_b (p i).kind) 0) (tag_b (p i).kind) (p i).a x.1).1, rise_b p low i t))
      (λ i v x t h. omega (arith, (low.picked i v t).1))

  rest_nodes : (g : Rest) → Every (λ (x : RestTransition). nodes x.1 ≤ nodes g + 2 * high p g) (rest_transitions W s p g)
  unfolding rest_transitions nodes largest
  rest_nodes gone = nobody
  rest_nodes (leaf i) = leaf_nodes i
  rest_nodes (node tag l r) =
      every_append (every_map (λ (g : Rest). node tag g r) (λ x h. omega arith) (rest_nodes l))
      (every_part (goes_right tag (rest_final W s p l) (is_none (rest_transitions W s p l))) (wrap_right tag l) (λ t x h. right (eqb tag 3) x.1 h) (λ t. rest_nodes r))
    where
      right : (z : Bool) (g : Rest) → nodes g ≤ nodes r + 2 * high p r → nodes (cond z g (node tag l g)) ≤ nodes (node tag l r) + 2 * high p (node tag l r)
      right true g h = omega arith
      right false g h = omega arith

  -- a transition adds at most two nodes for each level
  pub step_nodes : (g : Rest) (x : RestTransition) → Memᴰ x (rest_transitions W s p g) → nodes x.1 ≤ nodes g + 2 * high p g
  step_nodes g x k = every_at (rest_nodes g) k

  module _ (rank : ℕ → ℕ) (ranked : (i a : ℕ) → Memᴰ a (links (p i)) → rank a ≤ rank i)
      (chosen_ranked : (i v : ℕ) → T (picks (p i).kind) → rank (put_in (p i).b (p i).c v) ≤ rank i) where
    leaf_largest : (i : ℕ) → Every (λ (x : RestTransition). largest rank x.1 ≤ rank i) (leaf_of W s p i).transitions
    unfolding largest
    leaf_largest =
        leaf_every W s p low (λ (i : ℕ) (x : RestTransition). largest rank x.1 ≤ rank i) (λ i. omega arith)
        (λ i x t h. left i x.1 (omega (arith, ranked i (p i).a (link_a (p i) t))) (eqb (tag_a (p i).kind) 0) (loops (p i).kind) (sibling_a_lem (p i).kind))
        (λ i x t h. right i x.1 (omega (arith, ranked i (p i).b (link_b (p i) t))) (eqb (tag_b (p i).kind) 0) (sibling_b (p i).kind))
        (λ i v x t h. omega (arith, chosen_ranked i v t))
      where
        left : (i : ℕ) (g : Rest) → largest rank g ≤ rank i → (z own : Bool) → T (z || (own || has_b (p i).kind)) →
            largest rank (cond z g (node (tag_a (p i).kind) g (leaf (cond own i (p i).b)))) ≤ rank i
        left i g h true own t = h
        left i g h false true t = omega arith
        left i g h false false t = omega (arith, ranked i (p i).b (link_b (p i) t))

        right : (i : ℕ) (g : Rest) → largest rank g ≤ rank i → (z : Bool) → T (z || has_a (p i).kind) →
            largest rank (cond z g (node (tag_b (p i).kind) (leaf (p i).a) g)) ≤ rank i
        right i g h true t = h
        right i g h false t = omega (arith, ranked i (p i).a (link_a (p i) t))

    rest_largest : (g : Rest) → Every (λ (x : RestTransition). largest rank x.1 ≤ largest rank g) (rest_transitions W s p g)
    unfolding rest_transitions largest
    rest_largest gone = nobody
    rest_largest (leaf i) = leaf_largest i
    rest_largest (node tag l r) =
        every_append (every_map (λ (g : Rest). node tag g r) (λ x h. omega arith) (rest_largest l))
        (every_part (goes_right tag (rest_final W s p l) (is_none (rest_transitions W s p l))) (wrap_right tag l) (λ t x h. right (eqb tag 3) x.1 h) (λ t. rest_largest r))
      where
        right : (z : Bool) (g : Rest) → largest rank g ≤ largest rank r → largest rank (cond z g (node tag l g)) ≤ largest rank (node tag l r)
        right true g h = omega arith
        right false g h = omega arith

    -- a transition raises no rank that links do not raise
    pub step_largest : (g : Rest) (x : RestTransition) → Memᴰ x (rest_transitions W s p g) → largest rank x.1 ≤ largest rank g
    step_largest g x k = every_at (rest_largest g) k

  -- not the height
  pub step_high : (g : Rest) (x : RestTransition) → Memᴰ x (rest_transitions W s p g) → high p x.1 ≤ high p g
  step_high = step_largest (rise p) (λ i a k. omega (arith, rise_lower p low i a k)) (λ i v t. omega (arith, (low.picked i v t).1))

  -- and not the largest record number
  pub step_number : (g : Rest) (x : RestTransition) → Memᴰ x (rest_transitions W s p g) → largest (λ (i : ℕ). i) x.1 ≤ largest (λ (i : ℕ). i) g
  step_number = step_largest (λ (i : ℕ). i) (λ i a k. omega (arith, low.linked i a k)) (λ i v t. omega (arith, (low.picked i v t).0))

  -- what fits after n transitions fits, after one more, as after n + 1
  pub fits_step : (h n : ℕ) (g : Rest) → WithinFigure p h n g → (x : RestTransition) → Memᴰ x (rest_transitions W s p g) → WithinFigure p h (suc n) x.1
  fits_step h n g f x k = record { size = omega (arith, step_nodes g x k, f.size, f.height, mul-suc (2 * h) n); height = omega (arith, step_high g x k, f.height) }

pub fits_start : (p : ℕ → Program) (i : ℕ) → WithinFigure p (rise p i) 0 (leaf i)
unfolding nodes largest
fits_start p i = record { size = omega arith; height = omega arith }

-- n transitions lead from c to d
abbrev pub Reaches : World → (ℕ → Program) → (n : ℕ) (c d : Compact) → Type 0
Reaches W p zero c d = c ≡ d
Reaches W p (suc n) c d = (m : Option ℕ) × (e : Compact) × Memᴰ (m, e) (compact_transitions W p c) × Reaches W p n e d

-- from a record of height h they leave at most 1 + 2 × h × n nodes
pub reached_nodes : (W : World) (p : ℕ → Program) → AllLower p → (i n : ℕ) (s : State) (d : Compact) → Reaches W p n (leaf i, s) d → nodes d.0 ≤ 1 + 2 * rise p i * n
reached_nodes W p low i n s d r = (go n 0 (leaf i, s) (omega arith) (fits_start p i) r).size
  where
    go : (m k : ℕ) (c : Compact) → k + m ≡ n → WithinFigure p (rise p i) k c.0 → Reaches W p m c d → WithinFigure p (rise p i) n d.0
    go zero k c q f e = subst₂ (λ (j : ℕ) (x : Compact). WithinFigure p (rise p i) j x.0) (omega arith) e f
    go (suc m) k c q f (a, e, j, r) =
        let x = Memᴰ.of_map (λ (x : RestTransition). (x.0, (x.1, after W x.0 c.1))) (rest_transitions W c.1 p c.0) j in
        go m (suc k) e (omega arith) (subst (WithinFigure p (rise p i) (suc k)) (ap (λ (y : Option ℕ × Compact). y.1.0) x.2) (fits_step W c.1 p low (rise p i) k c.0 f x.0 x.1)) r
