-- Why laying out a record's k-th transition goes down by counts. A record's transitions are its own, or those of part a and then those of
-- part b, so the k-th is part a's k-th where k is below how many of a's count, else part b's at the difference. Parts are lower and less
-- high, so that the counts are exact and there is room for the construct around what the part leaves. Assumes nothing.
use mathlib.Core.Path.{◌≡◌, refl, sym, ap, ap₂, subst, ◌∙◌}
use mathlib.Core.Bool.{Bool, true, false, cond}
use mathlib.Core.Option.{some}
use mathlib.Core.List.{List, [], ◌∷◌, ◌++◌}
use Prim.Native.Nat.{ℕ, zero, suc, ◌+◌, ◌*◌, ◌-◌, ◌≤◌, ◌<◌}
use native.Mathlib.Omega.{arith}
use lib.Dec.{T, eqb}
use lib.ListN.{length, get_or, get_elem?}
use Rattle.records.specs.declared.Program.{Program}
use Rattle.kinds.specs.Programs.{has_a, has_b, own_of, has_own, uses_a, uses_b, tag_a, tag_b, first_by}
use Rattle.kinds.proofs.Reading.{uses_a_lem, uses_b_lem}
use Rattle.kinds.proofs.Constructs.{own_no_first, own_no_second, no_own}
use Rattle.height.specs.Height.{rise}
use Rattle.golog.specs.declared.State.{State}
use Rattle.golog.specs.World.{World, holds, possible}
use Rattle.runs.specs.Guide.{only}
use Rattle.golog.specs.Transitions.{is_none}
use Rattle.remaining.specs.Rest.{Rest, gone, leaf, nodes, largest, high, AllLower}
use Rattle.remaining.specs.Leaves.{RestTransition, on_rest, Leaf, leaf_with, leaf_of, own_move, sibling_a, wrap_a, wrap_b, rest_transitions}
use Rattle.remaining.proofs.Entries.{leaf_plain, lower_a, lower_b, rise_a, rise_b}
use Rattle.remaining.proofs.Nodes.{step_nodes}
use Rattle.words.specs.Words.{Room}
use Rattle.words.proofs.Written.{kept_less, kept_trans, kept_put}
use Rattle.words.proofs.Moved.{put_gone}
use Rattle.ends.specs.Ends.{most_levels}
use Rattle.leaves.specs.Tallies.{counts_of}
use Rattle.leaves.proofs.Entries.{counts_exact, first_exact}
use Rattle.steps.specs.Laid.{Sources, Counted, CanLay, Built, Lays, past, Wrapped, LaidOwn, WrappedLaid}
use Rattle.steps.specs.declared.Laid.{Laid}
use Rattle.steps.proofs.Nth.{nth_member, Both, from_first, from_second, second_goes}

-- what was built of a transition is small: at most two nodes more for each level
pub built_few : (W : World) (s : State) (p : ℕ → Program) → AllLower p → (g : Rest) (k to e n : ℕ) (w : List ℕ) → Built (rest_transitions W s p g) k to e n w
    → n ≤ nodes g + 2 * high p g
built_few W s p low g k to e n w B = omega (arith, B.size_is, step_nodes W s p low g (B.move, B.rest) (nth_member (rest_transitions W s p g) k B.nth))

leaf_few : (W : World) (s : State) (p : ℕ → Program) → AllLower p → (i k to e n : ℕ) (w : List ℕ) → Built (leaf_of W s p i).transitions k to e n w → n ≤ 1 + 2 * rise p i
unfolding rest_transitions nodes largest
leaf_few W s p low i = built_few W s p low (leaf i)

-- what was built, x, put into a construct
pub wrap_built : (f : Rest → Rest) (xs ys : List RestTransition) (k j at to : ℕ) (x y : Laid) (w w' : List ℕ) → Built xs j at x.entry x.size w → y.entry ≡ x.entry
    → Wrapped f at to x.size y.size w w'
    → ((x : RestTransition) → get_elem? xs j ≡ some x → get_elem? ys k ≡ some (on_rest f x)) → Built ys k to y.entry y.size w'
wrap_built f xs ys k j at to x y w w' B e X h =
    let Y = X.wrapped B.rest B.at (sym B.size_is) in
    record { move = B.move; rest = f B.rest; nth = h (B.move, B.rest) B.nth; at = Y.0; entry_is = e ∙ B.entry_is; size_is = Y.1 }

cond_less : (b : Bool) (k x : ℕ) → k < cond b x 0 → T b × (k < x)
cond_less true k x h = (tt, h)
cond_less false k x h = absurd (omega arith)

-- r is record i of the table that runs, low enough for its counts to be exact
pub record IsRecord (v : Sources) (i : ℕ) (r : Program) : Type 0 where
  pub inside : i < v.many
  pub low : rise v.records i ≤ most_levels
  pub is : r ≡ v.records i

-- r has no transition of its own: `first` of its transitions are part a's, the others part b's
pub record OfParts (v : Sources) (i : ℕ) (r : Program) (first : ℕ) : Type 0 where
  pub of : IsRecord v i r
  pub other : has_own r.kind ≡ false
  pub first_by : first ≡ first_by r v.truths v.running v.counts

module _ {v : Sources} {w : List ℕ} {i to k : ℕ} {r : Program} (K : CanLay v w i to k) (is : r ≡ v.records i) where
  pub is_record : IsRecord v i r
  is_record = record { inside = K.inside; low = K.low; is = is }

  pub of_parts : {first : ℕ} {own : Bool} → own ≡ has_own r.kind → own ≡ false → first ≡ first_by r v.truths v.running v.counts → OfParts v i r first
  of_parts e n f = record { of = is_record; other = sym e ∙ n; first_by = f }

module _ {W : World} {s : State} {v : Sources} (C : Counted W s v) where
  abbrev p : ℕ → Program
  p = v.records

  -- a record's count is exact
  pub count_is : (i : ℕ) → i < v.many → rise v.records i ≤ most_levels → get_or v.counts i 0 ≡ length (leaf_of W s v.records i).transitions
  count_is i h l = ap (λ (c : List ℕ). get_or c i 0) C.counts_are ∙ counts_exact W s p C.lower C.plain v.many i h l

  module _ {i : ℕ} {r : Program} (I : IsRecord v i r) where
    A : Leaf
    A = leaf_of W s p r.a

    B : Leaf
    B = leaf_of W s p r.b

    ua : Bool
    ua = uses_a r.kind (holds W r.c s) s.running

    ub : Bool
    ub = uses_b r.kind A.final (holds W r.c s) (is_none A.transitions)

    own : List RestTransition
    own = only (own_of r.kind (possible W r.a s) (holds W r.a s)) ((own_move r, gone) ∷ [])

    parts : List RestTransition
    parts = Both (wrap_a (tag_a r.kind) (sibling_a r i)) (wrap_b (tag_b r.kind) r.a) A.transitions B.transitions ua ub

    steps_are : (leaf_of W s p i).transitions ≡ own ++ parts
    unfolding leaf_with A B ua ub own parts
    steps_are = ap (λ (x : Leaf). x.transitions) (subst (λ (r : Program). leaf_of W s p i ≡ leaf_with W s r i (leaf_of W s p r.a) (leaf_of W s p r.b)) (sym I.is)
        (leaf_plain W s p C.lower i (C.plain i)))

    -- an act or a test: its own
    pub own_step : (k : ℕ) → k < length (leaf_of W s v.records i).transitions → has_own r.kind ≡ true → get_elem? (leaf_of W s v.records i).transitions k ≡ some (own_move r, gone)
    unfolding own parts ua ub
    own_step k h l =
        ap (λ (xs : List RestTransition). get_elem? xs k) alone
        ∙ go (own_of r.kind (possible W r.a s) (holds W r.a s)) k (subst (λ (xs : List RestTransition). k < length xs) alone h)
      where
        alone : (leaf_of W s p i).transitions ≡ own ++ []
        alone =
            steps_are
            ∙ ap₂ (λ (x y : Bool). own ++ Both (wrap_a (tag_a r.kind) (sibling_a r i)) (wrap_b (tag_b r.kind) r.a) A.transitions B.transitions x y)
            (own_no_first r.kind _ _ l) (own_no_second r.kind _ _ _ l)

        go : (b : Bool) (k : ℕ) → k < length (only {A = RestTransition} b ((own_move r, gone) ∷ []) ++ []) →
            get_elem? (only {A = RestTransition} b ((own_move r, gone) ∷ []) ++ []) k ≡ some (own_move r, gone)
        go true zero h = refl
        go true (suc k) h = absurd (omega arith)
        go false k h = absurd (omega arith)

    -- the parts that it uses are lower, and less high
    a_lower : T ua → (r.a < i) × (rise p r.a < rise p i)
    unfolding ua
    a_lower t =
        let u : T (has_a r.kind) = uses_a_lem r.kind _ _ t in
        subst (λ (r : Program). T (has_a r.kind) → (r.a < i) × (rise p r.a < rise p i)) (sym I.is) (λ u. (lower_a p C.lower i u, rise_a p C.lower i u)) u

    b_lower : T ub → (r.b < i) × (rise p r.b < rise p i)
    unfolding ub
    b_lower t =
        let u : T (has_b r.kind) = uses_b_lem r.kind _ _ _ t in
        subst (λ (r : Program). T (has_b r.kind) → (r.b < i) × (rise p r.b < rise p i)) (sym I.is) (λ u. (lower_b p C.lower i u, rise_b p C.lower i u)) u

    module _ {first : ℕ} (P : OfParts v i r first) where
      parts_are : (leaf_of W s p i).transitions ≡ parts
      unfolding own
      parts_are = steps_are ∙ ap (λ (b : Bool). only b ((own_move r, gone) ∷ []) ++ parts) (no_own r.kind _ _ P.other)

      first_is : first ≡ cond ua (length A.transitions) 0
      unfolding A ua
      first_is =
          P.first_by
          ∙ ap (first_by r v.truths v.running) C.counts_are
          ∙ subst
          (λ (r : Program). first_by r v.truths v.running (counts_of W s p v.many) ≡ cond (uses_a r.kind (holds W r.c s) s.running) (length (leaf_of W s p r.a).transitions) 0)
          (sym I.is) (first_exact W s p C.lower C.plain v.many i I.inside I.low (C.sees.each i I.inside) C.sees.runs)

      -- part a's, where k is below how many of a's there are
      module _ {k : ℕ} (below : k < first) where
        a_goes : T ua × (k < length A.transitions)
        a_goes = cond_less ua k _ (subst (λ (n : ℕ). k < n) first_is below)

        pub a_falls : r.a < i
        a_falls = (a_lower a_goes.0).0

        pub a_can : {w : List ℕ} {to x : ℕ} → Room w to (1 + 2 * rise v.records i) → x ≤ 3 → CanLay v w r.a (to + x) k
        unfolding A
        a_can R few =
            let u = a_lower a_goes.0 in
            record {
              world = W;
              state = s;
              counted = C;
              inside = omega arith;
              low = omega arith;
              least = omega (arith, a_goes.1, count_is r.a (omega arith) (omega arith));
              room = record { inside = omega (arith, R.inside); small = R.small };
            }

        pub a_room : {w w₁ : List ℕ} {to at e n : ℕ} → Room w to (1 + 2 * rise v.records i) → Lays (leaf_of W s v.records r.a).transitions k at w w₁ e n → Room w₁ to (n + 2)
        a_room {w} {w₁} {to} {at} {e} {n} R L =
            let few = leaf_few W s p C.lower r.a k at e n w₁ L.built in
            record { inside = omega (arith, R.inside, L.kept.len, few, (a_lower a_goes.0).1); small = omega (arith, R.small, L.kept.len) }

        pub a_lays : {w w₁ w' : List ℕ} {to n tag : ℕ} {x y : Laid} → tag ≡ tag_a r.kind → n ≡ past (eqb tag 0) 3
            → Lays (leaf_of W s v.records r.a).transitions k (to + n) w w₁ x.entry x.size
            → WrappedLaid (wrap_a (tag_a r.kind) (sibling_a r i)) (to + past (eqb (tag_a r.kind) 0) 3) to w₁ w' x y
            → Lays (leaf_of W s v.records i).transitions k to w w' y.entry y.size
        unfolding parts A
        a_lays {w} {w₁} {w'} {to} {n} {tag} {x} {y} et en M X =
            let L = subst (λ (n : ℕ). Lays (leaf_of W s p r.a).transitions k (to + n) w w₁ x.entry x.size) (en ∙ ap (λ (g : ℕ). past (eqb g 0) 3) et) M in
            record {
              built =
                  wrap_built _ A.transitions _ k k _ to x y w₁ w' L.built X.entry_is X.wrapped
                  (λ z h. ap (λ (xs : List RestTransition). get_elem? xs k) parts_are ∙ from_first _ _ A.transitions B.transitions ua ub k a_goes.0 h);
              kept = kept_trans to to w w₁ w' (kept_less to _ w w₁ L.kept (omega arith)) X.wrapped.kept (omega arith);
            }

      -- else part b's, at the difference
      module _ {k : ℕ} (all : k < get_or v.counts i 0) (above : first ≤ k) where
        b_goes : T ub × (k - cond ua (length A.transitions) 0 < length B.transitions)
        unfolding parts
        b_goes =
            second_goes _ _ A.transitions B.transitions ua ub k (subst (λ (n : ℕ). n ≤ k) first_is above)
            (subst (λ (xs : List RestTransition). k < length xs) parts_are (subst (λ (n : ℕ). k < n) (count_is i I.inside I.low) all))

        pub b_falls : r.b < i
        b_falls = (b_lower b_goes.0).0

        pub b_can : {w : List ℕ} {to x : ℕ} → Room w to (1 + 2 * rise v.records i) → x ≤ 6 → CanLay v w r.b (to + x) (k - first)
        unfolding B
        b_can R few =
            let u = b_lower b_goes.0 in
            record {
              world = W;
              state = s;
              counted = C;
              inside = omega arith;
              low = omega arith;
              least = omega (arith, b_goes.1, first_is, count_is r.b (omega arith) (omega arith));
              room = record { inside = omega (arith, R.inside); small = R.small };
            }

        pub b_room : {w w₁ : List ℕ} {to at e n : ℕ} → Room w to (1 + 2 * rise v.records i) → Lays (leaf_of W s v.records r.b).transitions (k - first) at w w₁ e n
            → Room w₁ to (n + 2)
        b_room {w} {w₁} {to} {at} {e} {n} R L =
            let few = leaf_few W s p C.lower r.b (k - first) at e n w₁ L.built in
            record { inside = omega (arith, R.inside, L.kept.len, few, (b_lower b_goes.0).1); small = omega (arith, R.small, L.kept.len) }

        pub b_lays : {w w₁ w' : List ℕ} {to n tag : ℕ} {x y : Laid} → tag ≡ tag_b r.kind → n ≡ past (eqb tag 0) 6
            → Lays (leaf_of W s v.records r.b).transitions (k - first) (to + n) w w₁ x.entry x.size
            → WrappedLaid (wrap_b (tag_b r.kind) r.a) (to + past (eqb (tag_b r.kind) 0) 6) to w₁ w' x y
            → Lays (leaf_of W s v.records i).transitions k to w w' y.entry y.size
        unfolding parts B
        b_lays {w} {w₁} {w'} {to} {n} {tag} {x} {y} et en M X =
            let L = subst (λ (n : ℕ). Lays (leaf_of W s p r.b).transitions (k - first) (to + n) w w₁ x.entry x.size) (en ∙ ap (λ (g : ℕ). past (eqb g 0) 6) et) M in
            record {
              built =
                  wrap_built _ B.transitions _ k (k - first) _ to x y w₁ w' L.built X.entry_is X.wrapped
                  (λ z h. ap (λ (xs : List RestTransition). get_elem? xs k) parts_are ∙ from_second _ _ A.transitions B.transitions ua ub k (k - first) b_goes.0 (omega (arith, first_is))
                  h);
              kept = kept_trans to to w w₁ w' (kept_less to _ w w₁ L.kept (omega arith)) X.wrapped.kept (omega arith);
            }

    -- a transition of its own leaves nothing
    pub own_lays : {w w' : List ℕ} {to k : ℕ} {x : Laid} → k < get_or v.counts i 0 → has_own r.kind ≡ true → Room w to (1 + 2 * rise v.records i)
        → LaidOwn r to w w' x → Lays (leaf_of W s v.records i).transitions k to w w' x.entry x.size
    unfolding nodes
    own_lays {w} {w'} {to} {k} h l R X = record {
      built = record {
        move = own_move r;
        rest = gone;
        nth = own_step k (subst (λ (n : ℕ). k < n) (count_is i I.inside I.low) h) l;
        at = put_gone to w w' X.put (omega (arith, R.inside));
        entry_is = X.entry_is;
        size_is = X.size_is;
      };
      kept = kept_put to to 0 0 1 w w' X.put (omega arith);
    }
