-- Why one pass finds the k-th transition of a remaining program. A construct's transitions are those of the left part, then, where the
-- left part lets it go, those of the right part; what the pass learns of the left part, how many there are and whether it is final,
-- tells whether it does. The parts stand below what is laid out, so they are still there to be copied. Assumes nothing.
use mathlib.Core.Path.{◌≡◌, refl, sym, ap, ap₂, subst, ◌∙◌}
use mathlib.Core.Bool.{Bool, true, false, cond, ◌&&◌}
use mathlib.Core.List.{List, [], ◌∷◌}
use Rattle.std.specs.Prelude.{Ok, Err}
use Prim.Native.Nat.{ℕ, ◌+◌, ◌*◌, ◌-◌, ◌^◌, ◌≤◌, ◌<◌, max}
use native.Mathlib.Omega.{arith}
use lib.Dec.{T as Passes, eqb}
use lib.ListN.{length, get_or, get_elem?}
use borrow.Author.Tests.{eq-eqb, ne_eqb}
use Rattle.records.specs.declared.Program.{Program}
use Rattle.golog.specs.declared.State.{State}
use Rattle.golog.specs.World.{World}
use Rattle.golog.specs.Transitions.{is_none}
use Rattle.remaining.specs.Rest.{Rest, gone, leaf, node, nodes, largest, high}
use Rattle.remaining.specs.Leaves.{RestTransition, goes_right, wrap_right, rest_final, rest_transitions}
use Rattle.words.specs.Words.{At, Stands, Kept, Room, CanPutCopy}
use Rattle.words.proofs.Standing.{nodes_pos, at_size, at_unique}
use Rattle.words.proofs.Written.{kept_refl, kept_less, kept_trans}
use Rattle.words.proofs.Moved.{at_kept}
use Rattle.words.proofs.Reading.{size_at, Parts, sized}
use Rattle.leaves.proofs.Entries.{finals_at}
use Rattle.ends.specs.Ends.{final_by_table, InTable}
use Rattle.ends.proofs.Tabled.{within_leaf, within_left, within_right, final_in}
use Rattle.steps.specs.Laid.{Sources, CanLay, Built, LaysRecord, past, GotRight, GotLeft}
use Rattle.steps.specs.Stepped.{Tabled, CanStepRecord, CanStep, Turn, Turned, StepsRecord, Stepped, StepsRest, CanPutRight}
use Rattle.steps.specs.declared.Laid.{Laid}
use Rattle.steps.specs.declared.Passed.{Passed}
use Rattle.steps.proofs.Nth.{both_length, from_first, from_second}
use Rattle.steps.proofs.Laying.{built_few, wrap_built, count_is}

-- a record
module _ {v : Sources} {finals : List Bool} {w : List ℕ} {i to : ℕ} (K : CanStepRecord v finals w i to) {count : ℕ} (ec : count ≡ get_or v.counts i 0) {k : ℕ} where
  pub record_can : k < count → CanLay v w i to k
  record_can h = record {
    world = K.world;
    state = K.state;
    counted = K.tabled.counted;
    inside = K.inside;
    low = K.low;
    least = omega arith;
    room = K.room;
  }

  pub record_none : count ≤ k → {x : Bool} → x ≡ get_or finals i true → StepsRecord v finals i k to w w (Err (record { k = k - count; done = x }))
  record_none h ex W s T = record {
    turned = (omega (arith, count_is T.counted i K.inside K.low), ex ∙ ap (λ (l : List Bool). get_or l i true) T.finals_are ∙ finals_at W s v.records v.many i K.inside);
    kept = kept_refl to w;
  }

pub record_made : {v : Sources} (finals : List Bool) {i k to : ℕ} {x : Laid} {w w' : List ℕ} → LaysRecord v i k to w w' x.entry x.size → StepsRecord v finals i k to w w' (Ok x)
record_made finals L W s T = record { turned = (L W s T.counted).built; kept = (L W s T.counted).kept }

-- the answer that a match found
module _ {W : World} {s : State} {p : ℕ → Program} {g : Rest} {k to : ℕ} {w w' : List ℕ} {t : Turn} (S : Stepped W s p g k to w w' t) where
  made_of : {x : Laid} → t ≡ Ok x → Built (rest_transitions W s p g) k to x.entry x.size w'
  made_of q = subst (λ (u : Turn). Turned (rest_final W s p g) (rest_transitions W s p g) k to w' u) q S.turned

  left_of : {q : Passed} → t ≡ Err q → (k ≡ length (rest_transitions W s p g) + q.k) × (q.done ≡ rest_final W s p g)
  left_of q = subst (λ (u : Turn). Turned (rest_final W s p g) (rest_transitions W s p g) k to w' u) q S.turned

module _ {v : Sources} {finals : List Bool} {w : List ℕ} {f to : ℕ} (K : CanStep v finals w f to) where
  pub can_holds : Stands w f
  can_holds = record { rest = K.rest; at = K.at }

  -- what is so of what is known to stand there is so of whatever stands there
  pub whatever : {k : ℕ} {w' : List ℕ} {r : Turn} → ((W : World) (s : State) → Tabled W s v finals → Stepped W s v.records K.rest k to w w' r)
      → StepsRest v finals f k to w w' r
  whatever {k} {w'} {r} h W s T g A = subst (λ (g : Rest). Stepped W s v.records g k to w w' r) (at_unique K.rest g w f K.at A) (h W s T)

  pub gone_left : {k : ℕ} → K.rest ≡ gone → StepsRest v finals f k to w w (Err (record { k = k; done = true }))
  unfolding rest_final rest_transitions
  gone_left {k} e =
      whatever (λ W s T. subst (λ (g : Rest). Stepped W s v.records g k to w w (Err (record { k = k; done = true }))) (sym e) (record { turned = (omega arith, refl); kept = kept_refl to w }))

  pub leaf_can : {i j : ℕ} → K.rest ≡ leaf j → i ≡ j → CanStepRecord v finals w i to
  unfolding nodes largest
  leaf_can {i} {j} e ei =
      let q : K.rest ≡ leaf i = e ∙ ap leaf (sym ei) in
      let H : InTable v.records v.many (leaf i) = subst (InTable v.records v.many) q K.within in
      record {
        world = K.world;
        state = K.state;
        tabled = K.tabled;
        inside = (within_leaf H).0;
        low = (within_leaf H).1;
        room = subst (λ (g : Rest). Room w to (nodes g + 2 * high v.records g)) q K.room;
      }

  pub leaf_steps : {i j k : ℕ} {w' : List ℕ} {r : Turn} → K.rest ≡ leaf j → i ≡ j → StepsRecord v finals i k to w w' r → StepsRest v finals f k to w w' r
  unfolding rest_final rest_transitions
  leaf_steps {i} {j} {k} {w'} {r} e ei S =
      whatever (λ W s T.
      subst (λ (g : Rest). Stepped W s v.records g k to w w' r) (sym (e ∙ ap leaf (sym ei))) (record { turned = (S W s T).turned; kept = (S W s T).kept }))

-- a construct that can step
pub record Split (v : Sources) (finals : List Bool) (w : List ℕ) (f to tag left : ℕ) (g : Rest) : Type 0 where
  pub world : World
  pub state : State
  pub tabled : Tabled world state v finals
  pub parts : Parts g w f tag left
  pub left_in : InTable v.records v.many parts.l
  pub right_in : InTable v.records v.many parts.r
  pub below : f + 3 * (1 + nodes parts.l + nodes parts.r) ≤ to
  pub inside : to + 3 * (1 + nodes parts.l + nodes parts.r + 2 * max (high v.records parts.l) (high v.records parts.r)) ≤ length w
  pub small : length w < 2 ^ 32
  pub size_is : size_at w f ≡ 1 + nodes parts.l + nodes parts.r

pub split : {v : Sources} {finals : List Bool} {w : List ℕ} {f to : ℕ} (K : CanStep v finals w f to) {tag left : ℕ} → tag ≡ get_or w f 0 → (tag ≡ 0 → ⊥)
    → (tag ≡ 1 → ⊥) → left ≡ get_or w (f + 3 + 2) 0
    → Split v finals w f to tag left K.rest
unfolding nodes largest size_at
split {v} {finals} {w} {f} {to} K {tag} {left} e n0 n1 el =
    let P = (sized (can_holds K) e n0 n1 el).parts_of K.rest K.at in
    let H = subst (InTable v.records v.many) P.is K.within in
    let R = subst (λ (g : Rest). Room w to (nodes g + 2 * high v.records g)) P.is K.room in
    record {
      world = K.world;
      state = K.state;
      tabled = K.tabled;
      parts = P;
      left_in = within_left H;
      right_in = within_right H;
      below = omega (arith, K.below, ap nodes P.is);
      inside = R.inside;
      small = R.small;
      size_is = at_size K.rest w f K.at ∙ ap nodes P.is;
    }

module _ {v : Sources} {finals : List Bool} {w : List ℕ} {f to tag left : ℕ} {g : Rest} (X : Split v finals w f to tag left g) where
  abbrev p : ℕ → Program
  p = v.records

  abbrev l : Rest
  l = X.parts.l

  abbrev r : Rest
  r = X.parts.r

  pub left_can : CanStep v finals w (f + 3) (to + 3)
  left_can = record {
    world = X.world;
    state = X.state;
    tabled = X.tabled;
    rest = l;
    at = X.parts.l_at;
    within = X.left_in;
    below = omega (arith, X.below);
    room = record { inside = omega (arith, X.inside); small = X.small };
  }

  pub left_falls : {t : ℕ} → size_at w f ≡ t → size_at w (f + 3) < t
  unfolding size_at
  left_falls e = omega (arith, at_size l w (f + 3) X.parts.l_at, X.size_is)

  -- where the parts end
  pub parts_inside : f + 3 + 3 * left + 3 * nodes X.parts.r ≤ to
  parts_inside = omega (arith, X.below, X.parts.left_is)

  -- after the left part was tried
  module _ {k : ℕ} {w₁ : List ℕ} {t : Turn} (M : StepsRest v finals (f + 3) k (to + 3) w w₁ t) where
    E : Kept (to + 3) w w₁
    E = (M X.world X.state X.tabled l X.parts.l_at).kept

    pub right_at : At X.parts.r w₁ (f + 3 + 3 * left)
    right_at = at_kept r (f + 3 + 3 * left) (to + 3) w w₁ E (omega (arith, parts_inside)) X.parts.r_at

    pub right_holds : Stands w₁ (f + 3 + 3 * left)
    right_holds = record { rest = r; at = right_at }

    pub right_can : {x : ℕ} → x ≤ 3 + 3 * left → CanStep v finals w₁ (f + 3 + 3 * left) (to + x)
    right_can h = record {
      world = X.world;
      state = X.state;
      tabled = X.tabled;
      rest = r;
      at = right_at;
      within = X.right_in;
      below = omega (arith, parts_inside);
      room = record { inside = omega (arith, X.inside, X.parts.left_is, E.len); small = omega (arith, X.small, E.len) };
    }

    pub right_falls : {t : ℕ} → size_at w f ≡ t → size_at w₁ (f + 3 + 3 * left) < t
    unfolding size_at
    right_falls e = omega (arith, at_size r w₁ (f + 3 + 3 * left) right_at, X.size_is, nodes_pos l)

  module _ {W : World} {s : State} (T : Tabled W s v finals) {k : ℕ} {w₁ : List ℕ} {t : Turn} (M : StepsRest v finals (f + 3) k (to + 3) w w₁ t) where
    S : Stepped W s p l k (to + 3) w w₁ t
    S = M W s T l X.parts.l_at

    abbrev L : List RestTransition
    L = rest_transitions W s p l

    abbrev R : List RestTransition
    R = rest_transitions W s p r

    abbrev goes : Bool
    goes = goes_right tag (rest_final W s p l) (is_none L)

    steps_are : rest_transitions W s p g ≡ rest_transitions W s p (node tag l r)
    steps_are = ap (rest_transitions W s p) X.parts.is

    final_is : {x y : Bool} → x ≡ rest_final W s p l → y ≡ rest_final W s p r → (x && y) ≡ rest_final W s p g
    unfolding rest_final
    final_is ex ey = ap₂ ◌&&◌ ex ey ∙ ap (rest_final W s p) (sym X.parts.is)

    -- the left part made one
    module _ {x : Laid} (q : t ≡ Ok x) where
      pub made_can : CanPutRight tag (f + 3 + 3 * left) to x.size w₁
      made_can =
          let few = built_few W s p T.counted.lower l k (to + 3) x.entry x.size w₁ (made_of S q) in
          record {
            three = X.parts.three;
            right = r;
            at = right_at M;
            below = omega (arith, parts_inside);
            room = record { inside = omega (arith, X.inside, S.kept.len); small = omega (arith, X.small, S.kept.len) };
          }

      pub made_stepped : {w' : List ℕ} {y : Laid} → GotRight tag (f + 3 + 3 * left) to w₁ w' x y → Stepped W s v.records g k to w w' (Ok y)
      unfolding rest_transitions
      made_stepped {w'} {y} G =
          let Y = G.wraps r (right_at M) in
          record {
            turned =
                wrap_built (λ (g : Rest). node tag g r) L (rest_transitions W s p g) k k (to + 3) to x y w₁ w' (made_of S q) G.entry_is Y
                (λ y h. ap (λ (xs : List RestTransition). get_elem? xs k) steps_are ∙ from_first (λ (g : Rest). node tag g r) (wrap_right tag l) L R true goes k tt h);
            kept = kept_trans to to w w₁ w' (kept_less to (to + 3) w w₁ S.kept (omega arith)) Y.kept (omega arith);
          }

    -- it made none: whether the right part goes
    module _ {z : Passed} (q : t ≡ Err z) {b : Bool} (eb : b ≡ goes_right tag z.done (eqb z.k k)) where
      counted : k ≡ length L + z.k
      counted = (left_of S q).0

      idle_is : (xs : List RestTransition) → k ≡ length xs + z.k → eqb z.k k ≡ is_none xs
      idle_is [] e = eq-eqb z.k k (omega arith)
      idle_is (x ∷ xs) e = ne_eqb z.k k (λ n. omega arith)

      goes_is : b ≡ goes
      goes_is = eb ∙ ap₂ (goes_right tag) (left_of S q).1 (idle_is L counted)

      both_count : length (rest_transitions W s p g) ≡ length L + cond b (length R) 0
      unfolding rest_transitions
      both_count = ap length steps_are ∙ both_length (λ (g : Rest). node tag g r) (wrap_right tag l) L R true goes ∙ ap (λ (b : Bool). length L + cond b (length R) 0) (sym goes_is)

      pub stays_stepped : b ≡ false → {x : Bool} → ((g : Rest) → At g w₁ (f + 3 + 3 * left) → x ≡ (z.done && final_by_table finals g))
          → Stepped W s v.records g k to w w₁ (Err (record { k = z.k; done = x }))
      stays_stepped nb ex = record {
        turned = (
          counted ∙ omega (arith, both_count, ap (λ (b : Bool). cond b (length R) 0) nb),
          ex r (right_at M) ∙ final_is (left_of S q).1 (ap (λ (l : List Bool). final_by_table l r) T.finals_are ∙ final_in W s p v.many r X.right_in),
        );
        kept = kept_less to (to + 3) w w₁ S.kept (omega arith);
      }

      module _ (yb : b ≡ true) {x : ℕ} (ex : x ≡ past (eqb tag 3) (3 + 3 * left)) {w₂ : List ℕ} {u : Turn} (N : StepsRest v finals (f + 3 + 3 * left) z.k (to + x) w₁ w₂ u) where
        U : Stepped W s p r z.k (to + x) w₁ w₂ u
        U = N W s T r (right_at M)

        kept_two : Kept to w w₂
        kept_two = kept_trans to (to + x) w w₁ w₂ (kept_less to (to + 3) w w₁ S.kept (omega arith)) U.kept (omega arith)

        pub goes_can : {y : Laid} → u ≡ Ok y → CanPutCopy (f + 3) to tag y.size left w₂
        goes_can {y} eu =
            let few = built_few W s p T.counted.lower r z.k (to + x) y.entry y.size w₂ (made_of U eu) in
            record {
              room = record { inside = omega (arith, X.inside, X.parts.left_is, kept_two.len); small = omega (arith, X.small, kept_two.len) };
              three = X.parts.three;
              below = omega (arith, parts_inside);
            }

        pub goes_made : {w' : List ℕ} {y m : Laid} → u ≡ Ok y → GotLeft tag (f + 3) to left w₂ w' y m → Stepped W s v.records g k to w w' (Ok m)
        unfolding rest_transitions
        goes_made {w'} {y} {m} eu G =
            let Y = G.wraps l left_at (sym X.parts.left_is) in
            record {
              turned =
                  wrap_built (wrap_right tag l) R (rest_transitions W s p g) k z.k (to + past (eqb tag 3) (3 + 3 * left)) to y m w₂ w'
                  (subst (λ (n : ℕ). Built R z.k (to + n) y.entry y.size w₂) ex (made_of U eu)) G.entry_is Y
                  (λ y h. ap (λ (xs : List RestTransition). get_elem? xs k) steps_are
                  ∙ from_second (λ (g : Rest). node tag g r) (wrap_right tag l) L R true goes k z.k (subst Passes (sym yb ∙ goes_is) tt) counted h);
              kept = kept_trans to to w w₂ w' kept_two Y.kept (omega arith);
            }
          where
            left_at : At l w₂ (f + 3)
            left_at = at_kept l (f + 3) to w w₂ kept_two (omega (arith, X.below)) X.parts.l_at

        pub goes_passed : {y : Passed} → u ≡ Err y → Stepped W s v.records g k to w w₂ (Err (record { k = y.k; done = z.done && y.done }))
        goes_passed {y} eu =
            let B = left_of U eu in
            record {
              turned = (counted ∙ omega (arith, B.0, both_count, ap (λ (b : Bool). cond b (length R) 0) yb), final_is (left_of S q).1 B.1);
              kept = kept_two;
            }
