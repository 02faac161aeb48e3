-- Why laying out the transition at a cursor goes straight down by its place: the left part's cursors stand before where the right part begins,
-- and the right part's do not. What a part leaves gets the other part beside it, for which there is room. Assumes nothing.
use mathlib.Core.Path.{◌≡◌, refl, sym, ap, subst, ◌∙◌}
use mathlib.Core.Bool.{Bool}
use mathlib.Core.List.Memᴰ
use mathlib.Core.List.{List, map, Memᴰ}
use mathlib.Core.Logic.{⊎_elim}
use Prim.Native.Nat.{ℕ, ◌+◌, ◌-◌, ◌*◌, ◌^◌, ◌≤◌, ◌<◌, max}
use native.Mathlib.Nat.{pow-le-pow_right, mul-le-mul_right, add-mul, one-mul, sub-zero}
use native.Mathlib.Omega.{arith}
use lib.Dec.{eqb}
use lib.ListN.{get_or}
use Rattle.records.specs.Placeholders.{read_in, environment_of}
use Rattle.records.proofs.Placeholders.{environment_small, reading_whole}
use Rattle.golog.specs.declared.State.{State}
use Rattle.golog.specs.World.{World}
use Rattle.golog.specs.Transitions.{is_none}
use Rattle.golog.specs.Written.{written_records}
use Rattle.runs.specs.Guide.{only}
use Rattle.remaining.specs.Rest.{Rest, gone, leaf, node, nodes, largest, high}
use Rattle.remaining.specs.Leaves.{RestTransition, on_rest, goes_right, wrap_right, rest_final, rest_transitions}
use Rattle.remaining.proofs.Nodes.{step_nodes}
use Rattle.remaining.proofs.Written.{rise_read, written_lower}
use Rattle.words.specs.Words.{At, Stands, Kept, Room, CanPutCopy}
use Rattle.words.proofs.Standing.{gone_at, at_unique, at_size, nodes_pos}
use Rattle.words.proofs.Moved.{at_kept}
use Rattle.words.proofs.Reading.{size_at, Parts, Construct, construct, sized}
use Rattle.steps.specs.Laid.{past, GotRight, GotLeft}
use Rattle.steps.specs.Stepped.{CanPutRight}
use Rattle.steps.specs.declared.Laid.{Laid}
use Rattle.positions.specs.Spots.{Spot, moved, spots_of, rest_spots}
use Rattle.positions.specs.Rising.{Rising}
use Rattle.positions.specs.Found.{Tables, digits_in, spots_in, Surveyed, CanLook}
use Rattle.positions.specs.Placed.{CanPlace, Placed, PlacesRecord}
use Rattle.positions.proofs.Listed.{rest_spots_are}
use Rattle.positions.proofs.Rising.{rest_spots_rise}
use Rattle.positions.proofs.Parts.{rising_at, of_moved, of_only}
use Rattle.positions.proofs.From.{lt_or_ge}
use Rattle.positions.proofs.Forking.{rises}
use Rattle.positions.proofs.Placing.{wrap_placed}
use Rattle.cursors.specs.Going.{cursor_at, rest_spots_in, Inside, CanLayRest, PlacesRest}
use Rattle.cursors.proofs.Ending.{inside_left, inside_right}
use Rattle.cursors.proofs.Pointing.{point_stands, point_look, point_left, point_right}

-- positions are below N: a cursor stands before every one of a later place, and tells its place and its position
next_place : (N a b : ℕ) → a < b → a * N + N ≤ b * N
next_place N a b l =
    let next : (a + 1) * N ≤ b * N = mul-le-mul_right N (omega arith) in
    let same : (a + 1) * N ≡ a * N + N = add-mul a 1 N ∙ ap (λ (n : ℕ). a * N + n) (one-mul N) in
    omega (arith, next, same)

pub cursor_before : (N a b i : ℕ) → a < b → i < N → a * N + i < b * N
cursor_before N a b i l h = omega (arith, next_place N a b l)

pub cursor_behind : (N a b i : ℕ) → b ≤ a → b * N ≤ a * N + i
cursor_behind N a b i l = let h : b * N ≤ a * N = mul-le-mul_right N l in omega (arith, h)

pub cursor_same : (N a b i j : ℕ) → a * N + i ≡ b * N + j → i < N → j < N → (a ≡ b) × (i ≡ j)
cursor_same N a b i j e l h = (place, omega (arith, e, ap (λ (n : ℕ). n * N) place))
  where
    place : a ≡ b
    place =
        ⊎_elim (λ (u : a < b). absurd (omega (arith, e, cursor_before N a b i u l)))
        (λ (u : b ≤ a). ⊎_elim (λ (v : b < a). absurd (omega (arith, e, cursor_before N b a j v h))) (λ (v : a ≤ b). omega arith) (lt_or_ge b a))
        (lt_or_ge a b)

-- cursors of a remaining program, and of its parts
module _ {W : World} {s : State} {t : Tables} (Q : Surveyed W s t) where
  pub rest_rises : (place : ℕ) (g : Rest) → Inside t g → Rising (place * 2 ^ 64) ((place + 3 * nodes g) * 2 ^ 64) (rest_spots_in W s t place g)
  rest_rises place g H = rest_spots_rise W s t.records Q.prepared.endable (digits_in t) Q.prepared.spread Q.ends place g H.low

  pub spot_step : (place : ℕ) {c : ℕ} (g : Rest) {x : RestTransition} → Memᴰ (c, x) (rest_spots_in W s t place g)
      → Memᴰ x (rest_transitions W s (written_records t.records) g)
  spot_step place g {x} m =
      subst (Memᴰ x) (rest_spots_are W s (written_records t.records) (digits_in t) (written_lower t.records Q.prepared.spread.linked) place g)
      (Memᴰ.map (λ (y : Spot). y.1) m)

  -- what is left is small
  spot_few : (place : ℕ) {c : ℕ} (g : Rest) {x : RestTransition} → Memᴰ (c, x) (rest_spots_in W s t place g)
      → nodes x.1 ≤ nodes g + 2 * high (written_records t.records) g
  spot_few place g {x} m = step_nodes W s (written_records t.records) (written_lower t.records Q.prepared.spread.linked) g x (spot_step place g m)

  leaf_spot : (n f place k : ℕ) {x : RestTransition} → digits_in t (read_in n) ≤ 16 → k < 2 ^ 64 → Memᴰ (cursor_at place k, x) (rest_spots_in W s t f (leaf n))
      → Memᴰ (k, x) (spots_in W s t (read_in n) (environment_of n))
  unfolding rest_spots
  leaf_spot n f place k {x} low small m =
      let z = of_moved (f * 2 ^ 64) (cursor_at place k) (λ (g : Rest). g) (spots_of W s (written_records t.records) (digits_in t) n) m in
      let there = subst (λ (j : ℕ). Memᴰ (cursor_at place k - f * 2 ^ 64, z.1) (spots_of W s (written_records t.records) (digits_in t) j)) (sym (reading_whole n)) z.2 in
      let few : 16 ^ digits_in t (read_in n) ≤ 16 ^ 16 = pow-le-pow_right (omega arith) low in
      let below = (rising_at (rises Q (read_in n) (environment_of n) (environment_small n)) there).1 in
      let whole : f * 2 ^ 64 + (cursor_at place k - f * 2 ^ 64) ≡ place * 2 ^ 64 + k = back (f * 2 ^ 64) (cursor_at place k) z.0 in
      let same = (cursor_same (2 ^ 64) f place (cursor_at place k - f * 2 ^ 64) k whole (omega (arith, few, below)) small).1 in
      let move : x ≡ z.1 = z.3 in
      Memᴰ.cast (ap (λ (y : RestTransition). (k, y)) move ∙ ap (λ (j : ℕ). (j, z.1)) (sym same)) there
    where
      back : (a b : ℕ) → a ≤ b → a + (b - a) ≡ b
      back a b l = omega arith

  module _ (f tag : ℕ) (l r : Rest) (H : Inside t (node tag l r)) {c : ℕ} {x : RestTransition} (m : Memᴰ (c, x) (rest_spots_in W s t f (node tag l r))) where
    goes : Bool
    goes = goes_right tag (rest_final W s (written_records t.records) l) (is_none (rest_transitions W s (written_records t.records) l))

    L : List Spot
    L = rest_spots_in W s t (f + 3) l

    R : List Spot
    R = rest_spots_in W s t (f + 3 + 3 * nodes l) r

    in_left : Memᴰ (c, x) (map (moved 0 (λ (g : Rest). node tag g r)) L)
        → (y : RestTransition) × Memᴰ (c, y) (rest_spots_in W s t (f + 3) l) × (x ≡ on_rest (λ (g : Rest). node tag g r) y) × (c < (f + 3 + 3 * nodes l) * 2 ^ 64)
    unfolding L
    in_left h =
        let z = of_moved 0 c (λ (g : Rest). node tag g r) L h in
        let there = Memᴰ.cast (ap (λ (n : ℕ). (n, z.1)) (sym (sub-zero c))) z.2 in
        (z.1, there, z.3, (rising_at (rest_rises (f + 3) l (inside_left H)) there).1)

    in_right : Memᴰ (c, x) (map (moved 0 (wrap_right tag l)) (only goes R))
        → (y : RestTransition) × Memᴰ (c, y) (rest_spots_in W s t (f + 3 + 3 * nodes l) r) × (x ≡ on_rest (wrap_right tag l) y) × ((f + 3 + 3 * nodes l) * 2 ^ 64 ≤ c)
    unfolding R
    in_right h =
        let z = of_moved 0 c (wrap_right tag l) (only goes R) h in
        let there = (of_only goes R (Memᴰ.cast (ap (λ (n : ℕ). (n, z.1)) (sym (sub-zero c))) z.2)).1 in
        (z.1, there, z.3, (rising_at (rest_rises (f + 3 + 3 * nodes l) r (inside_right H)) there).0)

    left_spot : c < (f + 3 + 3 * nodes l) * 2 ^ 64 → (y : RestTransition) × Memᴰ (c, y) (rest_spots_in W s t (f + 3) l) × (x ≡ on_rest (λ (g : Rest). node tag g r) y)
    unfolding rest_spots L R goes
    left_spot h =
        ⊎_elim (λ u. let z = in_left u in (z.0, z.1, z.2)) (λ u. absurd (less_not (in_right u).3 h))
        (Memᴰ.append_cases (map (moved 0 (λ (g : Rest). node tag g r)) L) m)
      where
        less_not : {a b : ℕ} → a ≤ b → b < a → ⊥
        less_not u v = omega arith

    right_spot : (f + 3 + 3 * nodes l) * 2 ^ 64 ≤ c → (y : RestTransition) × Memᴰ (c, y) (rest_spots_in W s t (f + 3 + 3 * nodes l) r) × (x ≡ on_rest (wrap_right tag l) y)
    unfolding rest_spots L R goes
    right_spot h =
        ⊎_elim (λ u. absurd (less_not h (in_left u).3)) (λ u. let z = in_right u in (z.0, z.1, z.2))
        (Memᴰ.append_cases (map (moved 0 (λ (g : Rest). node tag g r)) L) m)
      where
        less_not : {a b : ℕ} → a ≤ b → b < a → ⊥
        less_not u v = omega arith

module _ {t : Tables} {w : List ℕ} {f to place k : ℕ} (K : CanLayRest t w f to place k) where
  pub lay_stands : Stands w f
  lay_stands = point_stands K.can

  -- there is a transition, so that something is left
  not_gone : K.can.rest ≡ gone → ⊥
  unfolding rest_spots
  not_gone e = Memᴰ.not-nil (subst (λ (g : Rest). Memᴰ (cursor_at place k, K.move) (rest_spots_in K.can.world K.can.state t f g)) e K.there)

  -- it is a leaf or a construct
  module _ {tag : ℕ} (et : tag ≡ get_or w f 0) (other : tag ≡ 1 → ⊥) where
    not_none : tag ≡ 0 → ⊥
    not_none z = not_gone (gone_at w f tag et K.can.rest K.can.at z)

    pub lay_construct : Construct w f
    lay_construct = construct lay_stands et not_none other

    pub lay_parts : {m : ℕ} → m ≡ get_or w (f + 3 + 2) 0 → Parts K.can.rest w f tag m
    lay_parts em = (sized lay_stands et not_none other em).parts_of K.can.rest K.can.at

  -- what is so of what is known to stand there is so of whatever stands there
  whatever : {w' : List ℕ} {r : Laid} → ((W : World) (s : State) → Surveyed W s t → (x : RestTransition) → Memᴰ (cursor_at place k, x) (rest_spots_in W s t f K.can.rest)
      → Placed x to w w' r.entry r.size) → PlacesRest t f place k to w w' r
  whatever {w'} {r} h W s Q g A x m =
      h W s Q x (subst (λ (g : Rest). Memᴰ (cursor_at place k, x) (rest_spots_in W s t f g)) (sym (at_unique K.can.rest g w f K.can.at A)) m)

  -- a leaf
  module _ (small : k < 2 ^ 64) {j n : ℕ} (e : K.can.rest ≡ leaf j) (q : n ≡ j) where
    is_leaf : K.can.rest ≡ leaf n
    is_leaf = e ∙ ap leaf (sym q)

    abbrev looked : CanLook t (read_in n) (environment_of n)
    looked = point_look K.can e q

    leaf_there : {W : World} {s : State} → Surveyed W s t → {x : RestTransition} → Memᴰ (cursor_at place k, x) (rest_spots_in W s t f K.can.rest)
        → Memᴰ (k, x) (spots_in W s t (read_in n) (environment_of n))
    leaf_there {W} {s} Q {x} m =
        leaf_spot Q n f place k looked.low small (subst (λ (g : Rest). Memᴰ (cursor_at place k, x) (rest_spots_in W s t f g)) is_leaf m)

    pub leaf_can : CanPlace t w (read_in n) (environment_of n) to k
    unfolding nodes largest
    leaf_can =
        let R = subst (λ (g : Rest). Room w to (nodes g + 2 * high (written_records t.records) g)) is_leaf K.room in
        let same = rise_read t.records K.can.surveyed.prepared.spread.linked n in
        record { look = looked; move = K.move; there = leaf_there K.can.surveyed K.there; room = record { inside = omega (arith, R.inside); small = R.small } }

    pub leaf_placed : {w' : List ℕ} {r : Laid} → PlacesRecord t (read_in n) (environment_of n) k to w w' r.entry r.size → PlacesRest t f place k to w w' r
    leaf_placed L = whatever (λ W s Q x m. L W s Q x (leaf_there Q m))

  -- a construct
  module _ {tag m : ℕ} (D : Parts K.can.rest w f tag m) where
    in_parts : Inside t (node tag D.l D.r)
    in_parts = subst (Inside t) D.is K.can.inside

    sizes : nodes K.can.rest ≡ 1 + nodes D.l + nodes D.r
    unfolding nodes
    sizes = ap nodes D.is

    highs : high (written_records t.records) K.can.rest ≡ max (high (written_records t.records) D.l) (high (written_records t.records) D.r)
    unfolding largest
    highs = ap (high (written_records t.records)) D.is

    there_parts : (W : World) (s : State) {x : RestTransition} → Memᴰ (cursor_at place k, x) (rest_spots_in W s t f K.can.rest)
        → Memᴰ (cursor_at place k, x) (rest_spots_in W s t f (node tag D.l D.r))
    there_parts W s {x} h = subst (λ (g : Rest). Memᴰ (cursor_at place k, x) (rest_spots_in W s t f g)) D.is h

    -- where the parts end
    pub parts_below : f + 3 + 3 * m + 3 * nodes D.r ≤ to
    parts_below = omega (arith, K.below, sizes, D.left_is)

    pub lay_falls_left : {u : ℕ} → size_at w f ≡ u → size_at w (f + 3) < u
    unfolding size_at
    lay_falls_left e = omega (arith, at_size D.l w (f + 3) D.l_at, at_size K.can.rest w f K.can.at, sizes)

    pub lay_falls_right : {u : ℕ} → size_at w f ≡ u → size_at w (f + 3 + 3 * m) < u
    unfolding size_at
    lay_falls_right e = omega (arith, at_size D.r w (f + 3 + 3 * m) D.r_at, at_size K.can.rest w f K.can.at, sizes, nodes_pos D.l)

    -- the cursor is the left part's
    module _ (small : k < 2 ^ 64) (before : place < f + 3 + 3 * m) where
      left_there : {W : World} {s : State} → Surveyed W s t → {x : RestTransition} → Memᴰ (cursor_at place k, x) (rest_spots_in W s t f K.can.rest)
          → (y : RestTransition) × Memᴰ (cursor_at place k, y) (rest_spots_in W s t (f + 3) D.l) × (x ≡ on_rest (λ (g : Rest). node tag g D.r) y)
      left_there {W} {s} Q h =
          left_spot Q f tag D.l D.r in_parts (there_parts W s h) (cursor_before (2 ^ 64) place (f + 3 + 3 * nodes D.l) k (omega (arith, before, D.left_is)) small)

      pub can_left : CanLayRest t w (f + 3) (to + 3) place k
      can_left =
          let z = left_there K.can.surveyed K.there in
          record {
            can = point_left K.can D;
            move = z.0;
            there = z.1;
            below = omega (arith, K.below, sizes);
            room = record { inside = omega (arith, K.room.inside, sizes, highs); small = K.room.small };
          }

      module _ {w₁ : List ℕ} {x : Laid} (L : PlacesRest t (f + 3) place k (to + 3) w w₁ x) where
        left_laid : {W : World} {s : State} (Q : Surveyed W s t) {y : RestTransition} → Memᴰ (cursor_at place k, y) (rest_spots_in W s t (f + 3) D.l)
            → Placed y (to + 3) w w₁ x.entry x.size
        left_laid {W} {s} Q {y} h = L W s Q D.l D.l_at y h

        right_at : Kept (to + 3) w w₁ → At D.r w₁ (f + 3 + 3 * m)
        right_at E = at_kept D.r (f + 3 + 3 * m) (to + 3) w w₁ E (omega (arith, parts_below)) D.r_at

        pub left_end : CanPutRight tag (f + 3 + 3 * m) to x.size w₁
        left_end =
            let z = left_there K.can.surveyed K.there in
            let B = left_laid K.can.surveyed z.1 in
            let few = spot_few K.can.surveyed (f + 3) D.l z.1 in
            record {
              three = D.three;
              right = D.r;
              at = right_at B.kept;
              below = parts_below;
              room = record { inside = omega (arith, K.room.inside, sizes, highs, few, B.size_is, B.kept.len); small = omega (arith, K.room.small, B.kept.len) };
            }

        pub left_placed : {w' : List ℕ} {r : Laid} → GotRight tag (f + 3 + 3 * m) to w₁ w' x r → PlacesRest t f place k to w w' r
        left_placed {w'} {r} G = whatever (λ W s Q u h.
            let z = left_there Q h in
            let B = left_laid Q z.1 in
            wrap_placed (λ (g : Rest). node tag g D.r) z.0 B (record { entry_is = G.entry_is; wrapped = G.wraps D.r (right_at B.kept) }) refl (omega arith) z.2)

    -- it is the right part's
    module _ (behind : f + 3 + 3 * m ≤ place) where
      right_there : {W : World} {s : State} → Surveyed W s t → {x : RestTransition} → Memᴰ (cursor_at place k, x) (rest_spots_in W s t f K.can.rest)
          → (y : RestTransition) × Memᴰ (cursor_at place k, y) (rest_spots_in W s t (f + 3 + 3 * m) D.r) × (x ≡ on_rest (wrap_right tag D.l) y)
      right_there {W} {s} Q {x} h =
          subst
          (λ (n : ℕ). (y : RestTransition) × Memᴰ (cursor_at place k, y) (rest_spots_in W s t (f + 3 + 3 * n) D.r) × (x ≡ on_rest (wrap_right tag D.l) y)) (sym D.left_is)
          (right_spot Q f tag D.l D.r in_parts (there_parts W s h) (cursor_behind (2 ^ 64) place (f + 3 + 3 * nodes D.l) k (omega (arith, behind, D.left_is))))

      pub can_right : {a : ℕ} → a ≤ 3 + 3 * m → CanLayRest t w (f + 3 + 3 * m) (to + a) place k
      can_right {a} l =
          let z = right_there K.can.surveyed K.there in
          record {
            can = point_right K.can D;
            move = z.0;
            there = z.1;
            below = omega (arith, parts_below);
            room = record { inside = omega (arith, K.room.inside, sizes, highs, D.left_is); small = K.room.small };
          }

      module _ {a : ℕ} (ea : a ≡ past (eqb tag 3) (3 + 3 * m)) {w₁ : List ℕ} {x : Laid} (R : PlacesRest t (f + 3 + 3 * m) place k (to + a) w w₁ x) where
        right_laid : {W : World} {s : State} (Q : Surveyed W s t) {y : RestTransition} → Memᴰ (cursor_at place k, y) (rest_spots_in W s t (f + 3 + 3 * m) D.r)
            → Placed y (to + a) w w₁ x.entry x.size
        right_laid {W} {s} Q {y} h = R W s Q D.r D.r_at y h

        left_at : Kept (to + a) w w₁ → At D.l w₁ (f + 3)
        left_at E = at_kept D.l (f + 3) (to + a) w w₁ E (omega (arith, K.below, sizes)) D.l_at

        pub right_end : CanPutCopy (f + 3) to tag x.size m w₁
        right_end =
            let z = right_there K.can.surveyed K.there in
            let B = right_laid K.can.surveyed z.1 in
            let few = spot_few K.can.surveyed (f + 3 + 3 * m) D.r z.1 in
            record {
              room = record { inside = omega (arith, K.room.inside, sizes, highs, few, B.size_is, B.kept.len, D.left_is); small = omega (arith, K.room.small, B.kept.len) };
              three = D.three;
              below = omega (arith, K.below, sizes, D.left_is);
            }

        pub right_placed : {w' : List ℕ} {r : Laid} → GotLeft tag (f + 3) to m w₁ w' x r → PlacesRest t f place k to w w' r
        right_placed {w'} {r} G = whatever (λ W s Q u h.
            let z = right_there Q h in
            let B = right_laid Q z.1 in
            wrap_placed (wrap_right tag D.l) z.0 B (record { entry_is = G.entry_is; wrapped = G.wraps D.l (left_at B.kept) (sym D.left_is) })
            (ap (λ (n : ℕ). to + n) ea) (omega arith) z.2)
