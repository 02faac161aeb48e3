-- Why one pass finds the first transition from a cursor on. A leaf's are those of its record, from its node's place on; a construct's are those
-- of the left part, then, where that lets it go, those of the right part. What the pass learns of a left part without one, whether it is
-- final and whether it has none at all, tells whether it does. Assumes nothing.
use mathlib.Core.Path.{◌≡◌, refl, sym, ◌∙◌, ap, ap₂, subst}
use mathlib.Core.Bool.{Bool, true, false, not, cond, ◌&&◌}
use mathlib.Core.List.{List, [], ◌∷◌, ◌++◌, map}
use Rattle.std.specs.Prelude.{Option, Some, None, Result, Ok, Err}
use Rattle.std.specs.Option.{option_or, option_map, ok_or}
use Prim.Native.Nat.{ℕ, ◌+◌, ◌-◌, ◌*◌, ◌^◌, ◌≤◌, ◌<◌}
use native.Mathlib.Nat.{sub-zero, pow-le-pow_right}
use native.Mathlib.Omega.{arith}
use Rattle.records.specs.declared.Program.{Program}
use Rattle.records.specs.Placeholders.{reading, read_in, environment_of}
use Rattle.records.proofs.Placeholders.{environment_small, reading_whole}
use Rattle.sets.specs.Sets.{member, set_at}
use Rattle.golog.specs.declared.State.{State}
use Rattle.golog.specs.World.{World}
use Rattle.golog.specs.Transitions.{is_none}
use Rattle.golog.specs.Written.{written_records}
use Rattle.runs.specs.Guide.{only}
use Rattle.remaining.specs.Rest.{Rest, gone, leaf, node, nodes}
use Rattle.remaining.specs.Leaves.{on_rest, leaf_of, goes_right, wrap_right, rest_final, rest_transitions}
use Rattle.words.specs.Words.{At, Stands}
use Rattle.words.proofs.Standing.{at_unique}
use Rattle.words.proofs.Reading.{Parts}
use Rattle.positions.specs.Spots.{Spot, moved, spots_of, rest_spots, from_spot}
use Rattle.positions.specs.Rising.{Rising}
use Rattle.positions.specs.Found.{first_of, further, Tables, digits_in, spots_in, Surveyed, CanLook, FindsRecord}
use Rattle.positions.proofs.Rising.{rising_wider}
use Rattle.positions.proofs.Forking.{rises}
use Rattle.positions.proofs.From.{found_moved, found_append, found_none}
use Rattle.cursors.specs.declared.Cursor.{Cursor}
use Rattle.cursors.specs.declared.Passed.{Passed}
use Rattle.cursors.specs.Ended.{CanEnd}
use Rattle.cursors.specs.Going.{cursor_at, rest_spots_in, Inside, pointed, Points, CanPoint, FindsLeaf}
use Rattle.cursors.proofs.Ending.{inside_left, inside_right, inside_leaf, inside_low}

further_zero : (m : Option ℕ) → further 0 m ≡ m
further_zero None = refl
further_zero (Some k) = ap Some (omega arith)

-- a leaf
module _ (W : World) (s : State) (t : Tables) (n at c : ℕ) where
  leaf_first : first_of (from_spot c (rest_spots_in W s t at (leaf n))) ≡ further (at * 2 ^ 64) (first_of (from_spot (c - at * 2 ^ 64) (spots_in W s t (read_in n) (environment_of n))))
  unfolding rest_spots
  leaf_first =
      found_moved c (at * 2 ^ 64) (λ (g : Rest). g) (spots_of W s (written_records t.records) (digits_in t) n)
      ∙ ap (λ (j : ℕ). further (at * 2 ^ 64) (first_of (from_spot (c - at * 2 ^ 64) (spots_of W s (written_records t.records) (digits_in t) j)))) (sym (reading_whole n))

module _ {t : Tables} (n : ℕ) (C : CanLook t (read_in n) (environment_of n)) {done idle : Bool} (ed : done ≡ member (set_at t.sets (512 + read_in n)) (environment_of n))
    (ei : idle ≡ not (member (set_at t.sets (772 + read_in n)) (environment_of n))) where
  module _ {W : World} {s : State} (Q : Surveyed W s t) where
    leaf_final : done ≡ rest_final W s (written_records t.records) (leaf n)
    unfolding rest_final
    leaf_final =
        ed
        ∙ (Q.finals (read_in n) C.inside).each (environment_of n) (environment_small n)
        ∙ ap (λ (j : ℕ). (leaf_of W s (written_records t.records) j).final) (reading_whole n)

    leaf_idle : idle ≡ is_none (rest_transitions W s (written_records t.records) (leaf n))
    unfolding rest_transitions
    leaf_idle =
        ei
        ∙ ap not ((Q.enabled (read_in n) C.inside).each (environment_of n) (environment_small n))
        ∙ twice (is_none (leaf_of W s (written_records t.records) (reading (read_in n) (environment_of n))).transitions)
        ∙ ap (λ (j : ℕ). is_none (leaf_of W s (written_records t.records) j).transitions) (reading_whole n)
      where
        twice : (b : Bool) → not (not b) ≡ b
        twice true = refl
        twice false = refl

  leaf_none : (at place k : ℕ)
      → ((W : World) (s : State) → Surveyed W s t → first_of (from_spot (cursor_at place k - at * 2 ^ 64) (spots_in W s t (read_in n) (environment_of n))) ≡ None)
      → FindsLeaf t n at place k (Err (record { done = done; idle = idle }))
  leaf_none at place k h W s Q = record {
    first = leaf_first W s t n at (cursor_at place k) ∙ ap (further (at * 2 ^ 64)) (h W s Q);
    final = leaf_final Q;
    idle = leaf_idle Q;
  }

  -- before the cursor's place there is none
  pub leaf_before : (at place k : ℕ) → at < place → FindsLeaf t n at place k (Err (record { done = done; idle = idle }))
  leaf_before at place k l = leaf_none at place k (λ W s Q. ap first_of (found_none (cursor_at place k - at * 2 ^ 64) (below Q) (omega arith)))
    where
      few : 16 ^ digits_in t (read_in n) ≤ 16 ^ 16
      few = pow-le-pow_right (omega arith) C.low

      below : {W : World} {s : State} → Surveyed W s t → Rising 0 (2 ^ 64) (spots_in W s t (read_in n) (environment_of n))
      below Q = rising_wider (omega arith) few (rises Q (read_in n) (environment_of n) (environment_small n))

  -- at it, or behind it, the record's
  module _ (at place k : ℕ) {j : ℕ} (e : j ≡ cursor_at place k - at * 2 ^ 64) where
    leaf_at : {m : ℕ} → FindsRecord t (read_in n) (environment_of n) j (Some m) → FindsLeaf t n at place k (Ok (record { place = at; k = m }))
    leaf_at F W s Q = record {
      first =
          leaf_first W s t n at (cursor_at place k)
          ∙ ap (λ (j : ℕ). further (at * 2 ^ 64) (first_of (from_spot j (spots_in W s t (read_in n) (environment_of n))))) (sym e)
          ∙ ap (further (at * 2 ^ 64)) (F W s Q);
      final = tt;
      idle = tt;
    }

    leaf_passed : FindsRecord t (read_in n) (environment_of n) j None → FindsLeaf t n at place k (Err (record { done = done; idle = idle }))
    leaf_passed F =
        leaf_none at place k (λ W s Q. ap (λ (j : ℕ). first_of (from_spot j (spots_in W s t (read_in n) (environment_of n)))) (sym e) ∙ F W s Q)

    pub leaf_found : (o : Option ℕ) → FindsRecord t (read_in n) (environment_of n) j o
        → FindsLeaf t n at place k (ok_or (option_map (λ (m : ℕ). record { place = at; k = m }) o) (record { done = done; idle = idle }))
    leaf_found None F = leaf_passed F
    leaf_found (Some m) F = leaf_at F

-- a construct
abbrev written : Tables → ℕ → Program
written t = written_records t.records

none_map : {A B : Type 0} (f : A → B) (xs : List A) → is_none (map f xs) ≡ is_none xs
none_map f [] = refl
none_map f (x ∷ xs) = refl

none_append : {A : Type 0} (xs ys : List A) → is_none (xs ++ ys) ≡ (is_none xs && is_none ys)
none_append [] ys = refl
none_append (x ∷ xs) ys = refl

module _ (W : World) (s : State) (t : Tables) (tag : ℕ) (l r : Rest) where
  abbrev right_goes : Bool
  right_goes = goes_right tag (rest_final W s (written t) l) (is_none (rest_transitions W s (written t) l))

  node_none : is_none (rest_transitions W s (written t) (node tag l r)) ≡ (is_none (rest_transitions W s (written t) l) && cond right_goes (is_none (rest_transitions W s (written t) r)) true)
  unfolding rest_transitions
  node_none =
      none_append (map (on_rest (λ (g : Rest). node tag g r)) (rest_transitions W s (written t) l)) (map (on_rest (wrap_right tag l)) (only right_goes (rest_transitions W s (written t) r)))
      ∙ ap₂ ◌&&◌ (none_map (on_rest (λ (g : Rest). node tag g r)) (rest_transitions W s (written t) l)) (second right_goes)
    where
      second : (b : Bool) → is_none (map (on_rest (wrap_right tag l)) (only b (rest_transitions W s (written t) r))) ≡ cond b (is_none (rest_transitions W s (written t) r)) true
      second true = none_map (on_rest (wrap_right tag l)) (rest_transitions W s (written t) r)
      second false = refl

  node_first : (place c : ℕ) → first_of (from_spot c (rest_spots_in W s t place (node tag l r)))
      ≡ option_or (first_of (from_spot c (rest_spots_in W s t (place + 3) l))) (cond right_goes (first_of (from_spot c (rest_spots_in W s t (place + 3 + 3 * nodes l) r))) None)
  unfolding rest_spots
  node_first place c =
      found_append c (map (moved 0 (λ (g : Rest). node tag g r)) L) (map (moved 0 (wrap_right tag l)) (only right_goes R))
      ∙ ap₂ option_or (same (λ (g : Rest). node tag g r) L) (second right_goes)
    where
      L : List Spot
      L = rest_spots_in W s t (place + 3) l

      R : List Spot
      R = rest_spots_in W s t (place + 3 + 3 * nodes l) r

      same : (f : Rest → Rest) (xs : List Spot) → first_of (from_spot c (map (moved 0 f) xs)) ≡ first_of (from_spot c xs)
      same f xs = found_moved c 0 f xs ∙ further_zero _ ∙ ap (λ (n : ℕ). first_of (from_spot n xs)) (sub-zero c)

      second : (b : Bool) → first_of (from_spot c (map (moved 0 (wrap_right tag l)) (only b R))) ≡ cond b (first_of (from_spot c R)) None
      second true = same (wrap_right tag l) R
      second false = refl

-- the left part was searched
module _ {g : Rest} {w : List ℕ} {place tag m : ℕ} (D : Parts g w place tag m) (W : World) (s : State) (t : Tables) (c : ℕ) where
  abbrev goes : Bool
  goes = goes_right tag (rest_final W s (written t) D.l) (is_none (rest_transitions W s (written t) D.l))

  abbrev R : Option ℕ
  R = first_of (from_spot c (rest_spots_in W s t (place + 3 + 3 * m) D.r))

  both_first : {x : Result Cursor Passed} → Points W s t (place + 3) D.l c x → first_of (from_spot c (rest_spots_in W s t place g)) ≡ option_or (pointed x) (cond goes R None)
  both_first X =
      ap (λ (g : Rest). first_of (from_spot c (rest_spots_in W s t place g))) D.is
      ∙ node_first W s t tag D.l D.r place c
      ∙ ap₂ (λ (a : Option ℕ) (n : ℕ). option_or a (cond goes (first_of (from_spot c (rest_spots_in W s t (place + 3 + 3 * n) D.r))) None)) X.first (sym D.left_is)

  -- it has one
  pub left_there : {x : Cursor} → Points W s t (place + 3) D.l c (Ok x) → Points W s t place g c (Ok x)
  left_there X = record { first = both_first X; final = tt; idle = tt }

  -- it has none: whether the right part goes
  module _ {x : Passed} (X : Points W s t (place + 3) D.l c (Err x)) {b : Bool} (eb : b ≡ goes_right tag x.done x.idle) where
    goes_is : goes ≡ b
    goes_is = sym (eb ∙ ap₂ (goes_right tag) X.final X.idle)

    right_first : first_of (from_spot c (rest_spots_in W s t place g)) ≡ cond b R None
    right_first = both_first X ∙ ap (λ (b : Bool). cond b R None) goes_is

    both_final : (x.done && rest_final W s (written t) D.r) ≡ rest_final W s (written t) g
    unfolding rest_final
    both_final = ap (λ (a : Bool). a && rest_final W s (written t) D.r) X.final ∙ ap (rest_final W s (written t)) (sym D.is)

    both_idle : (x.idle && cond b (is_none (rest_transitions W s (written t) D.r)) true) ≡ is_none (rest_transitions W s (written t) g)
    both_idle =
        ap₂ (λ (a b : Bool). a && cond b (is_none (rest_transitions W s (written t) D.r)) true) X.idle (sym goes_is)
        ∙ sym (node_none W s t tag D.l D.r)
        ∙ ap (λ (g : Rest). is_none (rest_transitions W s (written t) g)) (sym D.is)

    pub right_stays : b ≡ false → {d : Bool} → d ≡ (x.done && rest_final W s (written t) D.r) → Points W s t place g c (Err (record { done = d; idle = x.idle }))
    right_stays nb ed = record {
      first = right_first ∙ ap (λ (b : Bool). cond b R None) nb;
      final = ed ∙ both_final;
      idle = sym (and_true x.idle) ∙ ap (λ (b : Bool). x.idle && cond b (is_none (rest_transitions W s (written t) D.r)) true) (sym nb) ∙ both_idle;
    }
      where
        and_true : (a : Bool) → (a && true) ≡ a
        and_true true = refl
        and_true false = refl

    module _ (yb : b ≡ true) where
      pub right_there : {y : Cursor} → Points W s t (place + 3 + 3 * m) D.r c (Ok y) → Points W s t place g c (Ok y)
      right_there Y = record { first = right_first ∙ ap (λ (b : Bool). cond b R None) yb ∙ Y.first; final = tt; idle = tt }

      pub neither_there : {y : Passed} → Points W s t (place + 3 + 3 * m) D.r c (Err y)
          → Points W s t place g c (Err (record { done = x.done && y.done; idle = x.idle && y.idle }))
      neither_there Y = record {
        first = right_first ∙ ap (λ (b : Bool). cond b R None) yb ∙ Y.first;
        final = ap (λ (a : Bool). x.done && a) Y.final ∙ both_final;
        idle = ap (λ (a : Bool). x.idle && a) Y.idle ∙ ap (λ (b : Bool). x.idle && cond b (is_none (rest_transitions W s (written t) D.r)) true) (sym yb) ∙ both_idle;
      }

-- nothing is left
pub gone_points : (W : World) (s : State) (t : Tables) (place c : ℕ) {g : Rest} → g ≡ gone → Points W s t place g c (Err (record { done = true; idle = true }))
unfolding rest_spots rest_final rest_transitions
gone_points W s t place c e =
    subst (λ (g : Rest). Points W s t place g c (Err (record { done = true; idle = true }))) (sym e) (record { first = refl; final = refl; idle = refl })

-- what is asked of the parts, and of a leaf
module _ {t : Tables} {w : List ℕ} {place : ℕ} (K : CanPoint t w place) where
  pub point_stands : Stands w place
  point_stands = record { rest = K.rest; at = K.at }

  -- so it is of whatever stands there
  pub point_inside : (g : Rest) → At g w place → Inside t g
  point_inside g A = subst (Inside t) (at_unique K.rest g w place K.at A) K.inside

  abbrev pub point_look : {j n : ℕ} → K.rest ≡ leaf j → n ≡ j → CanLook t (read_in n) (environment_of n)
  point_look {j} {n} e q = record {
    world = K.world;
    state = K.state;
    surveyed = K.surveyed;
    inside = inside_leaf (subst (Inside t) (e ∙ ap leaf (sym q)) K.inside);
    small = environment_small n;
    low = inside_low (subst (Inside t) (e ∙ ap leaf (sym q)) K.inside);
  }

  module _ {tag m : ℕ} (D : Parts K.rest w place tag m) where
    pub parts_inside : Inside t (node tag D.l D.r)
    parts_inside = subst (Inside t) D.is K.inside

    abbrev pub point_left : CanPoint t w (place + 3)
    point_left = record { world = K.world; state = K.state; surveyed = K.surveyed; rest = D.l; at = D.l_at; inside = inside_left parts_inside }

    abbrev pub point_right : CanPoint t w (place + 3 + 3 * m)
    point_right = record { world = K.world; state = K.state; surveyed = K.surveyed; rest = D.r; at = D.r_at; inside = inside_right parts_inside }

  pub point_end : CanEnd t.sets w place
  point_end = record {
    rest = K.rest;
    at = K.at;
    number = omega (arith, K.inside.number, K.surveyed.prepared.few);
    long = K.surveyed.prepared.long;
  }

-- a leaf's are found of its record
pub leaf_points : {t : Tables} (at place k : ℕ) {n j : ℕ} {z : Result Cursor Passed} → FindsLeaf t n at place k z
    → {W : World} {s : State} → Surveyed W s t → {g : Rest} → g ≡ leaf j → n ≡ j → Points W s t at g (cursor_at place k) z
leaf_points {t} at place k {n} {j} {z} F {W} {s} Q e q = subst (λ (g : Rest). Points W s t at g (cursor_at place k) z) (sym (e ∙ ap leaf (sym q))) (F W s Q)
