-- What a search by cursors rests on: what a transition leaves is of the table too; cursors rise, tell their place and position, and without
-- them the transitions are those of the meaning. Where a cursor is at a transition, from it on there are that one and those from the next
-- cursor on. So cursors that rise by one from each found go through all transitions. Assumes nothing.
use mathlib.Core.Path.{◌≡◌, refl, sym, ◌∙◌, ap}
use mathlib.Core.List.{List, [], ◌∷◌, map, Memᴰ}
use Rattle.std.specs.Prelude.{Some, None, Ok, Err}
use mathlib.Core.Logic.{⊎_elim}
use Prim.Native.Nat.{ℕ, suc, ◌+◌, ◌*◌, ◌^◌, ◌≤◌, ◌<◌}
use native.Mathlib.Omega.{arith}
use Rattle.golog.specs.declared.State.{State}
use Rattle.golog.specs.World.{World}
use Rattle.golog.specs.Written.{written_records}
use Rattle.remaining.specs.Rest.{Rest, nodes}
use Rattle.remaining.specs.Leaves.{RestTransition, rest_transitions}
use Rattle.remaining.proofs.Nodes.{step_number}
use Rattle.remaining.proofs.Written.{written_lower}
use Rattle.positions.specs.Spots.{Spot, from_spot}
use Rattle.positions.specs.Found.{first_of, Tables, digits_in, Surveyed}
use Rattle.positions.proofs.Listed.{rest_spots_are}
use Rattle.positions.proofs.Levels.{step_digits}
use Rattle.positions.proofs.From.{lt_or_ge, from_first, from_next, from_low}
use Rattle.positions.proofs.Parts.{rising_at}
use Rattle.cursors.specs.declared.Cursor.{Cursor}
use Rattle.cursors.specs.declared.Passed.{Passed}
use Rattle.cursors.specs.Going.{cursor_at, rest_spots_in, Inside, steps_from, Points}
use Rattle.cursors.proofs.Laying.{cursor_before, cursor_behind, cursor_same, rest_rises}

-- a cursor tells its place and its position
pub cursor_tells : {p k q j : ℕ} → cursor_at p k ≡ cursor_at q j → k < 2 ^ 64 → j < 2 ^ 64 → (p ≡ q) × (k ≡ j)
cursor_tells {p} {k} {q} {j} e h l = cursor_same (2 ^ 64) p q k j e h l

-- the next one is at the next position, or at the next place
pub cursor_next : (p k : ℕ) → suc (cursor_at p k) ≡ cursor_at p (k + 1)
cursor_next p k = omega arith

pub cursor_full : (p : ℕ) → cursor_at p (2 ^ 64) ≡ cursor_at (p + 1) 0
cursor_full p = omega arith

-- the first of some
split_first : (xs : List Spot) {c : ℕ} → first_of xs ≡ Some c → (x : RestTransition) × (ys : List Spot) × (xs ≡ ((c, x) ∷ ys))
split_first [] {c} e = let z : ◌≡◌ {A = ℕ} 0 1 = cc in absurd (omega arith)
split_first (y ∷ ys) {c} e =
    let at : y.0 ≡ c = cc in
    (y.1, ys, ap (λ (n : ℕ). (n, y.1) ∷ ys) at)

none_first : (xs : List Spot) → first_of xs ≡ None → xs ≡ []
none_first [] e = refl
none_first (y ∷ ys) e = let z : ◌≡◌ {A = ℕ} 0 1 = cc in absurd (omega arith)

module _ {W : World} {s : State} {t : Tables} (Q : Surveyed W s t) where
  -- what a transition leaves is of the table too
  pub inside_step : {g : Rest} → Inside t g → {x : RestTransition} → Memᴰ x (rest_transitions W s (written_records t.records) g) → Inside t x.1
  inside_step {g} H {x} m =
      let S = Q.prepared.spread in
      record {
        number = omega (arith, H.number, step_number W s (written_records t.records) (written_lower t.records S.linked) g x m);
        low = omega (arith, H.low, step_digits t.records Q.prepared.endable (digits_in t) S W s g x m);
      }

  module _ (place : ℕ) {g : Rest} (H : Inside t g) where
    -- cursors are of places where it stands
    pub cursor_inside : {p k : ℕ} {x : RestTransition} → k < 2 ^ 64 → Memᴰ (cursor_at p k, x) (rest_spots_in W s t place g) → (place ≤ p) × (p < place + 3 * nodes g)
    cursor_inside {p} {k} small m =
        let r = rising_at (rest_rises Q place g H) m in (
          ⊎_elim (λ (l : p < place). absurd (less_not r.0 (cursor_before (2 ^ 64) p place k l small))) (λ (l : place ≤ p). l) (lt_or_ge p place),
          ⊎_elim (λ (l : p < place + 3 * nodes g). l) (λ (l : place + 3 * nodes g ≤ p). absurd (less_not (cursor_behind (2 ^ 64) p (place + 3 * nodes g) k l) r.1))
              (lt_or_ge p (place + 3 * nodes g)),
        )
      where
        less_not : {a b : ℕ} → a ≤ b → b < a → ⊥
        less_not u v = omega arith

    -- from the first place on, all
    pub steps_all : steps_from W s t place g (cursor_at place 0) ≡ rest_transitions W s (written_records t.records) g
    steps_all =
        ap (map (λ (x : Spot). x.1)) (from_low (cursor_at place 0) (rest_rises Q place g H) (omega arith))
        ∙ rest_spots_are W s (written_records t.records) (digits_in t) (written_lower t.records Q.prepared.spread.linked) place g

    -- what an answer says: the transition that it points at, and after it those from the next cursor on; or there is none
    module _ {c : ℕ} (r : Cursor) (P : Points W s t place g c (Ok r)) where
      pub spot_found : (x : RestTransition) × Memᴰ (cursor_at r.place r.k, x) (rest_spots_in W s t place g)
          × (from_spot c (rest_spots_in W s t place g) ≡ ((cursor_at r.place r.k, x) ∷ from_spot (suc (cursor_at r.place r.k)) (rest_spots_in W s t place g)))
      spot_found =
          let z = split_first (from_spot c (rest_spots_in W s t place g)) P.first in
          let next = from_next c (rest_rises Q place g H) z.2 in
          (z.0, (from_first c (rest_spots_in W s t place g) z.2).1, z.2 ∙ ap (λ (ys : List Spot). (cursor_at r.place r.k, z.0) ∷ ys) (sym next))

      pub steps_next : steps_from W s t place g c ≡ (spot_found.0 ∷ steps_from W s t place g (suc (cursor_at r.place r.k)))
      steps_next = ap (map (λ (x : Spot). x.1)) spot_found.2

    pub steps_none : {c : ℕ} {p : Passed} → Points W s t place g c (Err p) → steps_from W s t place g c ≡ []
    steps_none {c} P = ap (map (λ (x : Spot). x.1)) (none_first (from_spot c (rest_spots_in W s t place g)) P.first)
