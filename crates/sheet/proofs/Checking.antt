-- The steps of a check in rising order, and what its tests tell. Assumes nothing.
use mathlib.Core.Path.{◌≡◌, refl}
use mathlib.Core.Bool.{Bool, true}
use mathlib.Core.Logic.{◌↔◌}
use Prim.Native.Nat.{ℕ, ◌+◌, ◌≤◌}
use native.Mathlib.Omega.{arith}
use borrow.Author.Tests.{le-leb, eq-eqb, leb-true, eqb-true}
use Rattle.std.proofs.lemmas.Bool.Decides.{nat_tests}
use lib.Dec.{leb, eqb}
use Rattle.records.proofs.Truth.{and_left, and_right}
use Rattle.sheet.specs.Trailer.{limits_ok, WithinLimits, record_bytes, distance_ok}
use Rattle.sheet.specs.Layout.{layout_in, LaidOut}
use Rattle.sheet.specs.declared.Trailer.{Trailer}

pub within : (t : Trailer) → limits_ok t ≡ true → WithinLimits t
unfolding limits_ok
within t h =
    record {
      some_fluent = grind (arith, nat_tests);
      f = grind (arith, nat_tests);
      q = grind (arith, nat_tests);
      e = grind (arith, nat_tests);
      a = grind (arith, nat_tests);
      some_record = grind (arith, nat_tests);
      p = grind (arith, nat_tests);
      d = grind (arith, nat_tests);
    }

pub limits_exactly : (t : Trailer) → (limits_ok t ≡ true) ↔ WithinLimits t
unfolding limits_ok
limits_exactly t = (
  within t,
  λ w.
      simp (
        le-leb 1 _ w.some_fluent,
        le-leb _ 32 w.f,
        le-leb _ 512 w.q,
        le-leb _ 512 w.e,
        le-leb _ 64 w.a,
        le-leb 1 _ w.some_record,
        le-leb _ 256 w.p,
        le-leb _ 64 w.d,
      ),
)

pub lies : (t : Trailer) (room : ℕ) → distance_ok t room ≡ true → (t.distance ≡ record_bytes t) × (t.distance ≤ room)
unfolding distance_ok
lies t room e =
    let a : Bool = eqb t.distance (record_bytes t) in
    let b : Bool = leb t.distance room in
    (eqb-true t.distance (record_bytes t) (and_left a b e), leb-true t.distance room (and_right a b e))

pub placed_exactly : (t : Trailer) (room : ℕ) → (distance_ok t room ≡ true) ↔ ((t.distance ≡ record_bytes t) × (t.distance ≤ room))
unfolding distance_ok
placed_exactly t room = (lies t room, λ (e, l). simp (eq-eqb _ _ e, le-leb _ _ l))

-- where the distance is the sum and there is room for it, the tables fit
pub fits : (t : Trailer) (room : ℕ) → WithinLimits t → t.distance ≡ record_bytes t → t.distance ≤ room → LaidOut (layout_in t room) (room + 18)
unfolding layout_in
fits t room w e l =
    record {
      some_fluent = w.some_fluent;
      f = w.f;
      q = w.q;
      e = w.e;
      a = w.a;
      some_record = w.some_record;
      p = w.p;
      d = w.d;
      at_formulas = refl;
      at_effects = refl;
      at_actions = refl;
      at_programs = refl;
      at_end = refl;
      inside = omega arith;
    }
