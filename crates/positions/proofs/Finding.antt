-- Why a search goes down by ways: the first transition that a way leads to is its record's own, or what the record's two ways lead to, further
-- on; the record number falls, and positions stay below 2 ^ 64. Assumes nothing.
use mathlib.Core.Path.{◌≡◌, refl, sym, ◌∙◌, ap, ap₂, subst}
use mathlib.Core.Bool.{Bool, true, false, false≢true}
use mathlib.Core.List.{List, [], ◌∷◌, Memᴰ}
use Rattle.std.specs.Bool.{then_some}
use Rattle.std.specs.Prelude.{Option, Some, None}
use Rattle.std.specs.Option.{option_or, ForSome}
use Prim.Native.Nat.{ℕ, zero, suc, ◌+◌, ◌^◌, ◌≤◌, ◌<◌}
use native.Mathlib.Nat.{pow-le-pow_right, add-zero, zero-add}
use native.Mathlib.Omega.{arith}
use borrow.Author.Tests.{lt-ltb, not-false, not-true}
use lib.Dec.{T, eqb, eqb-suc-zero}
use lib.ListN.{get_or}
use Rattle.records.specs.declared.Program.{Program}
use Rattle.records.specs.Placeholders.{environments, put}
use Rattle.kinds.proofs.ProgramKinds.{by_kind}
use Rattle.kinds.specs.Programs.{field_a, picks, links, has_own}
use Rattle.kinds.proofs.ProgramFields.{link_a, link_b}
use Rattle.sets.specs.Sets.{member, set_at}
use Rattle.golog.specs.declared.State.{State}
use Rattle.golog.specs.World.{World}
use Rattle.golog.specs.Written.{span_of}
use Rattle.remaining.specs.Leaves.{RestTransition}
use Rattle.remaining.proofs.Written.{picks_b}
use Rattle.positions.specs.declared.Way.{Way}
use Rattle.positions.specs.declared.Fork.{Fork}
use Rattle.positions.specs.Spots.{Spot, from_spot}
use Rattle.positions.specs.Found.{first_of, further, Tables, digits_in, spots_in, Surveyed, way_first, Leads, Forks, Forked, CanFork, ForksParts, ForksValues, CanLook, CanGo}
use Rattle.positions.proofs.Levels.{digits_linked}
use Rattle.positions.proofs.From.{found_below}
use Rattle.positions.proofs.Parts.{empty}
use Rattle.positions.proofs.Forking.{enabled_is, rises, spots_own, parts_fork, parts_first, parts_second}
use Rattle.positions.proofs.Choosing.{values_fork}

module _ {t : Tables} {i e : ℕ} (C : CanLook t i e) where
  -- a record that it names is inside
  link_inside : (a : ℕ) → Memᴰ a (links (t.records i)) → (a < i) × (a < t.many)
  link_inside a k = let l = C.surveyed.prepared.spread.linked i a k in (l, omega (arith, C.inside))

  pub can_fork : {r : Program} {d : ℕ} → r ≡ t.records i → d ≡ digits_in t i → CanFork r d e t.sets
  can_fork {r} {d} q z =
      let S = C.surveyed.prepared in
      subst (λ (r : Program). CanFork r d e t.sets) (sym q) (record {
        long = S.long;
        a = λ u. omega (arith, (link_inside (t.records i).a (link_a (t.records i) u)).1, S.few);
        c = λ u. S.conditions i u;
        small = C.small;
        low = omega (arith, C.low);
      })

  pub span_is : {r : Program} → r ≡ t.records i → picks r.kind ≡ true → get_or t.spans i 1 ≡ span_of t.records i
  span_is {r} q z = C.surveyed.prepared.spans_are i (subst T (sym (sym (ap (λ (r : Program). picks r.kind) q) ∙ z)) tt)

  pub can_choose : {r : Program} {n : ℕ} → r ≡ t.records i → picks r.kind ≡ true → n ≡ span_of t.records i → (n ≤ 16) × (r.b < 260)
  can_choose {r} {n} q z m =
      let S = C.surveyed.prepared in
      let u : T (picks (t.records i).kind) = subst T (sym (sym (ap (λ (r : Program). picks r.kind) q) ∙ z)) tt in (
        omega (arith, S.spread.few i u),
        subst (λ (r : Program). r.b < 260) (sym q) (omega (arith, (link_inside (t.records i).b (link_b (t.records i) (picks_b (t.records i).kind u))).1, S.few)),
      )

  pub forked_parts : {k : ℕ} {r : Program} {d : ℕ} {f : Fork} → r ≡ t.records i → d ≡ digits_in t i → picks r.kind ≡ false → has_own r.kind ≡ false
      → ForksParts r t.running d e k t.sets f → Forked t i e k f
  forked_parts {k} {r} {d} {f} q z = subst (λ (r : Program). picks r.kind ≡ false → has_own r.kind ≡ false → ForksParts r t.running d e k t.sets f → Forked t i e k f) (sym q)
      (subst
      (λ (d : ℕ). picks (t.records i).kind ≡ false → has_own (t.records i).kind ≡ false → ForksParts (t.records i) t.running d e k t.sets f → Forked t i e k f)
      (sym z) made)
    where
      made : picks (t.records i).kind ≡ false → has_own (t.records i).kind ≡ false → ForksParts (t.records i) t.running (digits_in t i) e k t.sets f → Forked t i e k f
      made plain other F =
          subst (Forked t i e k) (sym F.is) (record {
            first = parts_first C.surveyed i e C.small C.inside plain other F.holds F.condition k;
            second = parts_second C.surveyed i e C.small C.inside plain other F.holds F.condition k;
            forks = λ W s Q. parts_fork Q i e C.small C.inside plain other F.holds F.condition k;
          })

  pub forked_values : {k : ℕ} {r : Program} {n d : ℕ} {f : Fork} → r ≡ t.records i → d ≡ digits_in t i → n ≡ span_of t.records i → picks r.kind ≡ true
      → ForksValues r n d e k (λ (u : ℕ). member (set_at t.sets (772 + r.b)) (put e r.c u)) f → Forked t i e k f
  forked_values {k} {r} {n} {d} {f} q z m picked F =
      let G : ForksValues (t.records i) (span_of t.records i) (digits_in t i) e k (λ (u : ℕ). member (set_at t.sets (772 + (t.records i).b)) (put e (t.records i).c u)) f
      = subst (λ (r : Program). ForksValues r (span_of t.records i) (digits_in t i) e k (λ (u : ℕ). member (set_at t.sets (772 + r.b)) (put e r.c u)) f) q
      (subst (λ (d : ℕ). ForksValues r (span_of t.records i) d e k (λ (u : ℕ). member (set_at t.sets (772 + r.b)) (put e r.c u)) f) z
      (subst (λ (n : ℕ). ForksValues r n d e k (λ (u : ℕ). member (set_at t.sets (772 + r.b)) (put e r.c u)) f) m F)) in
      let p : picks (t.records i).kind ≡ true = sym (ap (λ (r : Program). picks r.kind) q) ∙ picked in
      record {
        first = (values_fork C.surveyed i e C.small C.inside p k f G).1;
        second = (values_fork C.surveyed i e C.small C.inside p k f G).2;
        forks = λ W s Q. (values_fork Q i e C.small C.inside p k f G).0;
      }

pub parts_record : {r : Program} {running : Bool} {d e k : ℕ} {sets : List ℕ} {f : Fork} → ForksParts r running d e k sets f → f.r ≡ r
parts_record F = ap (λ (f : Fork). f.r) F.is

-- what falls along ways: a way that does not go is the least
unfoldable pub rank : Option Way → ℕ
rank None = 0
rank (Some w) = suc w.i

pub rank_falls : (i : ℕ) (x : Option Way) → ForSome x (λ (y : Way). y.i < i) → rank x < suc i
unfolding rank
rank_falls i None h = omega arith
rank_falls i (Some y) h = omega (arith, h y refl)

pub rank_is : {x : Option Way} {w : Way} → x ≡ Some w → rank x ≡ suc w.i
unfolding rank
rank_is q = ap rank q

-- where a way leads on
pub look_lower : {t : Tables} {i e : ℕ} → CanLook t i e → {x : Way} → Leads t i x → (x.i < i) × (digits_in t x.i ≤ digits_in t i)
look_lower {t} {i} C {x} L =
    let S = C.surveyed.prepared in
    (S.spread.linked i x.i L.named, digits_linked t.records S.endable (digits_in t) S.spread i x.i L.named)

abbrev pub look_on : {t : Tables} {i e : ℕ} → CanLook t i e → {x : Way} → Leads t i x → CanLook t x.i x.e
look_on C L = record {
  world = C.world;
  state = C.state;
  surveyed = C.surveyed;
  inside = omega (arith, (look_lower C L).0, C.inside);
  small = L.small;
  low = omega (arith, (look_lower C L).1, C.low);
}

module _ {t : Tables} {w : Way} (C : CanGo t w) where
  pub way_falls : {x : Way} → Leads t w.i x → x.i < w.i
  way_falls L = (look_lower C.look L).0

  pub way_can : {x : Way} → Leads t w.i x → CanGo t x
  way_can {x} L =
      let low = C.look.low in
      let few : 16 ^ digits_in t w.i ≤ 16 ^ 16 = pow-le-pow_right (omega arith) low in
      record { look = look_on C.look L; bounded = omega (arith, L.bounded) }

  -- what it finds fits
  pub way_fits : {n : ℕ} → first_of (from_spot w.k (spots_in C.look.world C.look.state t w.i w.e)) ≡ Some n → w.base + n < 2 ^ 64
  way_fits q = let b = found_below w.k (rises C.look.surveyed w.i w.e C.look.small) q in omega (arith, b.1, C.bounded)

-- a record with a transition of its own chooses no value
pub own_plain : (kind : ℕ) → has_own kind ≡ true → picks kind ≡ false
unfolding field_a
own_plain =
    by_kind (λ (k : ℕ). has_own k ≡ true → picks k ≡ false)
    (λ e. refl) (λ e. refl) (λ e. refl) (λ e. refl) (λ e. refl) (λ e. refl) (λ e. refl) (λ e. refl) (λ e. refl) (λ e. refl) (λ e. refl) (λ e. refl)
    (λ e. absurd (false≢true e)) (λ k e. absurd (false≢true e))

-- the first of one alone, at position 0
own_first : (x : RestTransition) (base k : ℕ) → further base (first_of (from_spot k ((0, x) ∷ []))) ≡ then_some (eqb k 0) base
own_first x base zero = ap Some (add-zero base)
own_first x base (suc k) = rw (lt-ltb 0 (suc k) (omega arith), eqb-suc-zero k)

module _ {W : World} {s : State} {t : Tables} (Q : Surveyed W s t) {x : Option Way} {w : Way} (is : x ≡ Some w) where
  on : {o : Option ℕ} → first_of (from_spot w.k (spots_in W s t w.i w.e)) ≡ o → way_first W s t x ≡ further w.base o
  on q = ap (way_first W s t) is ∙ ap (further w.base) q

  -- at a record without a transition
  pub finds_idle : w.i < t.many → w.e < environments → member (set_at t.sets (772 + w.i)) w.e ≡ false → way_first W s t x ≡ None
  finds_idle l h q =
      on (ap (λ (l : List Spot). first_of (from_spot w.k l)) (empty (spots_in W s t w.i w.e) (not-false _ (sym (enabled_is Q w.i w.e l h) ∙ q))))

  -- at its own
  pub finds_own :
      w.i < t.many → w.e < environments → member (set_at t.sets (772 + w.i)) w.e ≡ true → has_own (t.records w.i).kind ≡ true
      → way_first W s t x ≡ then_some (eqb w.k 0) w.base
  finds_own l h q own =
      on (ap (λ (l : List Spot). first_of (from_spot w.k l))
      (spots_own Q w.i w.e h own (own_plain (t.records w.i).kind own) (not-true _ (sym (enabled_is Q w.i w.e l h) ∙ q))))
      ∙ own_first _ w.base w.k

  -- by the one way, by the other, or by none
  module _ {f : Fork} (F : Forks W s t w.i w.e w.k f) where
    pub by_first : {n : ℕ} → way_first W s t f.first ≡ Some n → first_of (from_spot w.k (spots_in W s t w.i w.e)) ≡ Some n
    by_first q = F.found ∙ ap (λ (o : Option ℕ). option_or o (way_first W s t f.second)) q

    pub by_second : {o : Option ℕ} → way_first W s t f.first ≡ None → way_first W s t f.second ≡ o → first_of (from_spot w.k (spots_in W s t w.i w.e)) ≡ o
    by_second q p = F.found ∙ ap₂ option_or q p

-- a way to a record itself
pub can_start : {t : Tables} {i e : ℕ} → CanLook t i e → (k : ℕ) → CanGo t (record { i = i; e = e; k = k; base = 0 })
can_start {t} {i} C k = let l = C.low in record { look = C; bounded = let few : 16 ^ digits_in t i ≤ 16 ^ 16 = pow-le-pow_right (omega arith) l in omega arith }

pub further_none : (o : Option ℕ) → o ≡ further 0 o
further_none None = refl
further_none (Some n) = ap Some (sym (zero-add n))
