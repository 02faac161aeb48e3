-- The ways of a record that chooses a value: with the value at k, then with the next that has a transition. Assumes nothing.
use mathlib.Core.Path.{◌≡◌, refl, sym, ◌∙◌, ap, ap₂, subst}
use mathlib.Core.Bool.{Bool, true, false, not, cond}
use mathlib.Core.List.Memᴰ
use mathlib.Core.List.{List, [], ◌++◌, map, Memᴰ}
use mathlib.Core.Logic.{inl, ⊎_elim}
use Rattle.std.specs.Bool.{then_some}
use Rattle.std.specs.Prelude.{Option, Some, None}
use Rattle.std.specs.Option.{option_or, option_map, ForSome}
use Prim.Native.Nat.{ℕ, suc, ◌+◌, ◌-◌, ◌*◌, ◌/◌, ◌%◌, ◌^◌, ◌≤◌, ◌<◌, min}
use native.Mathlib.Nat.{pow-succ', pow-le-pow_right, one-le-pow, mul-le-mul_right, zero-mul, sub-zero}
use native.Mathlib.Omega.{arith}
use borrow.Author.Tests.{eqb-true, eqb-false, ltb-true}
use lib.Dec.{T, eqb, ltb}
use Rattle.records.specs.declared.Program.{Program}
use Rattle.records.specs.Placeholders.{environments, put, reading}
use Rattle.records.proofs.Placeholders.{put_small}
use Rattle.kinds.specs.Programs.{picks, links, tag_a}
use Rattle.kinds.proofs.ProgramFields.{link_b}
use Rattle.sets.specs.Sets.{member, set_at}
use Rattle.golog.specs.declared.State.{State}
use Rattle.golog.specs.World.{World}
use Rattle.golog.specs.Written.{span_of, program_read}
use Rattle.golog.specs.Transitions.{is_none, lists_from}
use Rattle.remaining.specs.Rest.{Rest}
use Rattle.remaining.specs.Leaves.{RestTransition, on_rest, wrap_a, sibling_a}
use Rattle.remaining.proofs.Written.{picks_b, read_kind}
use Rattle.positions.specs.declared.Way.{Way}
use Rattle.positions.specs.declared.Fork.{Fork}
use Rattle.positions.specs.Spots.{Spot, moved, apart, spots_picked, from_spot}
use Rattle.positions.specs.Rising.{Rising, Spread}
use Rattle.positions.specs.Found.{first_of, further, Tables, digits_in, spots_in, Surveyed, way_first, Leads, Forks, NextValue, value_way, ForksValues}
use Rattle.positions.proofs.Rising.{digits_kind}
use Rattle.positions.proofs.Levels.{digits_linked}
use Rattle.positions.proofs.From.{found_moved, found_append}
use Rattle.positions.proofs.Parts.{of_moved}
use Rattle.positions.proofs.Values.{next_multiple, first_with, values_found, values_laid}
use Rattle.positions.proofs.Forking.{none_some, some_is, of_there, enabled_is, rises, spots_chosen}

module _ {W : World} {s : State} {t : Tables} (Q : Surveyed W s t) (i e : ℕ) (small : e < environments) (inside : i < t.many)
    (picked : picks (t.records i).kind ≡ true) where
  abbrev r : Program
  r = t.records i

  abbrev n : ℕ
  n = span_of t.records i

  abbrev d : ℕ
  d = digits_in t i

  abbrev db : ℕ
  db = digits_in t (t.records i).b

  abbrev F : ℕ → List Spot
  F u = spots_in W s t (t.records i).b (put e (t.records i).c u)

  abbrev S : Spread t.records Q.prepared.endable (digits_in t)
  S = Q.prepared.spread

  twelve : (t.records i).kind ≡ 12
  twelve = eqb-true (t.records i).kind 12 picked

  is_pick : T (picks (t.records i).kind)
  is_pick = subst T (sym picked) tt

  link : Memᴰ (t.records i).b (links (t.records i))
  link = link_b r (picks_b r.kind is_pick)

  size : digits_in t i ≡ digits_in t (t.records i).b + cond (eqb (span_of t.records i) 1) 0 1
  size = S.each i ∙ digits_kind t.records i n (digits_in t r.a) db (Q.prepared.endable r.a) twelve

  F_rises : (u : ℕ) → Rising 0 (16 ^ digits_in t (t.records i).b) (F u)
  F_rises u = rises Q r.b (put e r.c u) (put_small e small r.c u)

  -- the ways of a value, and of the next
  way_value : (b : Bool) (u k by : ℕ) → way_first W s t (then_some b (value_way (t.records i) e u k by)) ≡ cond b (further (u * by) (first_of (from_spot k (F u)))) None
  way_value true u k by = refl
  way_value false u k by = refl

  way_next : (by : ℕ) (w : Option ℕ) → way_first W s t (option_map (λ (w : ℕ). value_way (t.records i) e w 0 by) w) ≡ first_with by F w
  way_next by None = refl
  way_next by (Some w) = refl

  leads_value : (u k by : ℕ) → u * by + 16 ^ digits_in t (t.records i).b ≤ 16 ^ digits_in t i → Leads t i (value_way (t.records i) e u k by)
  leads_value u k by room = record { named = link; small = put_small e small r.c u; bounded = room }

  leads_next : (enabled : ℕ → Bool) (v by : ℕ) {x : Option Way} (w : Option ℕ) → NextValue enabled v (span_of t.records i) w
      → ((u : ℕ) → u < span_of t.records i → u * by + 16 ^ digits_in t (t.records i).b ≤ 16 ^ digits_in t i)
      → x ≡ option_map (λ (w : ℕ). value_way (t.records i) e w 0 by) w → ForSome x (Leads t i)
  leads_next enabled v by None N room q w g = absurd (none_some (sym q ∙ g))
  leads_next enabled v by (Some u) N room q w g = subst (Leads t i) (some_is (sym q ∙ g)) (leads_value u 0 by (room u N.1))

  -- it stands alone: a choice adds no construct
  bare_a : (x y : RestTransition) → x ≡ y
      → x ≡ on_rest (wrap_a (tag_a (program_read e (span_of t.records i) (t.records i)).kind) (sibling_a (program_read e (span_of t.records i) (t.records i)) (reading i e))) y
  unfolding tag_a
  bare_a x y q = q ∙ sym (ap (λ (k : ℕ). on_rest (wrap_a (tag_a k) (sibling_a (program_read e n r) (reading i e))) y) (read_kind e n r ∙ twelve))

  module _ (k : ℕ) (f : Fork)
      (X : ForksValues (t.records i) (span_of t.records i) (digits_in t i) e k (λ (u : ℕ). member (set_at t.sets (772 + (t.records i).b)) (put e (t.records i).c u)) f) where
    abbrev Goal : Type 0
    Goal = Forks W s t i e k f × ForSome f.first (Leads t i) × ForSome f.second (Leads t i)

    -- one value alone
    one_value : eqb (span_of t.records i) 1 ≡ true → Goal
    unfolding spots_picked lists_from
    one_value q =
        let alone : n ≡ 1 = eqb-true n 1 q in
        let L = X.alone alone in
        let G0 : List Spot = map (moved (0 * apart d) (λ (g : Rest). g)) (F 0) in
        let zero-on : 0 * apart d ≡ 0 = zero-mul (apart d) in
        let shape : spots_in W s t i e ≡ G0 ++ [] = spots_chosen Q i e small picked ∙ ap (λ (m : ℕ). spots_picked d m F) alone in
        let no_second : way_first W s t f.second ≡ None = ap (way_first W s t) L.1 in
        let here : first_of (from_spot k G0) ≡ way_first W s t f.first
        = found_moved k (0 * apart d) (λ (g : Rest). g) (F 0)
        ∙ ap (λ (m : ℕ). further m (first_of (from_spot (k - m) (F 0)))) zero-on
        ∙ ap (λ (m : ℕ). further 0 (first_of (from_spot m (F 0)))) (sub-zero k)
        ∙ sym (ap (way_first W s t) L.0) in (
          record {
            found = ap (λ (l : List Spot). first_of (from_spot k l)) shape ∙ found_append k G0 [] ∙ ap₂ option_or here (sym no_second);
            laid = λ x m.
                let y = ⊎_elim (λ l. l) (λ z. absurd (Memᴰ.not-nil z)) (Memᴰ.append_cases G0 (subst (Memᴰ (k, x)) shape m)) in
                let z = of_moved (0 * apart d) k (λ (g : Rest). g) (F 0) y in
                let at : k ≡ k - 0 * apart d = omega (arith, zero-on) in
                inl (value_way r e 0 k 1, L.0, z.1, Memᴰ.cast (ap (λ (m : ℕ). (m, z.1)) at) z.2, bare_a x z.1 z.3);
          },
          (λ w g. subst (Leads t i) (some_is (sym L.0 ∙ g))
              (leads_value 0 k 1 (omega (arith, pow-le-pow_right {n = 16} (omega arith) (digits_linked t.records Q.prepared.endable (digits_in t) S i r.b link))))),
          (λ w g. absurd (none_some (sym L.1 ∙ g))),
        )

    -- several, which stand apart
    more_values : eqb (span_of t.records i) 1 ≡ false → Goal
    unfolding spots_picked
    more_values q =
        let Z = X.several (eqb-false n 1 q) in
        let v : ℕ = min (k / apart d) 16 in
        let more : d ≡ suc db = size ∙ ap (λ (b : Bool). db + cond b 0 1) q ∙ omega arith in
        let less : d - 1 ≡ db = omega arith in
        let by-is : apart d ≡ 16 ^ db = ap (λ (m : ℕ). 16 ^ m) less in
        let all : 16 ^ d ≡ 16 * 16 ^ db = ap (λ (m : ℕ). 16 ^ m) more ∙ pow-succ' 16 db in
        let full : 16 * apart d ≡ 16 * 16 ^ db = ap (λ (m : ℕ). 16 * m) by-is in
        let few : n ≤ 16 = S.few i is_pick in
        let up : (u : ℕ) → Rising 0 (apart d) (F u) = λ u. subst (λ (m : ℕ). Rising 0 m (F u)) (sym by-is) (F_rises u) in
        let positive : 0 < apart d = one-le-pow (d - 1) 16 (omega arith) in
        let room : (u : ℕ) → u < n → u * apart d + 16 ^ db ≤ 16 ^ d
        = λ u l. let m : (u + 1) * apart d ≤ 16 * apart d = mul-le-mul_right (apart d) (omega arith) in omega (arith, next_multiple u (apart d)) in
        let are : (u : ℕ) → u < 16 → member (set_at t.sets (772 + r.b)) (put e r.c u) ≡ not (is_none (F u))
        = λ u l. enabled_is Q r.b (put e r.c u) (omega (arith, S.linked i r.b link)) (put_small e small r.c u) in
        let shape = spots_chosen Q i e small picked in (
          record {
            found =
                ap (λ (l : List Spot). first_of (from_spot k l)) shape
                ∙ values_found (apart d) k n F up positive few v refl Z.1 (λ (u : ℕ). member (set_at t.sets (772 + r.b)) (put e r.c u)) are Z.2
                ∙ sym (ap₂ option_or (ap (way_first W s t) Z.0 ∙ way_value (ltb v n) v _ (apart d)) (ap (way_first W s t) Z.3 ∙ way_next (apart d) Z.1));
            laid = λ x m.
                let y = values_laid (apart d) k n F up positive few v refl x (subst (Memᴰ (k, x)) shape m) in
                inl (value_way r e v (k % apart d) (apart d), Z.0 ∙ ap (λ (b : Bool). then_some b (value_way r e v (k % apart d) (apart d))) y.0, x, y.1, bare_a x x refl);
          },
          (λ w g. let h = of_there (ltb v n) (sym Z.0 ∙ g) in subst (Leads t i) h.1 (leads_value v _ (apart d) (room v (ltb-true v n h.0)))),
          leads_next (λ (u : ℕ). member (set_at t.sets (772 + r.b)) (put e r.c u)) (v + 1) (apart d) Z.1 Z.2 room Z.3,
        )

    pub values_fork : Forks W s t i e k f × ForSome f.first (Leads t i) × ForSome f.second (Leads t i)
    values_fork = go (eqb (span_of t.records i) 1) refl
      where
        go : (b : Bool) → eqb (span_of t.records i) 1 ≡ b → Goal
        go true q = one_value q
        go false q = more_values q
