-- The ways of a record: its transitions with their positions, read in an environment, are those of the parts that it uses, or those of its part
-- b with each value; the sets of a state say which of them there are. Assumes nothing.
use mathlib.Core.Path.{◌≡◌, refl, sym, ◌∙◌, ap, ap₂, subst, subst₂, fun_ext}
use mathlib.Core.Bool.{Bool, true, false, not, cond, ◌&&◌, ◌||◌, false≢true}
use mathlib.Core.List.{List, [], ◌∷◌, ◌++◌, map, Memᴰ}
use mathlib.Core.Logic.{◌⊎◌, inl, inr, ⊎_elim}
use Rattle.std.specs.Bool.{then_some}
use Rattle.std.specs.Prelude.{Option, Some, None}
use Rattle.std.specs.Option.{option_or, is_some, ForSome}
use Prim.Native.Nat.{ℕ, suc, ◌+◌, ◌-◌, ◌*◌, ◌^◌, ◌≤◌, ◌<◌, max}
use native.Mathlib.Nat.{pow-succ', pow-le-pow_right, one-le-pow}
use native.Mathlib.Omega.{arith}
use borrow.Author.Tests.{not-true}
use lib.Dec.{T, eqb, ltb}
use Rattle.records.specs.declared.Program.{Program}
use Rattle.records.specs.Placeholders.{environments, put, reading, read_in, put_in}
use Rattle.records.proofs.Placeholders.{read_in_lem}
use Rattle.records.proofs.Truth.{and_left, and_right}
use Rattle.kinds.specs.Programs.{has_a, has_b, has_condition, picks, links, own_of, has_own, uses_a, uses_b, tag_a, tag_b}
use Rattle.kinds.proofs.ProgramKinds.{by_kind, record_of}
use Rattle.kinds.proofs.ProgramFields.{link_a, link_b}
use Rattle.kinds.proofs.Reading.{uses_a_lem, uses_b_lem, uses_a_same, uses_b_same}
use Rattle.kinds.proofs.Constructs.{own_no_first, own_no_second, no_own}
use Rattle.sets.specs.Sets.{member, set_at}
use Rattle.golog.specs.declared.State.{State}
use Rattle.golog.specs.World.{World, holds, possible}
use Rattle.golog.specs.Written.{span_of, program_read, written_records}
use Rattle.golog.specs.Transitions.{is_none}
use Rattle.runs.specs.Guide.{only}
use Rattle.remaining.specs.Rest.{Rest, gone, AllLower}
use Rattle.remaining.specs.Leaves.{RestTransition, on_rest, wrap_a, wrap_b, own_move, sibling_a, leaf_of}
use Rattle.remaining.proofs.Written.{read_kind, read_a, read_b, read_condition, read_pick, read_chosen, written_at, written_lower}
use Rattle.positions.specs.Spots.{digits_by, Spot, moved, apart, spots_with, spots_picked, spots_of, from_spot}
use Rattle.positions.specs.Rising.{Rising, Spread}
use Rattle.positions.specs.Found.{first_of, Tables, digits_in, spots_in, Surveyed, way_first, Leads, Forks, parted, gap_of, fork_parts}
use Rattle.positions.specs.declared.Fork.{Fork}
use Rattle.positions.specs.declared.Way.{Way}
use Rattle.positions.proofs.Listed.{spots_parts, spots_plain, spots_pick, spots_are, none_bare}
use Rattle.positions.proofs.Rising.{rising_wider, spots_rise}
use Rattle.positions.proofs.Levels.{digits_linked}
use Rattle.positions.proofs.Parts.{parts_found, parts_laid}

-- no value is not one, and one is itself
pub none_some : {A : Type 0} {y : A} → None ≡ Some y → ⊥
none_some q = absurd (false≢true (ap is_some q))

pub some_is : {A : Type 0} {x y : A} → Some x ≡ Some y → x ≡ y
some_is q = cc

-- a value that is there, where a test holds
pub of_there : {A : Type 0} {x y : A} (b : Bool) → then_some b x ≡ Some y → (b ≡ true) × (x ≡ y)
of_there true q = (refl, cc)
of_there false q = absurd (none_some q)

-- parts that stand apart do so by something
apart_some : (d : ℕ) → apart d ≡ 0 → ⊥
apart_some d z = omega (arith, one-le-pow (d - 1) 16 (omega arith))

-- where the second part goes and does not stand apart, the first does not
one_goes :
    (fa h running idle : Bool) (d kind : ℕ) → uses_b kind fa h idle ≡ true → gap_of kind (uses_b kind fa h idle) d ≡ 0 → (uses_a kind h running && not idle) ≡ false
unfolding uses_a uses_b
one_goes fa h running idle d =
    by_kind (λ (k : ℕ). uses_b k fa h idle ≡ true → gap_of k (uses_b k fa h idle) d ≡ 0 → (uses_a k h running && not idle) ≡ false)
    (λ u z. absurd (false≢true u)) (λ u z. absurd (false≢true u)) (λ u z. absurd (false≢true u))
    (λ u z. absurd (apart_some d (sym (ap (λ (b : Bool). cond (b && true) (apart d) 0) u) ∙ z)))
    (λ u z. absurd (apart_some d z))
    (λ u z. absurd (false≢true u))
    (λ u z. ap (λ (b : Bool). b && not idle) (not-true h u))
    (λ u z. absurd (false≢true u))
    (λ u z. absurd (apart_some d z))
    (λ u z. ap not u)
    (λ u z. absurd (false≢true u)) (λ u z. absurd (false≢true u)) (λ u z. absurd (false≢true u)) (λ k u z. absurd (false≢true u))

-- where it goes and does, there is a digit more
parted_digits :
    (fa h idle endable : Bool) (span da db kind : ℕ) → (fa ≡ true → endable ≡ true) → uses_b kind fa h idle ≡ true → parted kind ≡ true
    → digits_by (record_of kind 0 0 0) endable span da db ≡ suc (max da db)
unfolding uses_b
parted_digits fa h idle endable span da db kind f =
    by_kind (λ (k : ℕ). uses_b k fa h idle ≡ true → parted k ≡ true → digits_by (record_of k 0 0 0) endable span da db ≡ suc (max da db))
    (λ u z. absurd (false≢true z)) (λ u z. absurd (false≢true z)) (λ u z. absurd (false≢true z))
    (λ u z. ap (λ (b : Bool). max da db + cond b 1 0) (f u) ∙ omega arith)
    (λ u z. omega arith)
    (λ u z. absurd (false≢true z)) (λ u z. absurd (false≢true z)) (λ u z. absurd (false≢true z))
    (λ u z. omega arith)
    (λ u z. absurd (false≢true z)) (λ u z. absurd (false≢true z)) (λ u z. absurd (false≢true z)) (λ u z. absurd (false≢true z))
    (λ k u z. absurd (false≢true u)) kind

module _ {W : World} {s : State} {t : Tables} (Q : Surveyed W s t) where
  abbrev p : ℕ → Program
  p = t.records

  abbrev P : ℕ → Program
  P = written_records t.records

  S : Spread t.records Q.prepared.endable (digits_in t)
  S = Q.prepared.spread

  low : AllLower (written_records t.records)
  low = written_lower t.records S.linked

  -- what the sets say
  pub enabled_is : (i e : ℕ) → i < t.many → e < environments → member (set_at t.sets (772 + i)) e ≡ not (is_none (spots_in W s t i e))
  enabled_is i e l h =
      (Q.enabled i l).each e h ∙ ap not (sym (none_bare (spots_in W s t i e) ∙ ap is_none (spots_are W s (written_records t.records) (digits_in t) low (reading i e))))

  final_is : (i e : ℕ) → i < t.many → e < environments → member (set_at t.sets (512 + i)) e ≡ (leaf_of W s (written_records t.records) (reading i e)).final
  final_is i e l h = (Q.finals i l).each e h

  -- positions rise
  pub rises : (i e : ℕ) → e < environments → Rising 0 (16 ^ digits_in t i) (spots_in W s t i e)
  rises i e small =
      subst (λ (n : ℕ). Rising 0 (16 ^ digits_in t n) (spots_in W s t i e)) (read_in_lem e small i)
      (spots_rise W s t.records Q.prepared.endable (digits_in t) S Q.ends (reading i e))

  module _ (i e : ℕ) (small : e < environments) where
    R : Program
    R = program_read e (span_of t.records i) (t.records i)

    same_kind : R.kind ≡ (t.records i).kind
    unfolding R
    same_kind = read_kind e (span_of t.records i) (t.records i)

    -- of a record that chooses no value
    spots_read :
        picks (t.records i).kind ≡ false
        → spots_in W s t i e
        ≡ spots_with W s R (reading i e) (digits_in t i) (leaf_of W s (written_records t.records) (reading (t.records i).a e)).final
        (spots_in W s t (t.records i).a e) (spots_in W s t (t.records i).b e)
    unfolding R
    spots_read z =
        let j : ℕ = reading i e in
        let n : ℕ = span_of p i in
        let at : P j ≡ R = written_at p i e small in
        let k : picks (P j).kind ≡ false = ap (λ (r : Program). picks r.kind) at ∙ ap picks same_kind ∙ z in
        subst
        (λ (r : Program). spots_in W s t i e ≡ spots_with W s r j (digits_in t (read_in j)) (leaf_of W s P r.a).final (spots_of W s P (digits_in t) r.a) (spots_of W s P (digits_in t) r.b))
        at (spots_plain W s P (digits_in t) low j k)
        ∙ ap (λ (m : ℕ). spots_with W s R j (digits_in t m) (leaf_of W s P R.a).final (spots_of W s P (digits_in t) R.a) (spots_of W s P (digits_in t) R.b)) (read_in_lem e small i)
        ∙ spots_parts W s R j (digits_in t i)
        (λ u. ap (λ (m : ℕ). (leaf_of W s P m).final) (read_a e n (p i) (subst (λ (k : ℕ). T (has_a k)) same_kind u)))
        (λ u. ap (spots_of W s P (digits_in t)) (read_a e n (p i) (subst (λ (k : ℕ). T (has_a k)) same_kind u)))
        (λ u. ap (spots_of W s P (digits_in t)) (read_b e n (p i) (subst (λ (k : ℕ). T (has_b k)) same_kind u)))

    -- of one that does
    pub spots_chosen :
        picks (t.records i).kind ≡ true
        → spots_in W s t i e ≡ spots_picked (digits_in t i) (span_of t.records i) (λ (v : ℕ). spots_in W s t (t.records i).b (put e (t.records i).c v))
    spots_chosen z =
        let j : ℕ = reading i e in
        let n : ℕ = span_of p i in
        let R = program_read e n (p i) in
        let at : P j ≡ R = written_at p i e small in
        let u : T (picks (p i).kind) = subst T (sym z) tt in
        let k : picks (P j).kind ≡ true = ap (λ (r : Program). picks r.kind) at ∙ ap picks (read_kind e n (p i)) ∙ z in
        subst
        (λ (r : Program). spots_in W s t i e ≡ spots_picked (digits_in t (read_in j)) r.a (λ (v : ℕ). spots_of W s P (digits_in t) (put_in r.b r.c v)))
        at (spots_pick W s P (digits_in t) low j k)
        ∙ ap₂ (λ (m a : ℕ). spots_picked (digits_in t m) a (λ (v : ℕ). spots_of W s P (digits_in t) (put_in R.b R.c v))) (read_in_lem e small i) (read_pick e n (p i) u).0
        ∙ ap (spots_picked (digits_in t i) n) (fun_ext (λ v. ap (spots_of W s P (digits_in t)) (read_chosen e n (p i) small u v)))

    -- an act or a test has its own, where it has any
    pub spots_own :
        has_own (t.records i).kind ≡ true → picks (t.records i).kind ≡ false → is_none (spots_in W s t i e) ≡ false
        → spots_in W s t i e ≡ ((0, (own_move (program_read e (span_of t.records i) (t.records i)), gone)) ∷ [])
    unfolding spots_with R
    spots_own o z some_one = go (own_of R.kind (possible W R.a s) (holds W R.a s)) alone
      where
        As : List Spot
        As = spots_in W s t (t.records i).a e

        Bs : List Spot
        Bs = spots_in W s t (t.records i).b e

        own : has_own R.kind ≡ true
        own = ap has_own same_kind ∙ o

        alone : spots_in W s t i e ≡ only (own_of R.kind (possible W R.a s) (holds W R.a s)) ((0, (own_move R, gone)) ∷ []) ++ []
        alone =
            spots_read z
            ∙ ap₂
            (λ (x y : Bool). only (own_of R.kind (possible W R.a s) (holds W R.a s)) ((0, (own_move R, gone)) ∷ [])
            ++ (map (moved 0 (wrap_a (tag_a R.kind) (sibling_a R (reading i e)))) (only x As)
            ++ map (moved (cond (parted R.kind) (apart (digits_in t i)) 0) (wrap_b (tag_b R.kind) R.a)) (only y Bs)))
            (own_no_first R.kind _ _ own) (own_no_second R.kind _ _ _ own)

        go : (b : Bool) → spots_in W s t i e ≡ only b ((0, (own_move R, gone)) ∷ []) ++ [] → spots_in W s t i e ≡ ((0, (own_move R, gone)) ∷ [])
        go true q = q
        go false q = absurd (false≢true (sym some_one ∙ ap is_none q))

    -- of one with neither: those of the parts that it uses
    module _ (inside : i < t.many) (plain : picks (t.records i).kind ≡ false) (other : has_own (t.records i).kind ≡ false) (h : Bool)
        (condition : T (has_condition (t.records i).kind) → h ≡ member (set_at t.sets (t.records i).c) e) where
      abbrev r : Program
      r = t.records i

      abbrev As : List Spot
      As = spots_in W s t (t.records i).a e

      abbrev Bs : List Spot
      Bs = spots_in W s t (t.records i).b e

      abbrev fa : Bool
      fa = (leaf_of W s (written_records t.records) (reading (t.records i).a e)).final

      abbrev ua : Bool
      ua = uses_a r.kind h t.running

      abbrev ub : Bool
      ub = uses_b r.kind fa h (is_none As)

      abbrev fin : Bool
      fin = member (set_at t.sets (512 + (t.records i).a)) e

      abbrev en : Bool
      en = member (set_at t.sets (772 + (t.records i).a)) e

      abbrev FA : Rest → Rest
      FA = wrap_a (tag_a R.kind) (sibling_a R (reading i e))

      abbrev FB : Rest → Rest
      FB = wrap_b (tag_b R.kind) R.a

      a_inside : T (has_a r.kind) → r.a < t.many
      a_inside u = omega (arith, S.linked i r.a (link_a r u))

      en_is : T (has_a r.kind) → en ≡ not (is_none As)
      en_is u = enabled_is r.a e (a_inside u) small

      fin_is : T (has_a r.kind) → fin ≡ fa
      fin_is u = final_is r.a e (a_inside u) small

      goes_same : (ua && en) ≡ (ua && not (is_none As))
      goes_same = go ua refl
        where
          go : (b : Bool) → ua ≡ b → (b && en) ≡ (b && not (is_none As))
          go true q = en_is (uses_a_lem r.kind h t.running (subst T (sym q) tt))
          go false q = refl

      ub_same : uses_b r.kind fin h (not en) ≡ ub
      ub_same = uses_b_same r.kind fin_is (λ u. refl) (λ u. ap not (en_is u) ∙ not_not (is_none As))
        where
          not_not : (b : Bool) → not (not b) ≡ b
          not_not true = refl
          not_not false = refl

      d_is : digits_in t i ≡ digits_by (record_of r.kind 0 0 0) (Q.prepared.endable r.a) (span_of t.records i) (digits_in t r.a) (digits_in t r.b)
      d_is = S.each i

      -- a part that stands apart
      digit_more : ub ≡ true → parted r.kind ≡ true → digits_in t i ≡ suc (max (digits_in t r.a) (digits_in t r.b))
      digit_more u z =
          d_is
          ∙ parted_digits fa h (is_none As) (Q.prepared.endable r.a) (span_of t.records i) (digits_in t r.a) (digits_in t r.b) r.kind (λ f. Q.ends r.a e small f) u z

      grown : {m n : ℕ} → m ≤ n → 16 ^ m ≤ 16 ^ n
      grown l = pow-le-pow_right (omega arith) l

      below : (gap_of r.kind ub (digits_in t i) ≡ 0) ⊎ Rising 0 (gap_of r.kind ub (digits_in t i)) As
      below = go (ub && parted r.kind) refl
        where
          go : (b : Bool) → (ub && parted r.kind) ≡ b → (cond b (apart (digits_in t i)) 0 ≡ 0) ⊎ Rising 0 (cond b (apart (digits_in t i)) 0) As
          go true q =
              let m : ℕ = max (digits_in t r.a) (digits_in t r.b) in
              let e' : digits_in t i - 1 ≡ m = omega (arith, digit_more (and_left ub (parted r.kind) q) (and_right ub (parted r.kind) q)) in
              let z : apart (digits_in t i) ≡ 16 ^ m = ap (λ (n : ℕ). 16 ^ n) e' in
              let g : 16 ^ digits_in t r.a ≤ 16 ^ m = grown (omega arith) in
              inr (rising_wider (omega arith) (omega arith) (rises r.a e small))
          go false q = inl refl

      held : T (has_condition r.kind) → holds W R.c s ≡ h
      unfolding R
      held c =
          let few = Q.prepared.conditions i c in
          ap (λ (q : ℕ). holds W q s) (read_condition e (span_of t.records i) r c) ∙ sym ((Q.truths r.c few).each e small) ∙ sym (condition c)

      shape_of : (own x : Bool) (by : ℕ) (y : Bool) → List Spot
      shape_of own x by y = only own ((0, (own_move R, gone)) ∷ []) ++ (map (moved 0 FA) (only x As) ++ map (moved by FB) (only y Bs))

      shape : spots_in W s t i e ≡ map (moved 0 FA) (only ua As) ++ map (moved (gap_of r.kind ub (digits_in t i)) FB) (only ub Bs)
      unfolding spots_with shape_of
      shape =
          let hw : Bool = holds W R.c s in
          let d : ℕ = digits_in t i in
          spots_read plain
          ∙ ap₂ (λ (own x : Bool). shape_of own x (cond (parted R.kind) (apart d) 0) (uses_b R.kind fa hw (is_none As)))
          (no_own R.kind _ _ (ap has_own same_kind ∙ other))
          (ap₂ (λ (k : ℕ) (b : Bool). uses_a k hw b) same_kind Q.runs ∙ uses_a_same r.kind t.running held)
          ∙ ap₂ (λ (k : ℕ) (y : Bool). shape_of false ua (cond (parted k) (apart d) 0) y) same_kind
          (ap (λ (k : ℕ). uses_b k fa hw (is_none As)) same_kind ∙ uses_b_same r.kind (λ u. refl) held (λ u. refl))
          ∙ ap (λ (l : List Spot). map (moved 0 FA) (only ua As) ++ l) (gap_only ub)
        where
          gap_only : (b : Bool) → map (moved (cond (parted r.kind) (apart (digits_in t i)) 0) FB) (only b Bs) ≡ map (moved (gap_of r.kind b (digits_in t i)) FB) (only b Bs)
          gap_only true = refl
          gap_only false = refl

      -- the ways by what the sets say
      module _ (k : ℕ) where
        abbrev f : Fork
        f = fork_parts (t.records i) h t.running (digits_in t i) e k fin en

        abbrev to_a : Way
        to_a = record { i = r.a; e = e; k = k; base = 0 }

        abbrev to_b : (by : ℕ) → Way
        to_b by = record { i = r.b; e = e; k = k - by; base = by }

        abbrev by_sets : ℕ
        by_sets = gap_of r.kind (uses_b r.kind fin h (not en)) (digits_in t i)

        goes_there : (b : Bool) (w : Way) → cond b (way_first W s t (Some w)) None ≡ way_first W s t (then_some b w)
        goes_there true w = refl
        goes_there false w = refl

        by_ways : (x u : Bool) → Option ℕ
        by_ways x u =
            let by = gap_of r.kind u (digits_in t i) in
            option_or (cond (x && (eqb by 0 || ltb k by)) (way_first W s t (Some to_a)) None) (cond u (way_first W s t (Some (to_b by))) None)

        found : first_of (from_spot k (spots_in W s t i e)) ≡ option_or (way_first W s t f.first) (way_first W s t f.second)
        unfolding by_ways
        found =
            ap (λ (l : List Spot). first_of (from_spot k l)) shape
            ∙ parts_found ua ub (not (is_none As)) (gap_of r.kind ub (digits_in t i)) k FA FB As Bs refl below
            ∙ ap₂ by_ways (sym goes_same) (sym ub_same)
            ∙ ap₂ option_or (goes_there _ to_a) (goes_there _ (to_b by_sets))

        Lies : (x u : Bool) → RestTransition → Type 0
        Lies x u z =
            let by = gap_of r.kind u (digits_in t i) in
            (((x && (eqb by 0 || ltb k by)) ≡ true) × (y : RestTransition) × Memᴰ (k, y) As × (z ≡ on_rest FA y))
            ⊎ (((x && (eqb by 0 || ltb k by)) ≡ false) × (u ≡ true) × (y : RestTransition) × Memᴰ (k - by, y) Bs × (z ≡ on_rest FB y))

        pub parts_fork : Forks W s t i e k (fork_parts (t.records i) h t.running (digits_in t i) e k (member (set_at t.sets (512 + (t.records i).a)) e)
            (member (set_at t.sets (772 + (t.records i).a)) e))
        unfolding R Lies
        parts_fork = record {
          found = found;
          laid = λ x m. ⊎_elim
              (λ (g, y, l, q). inl (to_a, ap (λ (b : Bool). then_some b to_a) g, y, l, q))
              (λ (g, u, y, l, q). inr (ap (λ (b : Bool). then_some b to_a) g, to_b by_sets, ap (λ (b : Bool). then_some b (to_b by_sets)) u, y, l, q))
              (subst₂ (λ (b u : Bool). Lies b u x) (sym goes_same) (sym ub_same)
              (parts_laid ua ub (not (is_none As)) (gap_of r.kind ub (digits_in t i)) k FA FB As Bs refl below
              (one_goes fa h t.running (is_none As) (digits_in t i) r.kind) x (subst (Memᴰ (k, x)) shape m)));
        }

        -- where they lead
        pub parts_first : ForSome f.first (Leads t i)
        parts_first w q =
            let g = of_there _ q in
            let u : ua ≡ true = and_left ua en (and_left (ua && en) _ g.0) in
            let link = link_a r (uses_a_lem r.kind h t.running (subst T (sym u) tt)) in
            subst (Leads t i) g.1 (record { named = link; small = small; bounded = omega (arith, grown (digits_linked t.records Q.prepared.endable (digits_in t) S i r.a link)) })

        pub parts_second : ForSome f.second (Leads t i)
        parts_second w q =
            let g = of_there _ q in
            let u : ub ≡ true = sym ub_same ∙ g.0 in
            let link = link_b r (uses_b_lem r.kind fa h (is_none As) (subst T (sym u) tt)) in
            subst (Leads t i) g.1 (record {
              named = link;
              small = small;
              bounded = subst (λ (b : Bool). gap_of r.kind b (digits_in t i) + 16 ^ digits_in t r.b ≤ 16 ^ digits_in t i) (sym g.0)
                  (room link (parted r.kind) refl u);
            })
          where
            room : Memᴰ r.b (links r) → (b : Bool) → parted r.kind ≡ b → ub ≡ true → cond b (apart (digits_in t i)) 0 + 16 ^ digits_in t r.b ≤ 16 ^ digits_in t i
            room link true z u =
                let m : ℕ = max (digits_in t r.a) (digits_in t r.b) in
                let more = digit_more u z in
                let e' : digits_in t i - 1 ≡ m = omega arith in
                let a : apart (digits_in t i) ≡ 16 ^ m = ap (λ (n : ℕ). 16 ^ n) e' in
                let all : 16 ^ digits_in t i ≡ 16 * 16 ^ m = ap (λ (n : ℕ). 16 ^ n) more ∙ pow-succ' 16 m in
                let g : 16 ^ digits_in t r.b ≤ 16 ^ m = grown (omega arith) in
                omega arith
            room link false z u = omega (arith, grown (digits_linked t.records Q.prepared.endable (digits_in t) S i r.b link))
