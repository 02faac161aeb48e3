-- Why laying out goes down by ways: the transition at k is the record's own, or the one that a way leads to, in the construct of the part. Parts
-- are less high, so there is room for that construct. Assumes nothing.
use mathlib.Core.Path.{◌≡◌, refl, sym, ◌∙◌, ap, ap₂, subst}
use mathlib.Core.Bool.{true, false}
use mathlib.Core.List.Memᴰ
use mathlib.Core.List.{List, Memᴰ}
use mathlib.Core.Logic.{⊎_elim}
use Prim.Native.Nat.{ℕ, suc, ◌+◌, ◌*◌, ◌≤◌, ◌<◌}
use native.Mathlib.Omega.{arith}
use lib.Dec.{T, eqb}
use lib.ListN.{get_or}
use Rattle.std.specs.Prelude.{Some, None}
use Rattle.std.specs.Option.{is_some, IsSome}
use Rattle.records.specs.declared.Program.{Program}
use Rattle.records.specs.Placeholders.{environments, reading}
use Rattle.records.proofs.Placeholders.{read_in_lem}
use Rattle.kinds.specs.Programs.{picks, has_own, tag_a, tag_b}
use Rattle.kinds.proofs.ProgramKinds.{by_kind, record_of}
use Rattle.height.specs.Height.{rise}
use Rattle.height.proofs.Paths.{rise_less}
use Rattle.golog.specs.declared.State.{State}
use Rattle.golog.specs.World.{World}
use Rattle.golog.specs.Written.{span_of, program_read, written_records}
use Rattle.remaining.specs.Rest.{Rest, gone, leaf, nodes, largest}
use Rattle.remaining.specs.Leaves.{RestTransition, on_rest, wrap_a, wrap_b, own_move, sibling_a, rest_transitions}
use Rattle.remaining.proofs.Nodes.{step_nodes}
use Rattle.remaining.proofs.Written.{read_kind, rise_read, written_lower}
use Rattle.words.specs.Words.{At, Room}
use Rattle.words.proofs.Written.{kept_less, kept_trans, kept_put}
use Rattle.words.proofs.Moved.{put_gone}
use Rattle.steps.specs.Laid.{past, LaidOwn, WrappedLaid}
use Rattle.steps.specs.declared.Laid.{Laid}
use Rattle.positions.specs.declared.Way.{Way}
use Rattle.positions.specs.declared.Fork.{Fork}
use Rattle.positions.specs.Spots.{Spot}
use Rattle.positions.specs.Found.{Tables, digits_in, spots_in, Surveyed, Leads, Forked, ForksRecord, CanLook}
use Rattle.positions.specs.Placed.{CanPlace, Placed}
use Rattle.positions.proofs.Listed.{spots_are}
use Rattle.positions.proofs.Parts.{some_member}
use Rattle.positions.proofs.Forking.{none_some, some_is, spots_own}
use Rattle.positions.proofs.Finding.{look_lower, look_on, own_plain}

-- how many values are listed matters only where a value is chosen
read_span : (e : ℕ) (r : Program) {n m : ℕ} → (T (picks r.kind) → n ≡ m) → program_read e n r ≡ program_read e m r
unfolding program_read
read_span e r {n} {m} =
    by_kind (λ (k : ℕ). (T (picks k) → n ≡ m) → program_read e n (record_of k r.a r.b r.c) ≡ program_read e m (record_of k r.a r.b r.c))
    (λ h. refl) (λ h. refl) (λ h. refl) (λ h. refl) (λ h. refl) (λ h. refl) (λ h. refl) (λ h. refl) (λ h. refl) (λ h. refl) (λ h. refl) (λ h. refl)
    (λ h. ap (λ (n : ℕ). program_read e n (record_of 12 r.a r.b r.c)) (h tt)) (λ k h. refl) r.kind

pub is_read : {t : Tables} {i e n : ℕ} {r q : Program} → CanLook t i e → r ≡ t.records i → n ≡ get_or t.spans i 1 → q ≡ program_read e n r →
    q ≡ program_read e (span_of t.records i) (t.records i)
is_read {t} {i} {e} {n} {r} C er en eq =
    eq
    ∙ ap₂ (λ (r : Program) (n : ℕ). program_read e n r) er en
    ∙ read_span e (t.records i) (λ u. C.surveyed.prepared.spans_are i u)

-- what a transition leaves is small
spot_few : {W : World} {s : State} {t : Tables} → Surveyed W s t → (i e k : ℕ) → e < environments → (x : RestTransition) → Memᴰ (k, x) (spots_in W s t i e)
    → nodes x.1 ≤ 1 + 2 * rise t.records i
unfolding rest_transitions nodes largest
spot_few {W} {s} {t} Q i e k small x m =
    let P = written_records t.records in
    let linked = Q.prepared.spread.linked in
    let low = written_lower t.records linked in
    let member = subst (Memᴰ x) (spots_are W s P (digits_in t) low (reading i e)) (Memᴰ.map (λ (y : Spot). y.1) m) in
    let same : rise P (reading i e) ≡ rise t.records i = rise_read t.records linked (reading i e) ∙ ap (rise t.records) (read_in_lem e small i) in
    omega (arith, step_nodes W s P low (leaf (reading i e)) x member)

-- what was laid out, put into a construct
pub wrap_placed : (g : Rest → Rest) (y : RestTransition) {x : RestTransition} {to at at' : ℕ} {z p : Laid} {w w₁ w' : List ℕ} → Placed y at w w₁ z.entry z.size
    → WrappedLaid g at' to w₁ w' z p → at ≡ at' → to ≤ at → x ≡ on_rest g y → Placed x to w w' p.entry p.size
wrap_placed g y {x} {to} {at} {at'} {z} {p} {w} {w₁} {w'} B X ea l q =
    let Y = X.wrapped.wrapped y.1 (subst (At y.1 w₁) ea B.at) (sym B.size_is) in
    subst (λ (x : RestTransition). Placed x to w w' p.entry p.size) (sym q) (record {
      at = Y.0;
      entry_is = X.entry_is ∙ B.entry_is;
      size_is = Y.1;
      kept = kept_trans to to w w₁ w' (kept_less to at w w₁ B.kept l) X.wrapped.kept (omega arith);
    })

module _ {t : Tables} {w : List ℕ} {i e to k : ℕ} (C : CanPlace t w i e to k) where
  less_high : {x : Way} → Leads t i x → rise t.records x.i < rise t.records i
  less_high {x} L = rise_less t.records (suc i) (λ j a l. C.look.surveyed.prepared.spread.linked j a) i x.i (omega arith) L.named

  pub place_falls : {x : Way} → Leads t i x → x.i < i
  place_falls L = (look_lower C.look L).0

  -- what a way leads to can be laid out further on
  can_way : {x : Way} (n : ℕ) → n ≤ 6 → (L : Leads t i x) → (y : RestTransition) → Memᴰ (x.k, y) (spots_in C.look.world C.look.state t x.i x.e)
      → CanPlace t w x.i x.e (to + n) x.k
  can_way n few L y m = record {
    look = look_on C.look L;
    move = y;
    there = m;
    room = record { inside = omega (arith, C.room.inside, less_high L); small = C.room.small };
  }

  -- and there is room for a construct around it
  way_room : {x : Way} {w₁ : List ℕ} {at entry size : ℕ} {y : RestTransition} → Leads t i x → Memᴰ (x.k, y) (spots_in C.look.world C.look.state t x.i x.e)
      → Placed y at w w₁ entry size → Room w₁ to (size + 2)
  way_room {x} L m B =
      let few = spot_few C.look.surveyed x.i x.e x.k L.small _ m in
      record { inside = omega (arith, C.room.inside, B.kept.len, B.size_is, less_high L); small = omega (arith, C.room.small, B.kept.len) }

  module _ {f : Fork} (F : ForksRecord t i e k f) {q : Program} (is : q ≡ program_read e (span_of t.records i) (t.records i)) where
    same_kind : q.kind ≡ (t.records i).kind
    same_kind = ap (λ (r : Program). r.kind) is ∙ read_kind e (span_of t.records i) (t.records i)

    module _ (other : has_own q.kind ≡ false) where
      forked : Forked t i e k f
      forked = F.forked (ap (λ (r : Program). has_own r.kind) F.record_is ∙ sym (ap has_own same_kind) ∙ other)

      -- the one way, where it goes
      module _ {y : Way} (goes : f.first ≡ Some y) where
        pub first_leads : Leads t i y
        first_leads = forked.first y goes

        first_there : {W : World} {s : State} → Surveyed W s t → (x : RestTransition) → Memᴰ (k, x) (spots_in W s t i e)
            → (z : RestTransition) × Memᴰ (y.k, z) (spots_in W s t y.i y.e) × (x ≡ on_rest (wrap_a (tag_a q.kind) (sibling_a q (reading i e))) z)
        first_there {W} {s} Q x m =
            ⊎_elim (λ (u, g, z, l, same).
            subst
            (λ (u : Way). (z : RestTransition) × Memᴰ (u.k, z) (spots_in W s t u.i u.e) × (x ≡ on_rest (wrap_a (tag_a q.kind) (sibling_a q (reading i e))) z))
            (some_is (sym g ∙ goes))
            (z, l, same ∙ ap (λ (q : Program). on_rest (wrap_a (tag_a q.kind) (sibling_a q (reading i e))) z) (sym is)))
            (λ z. absurd (none_some (sym z.0 ∙ goes))) ((forked.forks W s Q).laid x m)

        pub can_first : (n : ℕ) → n ≤ 3 → CanPlace t w y.i y.e (to + n) y.k
        can_first n few = let z = first_there C.look.surveyed C.move C.there in can_way n (omega arith) first_leads z.0 z.1

        -- what a call with it answers
        module _ {w₁ : List ℕ} {at entry size : ℕ} (B : (W : World) (s : State) → Surveyed W s t → (v : RestTransition)
            → Memᴰ (y.k, v) (spots_in W s t y.i y.e) → Placed v at w w₁ entry size) where
          pub first_room : Room w₁ to (size + 2)
          first_room = let z = first_there C.look.surveyed C.move C.there in way_room first_leads z.1 (B _ _ C.look.surveyed z.0 z.1)

        -- the same, where the answer is one value
        module _ {w₁ : List ℕ} {at : ℕ} (z : Laid) (B : (W : World) (s : State) → Surveyed W s t → (v : RestTransition)
            → Memᴰ (y.k, v) (spots_in W s t y.i y.e) → Placed v at w w₁ z.entry z.size) where
          pub first_laid : {w' : List ℕ} {n tag j : ℕ} {p : Laid} → tag ≡ tag_a q.kind → n ≡ past (eqb tag 0) 3 → at ≡ to + n → j ≡ reading i e
              → WrappedLaid (wrap_a (tag_a q.kind) (sibling_a q j)) (to + past (eqb (tag_a q.kind) 0) 3) to w₁ w' z p
              → (W : World) (s : State) → Surveyed W s t → (x : RestTransition) → Memᴰ (k, x) (spots_in W s t i e) → Placed x to w w' p.entry p.size
          first_laid et en ea ej X W s Q x m =
              let u = first_there Q x m in
              wrap_placed _ u.0 (B W s Q u.0 u.1) X (ea ∙ ap (λ (n : ℕ). to + n) (en ∙ ap (λ (g : ℕ). past (eqb g 0) 3) et)) (omega arith)
              (u.2 ∙ ap (λ (m : ℕ). on_rest (wrap_a (tag_a q.kind) (sibling_a q m)) u.0) (sym ej))

      -- the other, where it does not
      module _ (stays : f.first ≡ None) where
        second_there : {W : World} {s : State} → Surveyed W s t → (x : RestTransition) → Memᴰ (k, x) (spots_in W s t i e)
            → (y : Way) × (f.second ≡ Some y) × (z : RestTransition) × Memᴰ (y.k, z) (spots_in W s t y.i y.e) × (x ≡ on_rest (wrap_b (tag_b q.kind) q.a) z)
        second_there {W} {s} Q x m =
            ⊎_elim (λ z. absurd (none_some (sym stays ∙ z.1)))
            (λ (g, y, h, z, l, same). (y, h, z, l, same ∙ ap (λ (q : Program). on_rest (wrap_b (tag_b q.kind) q.a) z) (sym is))) ((forked.forks W s Q).laid x m)

        pub second_goes : IsSome f.second
        second_goes = let z = second_there C.look.surveyed C.move C.there in ap is_some z.1

        module _ {y : Way} (goes : f.second ≡ Some y) where
          pub second_leads : Leads t i y
          second_leads = forked.second y goes

          second_at : {W : World} {s : State} → Surveyed W s t → (x : RestTransition) → Memᴰ (k, x) (spots_in W s t i e)
              → (z : RestTransition) × Memᴰ (y.k, z) (spots_in W s t y.i y.e) × (x ≡ on_rest (wrap_b (tag_b q.kind) q.a) z)
          second_at {W} {s} Q x m =
              let z = second_there Q x m in
              subst (λ (u : Way). (z : RestTransition) × Memᴰ (u.k, z) (spots_in W s t u.i u.e) × (x ≡ on_rest (wrap_b (tag_b q.kind) q.a) z)) (some_is (sym z.1 ∙ goes)) (z.2, z.3, z.4)

          pub can_second : (n : ℕ) → n ≤ 6 → CanPlace t w y.i y.e (to + n) y.k
          can_second n few = let z = second_at C.look.surveyed C.move C.there in can_way n few second_leads z.0 z.1

          module _ {w₁ : List ℕ} {at entry size : ℕ} (B : (W : World) (s : State) → Surveyed W s t → (v : RestTransition)
              → Memᴰ (y.k, v) (spots_in W s t y.i y.e) → Placed v at w w₁ entry size) where
            pub second_room : Room w₁ to (size + 2)
            second_room = let z = second_at C.look.surveyed C.move C.there in way_room second_leads z.1 (B _ _ C.look.surveyed z.0 z.1)

          module _ {w₁ : List ℕ} {at : ℕ} (z : Laid) (B : (W : World) (s : State) → Surveyed W s t → (v : RestTransition)
              → Memᴰ (y.k, v) (spots_in W s t y.i y.e) → Placed v at w w₁ z.entry z.size) where
            pub second_laid : {w' : List ℕ} {n tag : ℕ} {p : Laid} → tag ≡ tag_b q.kind → n ≡ past (eqb tag 0) 6 → at ≡ to + n
                → WrappedLaid (wrap_b (tag_b q.kind) q.a) (to + past (eqb (tag_b q.kind) 0) 6) to w₁ w' z p
                → (W : World) (s : State) → Surveyed W s t → (x : RestTransition) → Memᴰ (k, x) (spots_in W s t i e) → Placed x to w w' p.entry p.size
            second_laid et en ea X W s Q x m =
                let u = second_at Q x m in
                wrap_placed _ u.0 (B W s Q u.0 u.1) X (ea ∙ ap (λ (n : ℕ). to + n) (en ∙ ap (λ (g : ℕ). past (eqb g 0) 6) et)) (omega arith) u.2

    -- its own
    pub own_laid : has_own q.kind ≡ true → {w' : List ℕ} {y : Laid} → LaidOwn q to w w' y
        → (W : World) (s : State) → Surveyed W s t → (x : RestTransition) → Memᴰ (k, x) (spots_in W s t i e) → Placed x to w w' y.entry y.size
    unfolding nodes
    own_laid own {w'} {y} X W s Q x m =
        let o : has_own (t.records i).kind ≡ true = sym (ap has_own same_kind) ∙ own in
        let alone = spots_own Q i e C.look.small o (own_plain (t.records i).kind o) (some_member (spots_in W s t i e) m) in
        let only_one : ◌≡◌ {A = Spot} (k, x) (0, (own_move (program_read e (span_of t.records i) (t.records i)), gone)) = Memᴰ.eq_of_singleton (subst (Memᴰ (k, x)) alone m) in
        let same : x ≡ (own_move q, gone) = ap (λ (z : Spot). z.1) only_one ∙ ap (λ (r : Program). (own_move r, gone)) (sym is) in
        subst (λ (x : RestTransition). Placed x to w w' y.entry y.size) (sym same) (record {
          at = put_gone to w w' X.put (omega (arith, C.room.inside));
          entry_is = X.entry_is;
          size_is = X.size_is;
          kept = kept_put to to 0 0 1 w w' X.put (omega arith);
        })
