-- A record's transitions with their positions are made of those of the records that it names; without their positions they are its
-- transitions in listed order, and so are those of a remaining program. Assumes nothing.
use mathlib.Core.Path.{◌≡◌, refl, sym, ◌∙◌, ap, ap₂, fun_ext}
use mathlib.Core.Bool.{Bool, true, false, cond, ◌||◌}
use mathlib.Core.List.{List, [], ◌∷◌, ◌++◌, map, map-append}
use Prim.Native.Nat.{ℕ, zero, suc, ◌+◌, ◌*◌, ◌^◌, ◌<◌}
use native.Mathlib.Omega.{arith}
use lib.Dec.{T, eqb}
use lib.ListN.{get_or}
use Rattle.records.specs.declared.Program.{Program}
use Rattle.records.specs.Table.{up_to}
use Rattle.records.specs.Placeholders.{read_in, put_in}
use Rattle.records.proofs.Fills.{up_at, entry_is}
use Rattle.kinds.specs.Programs.{has_a, has_b, picks, own_of, uses_a, uses_b, tag_a, tag_b}
use Rattle.kinds.proofs.Reading.{uses_a_lem, uses_b_lem, uses_b_same}
use Rattle.golog.specs.declared.State.{State}
use Rattle.golog.specs.World.{World, holds, possible}
use Rattle.golog.specs.Transitions.{is_none, lists_from}
use Rattle.runs.specs.Guide.{only}
use Rattle.remaining.specs.Rest.{Rest, gone, leaf, node, nodes, AllLower}
use Rattle.remaining.specs.Leaves.{RestTransition, on_rest, wrap_a, wrap_b, Leaf, own_move, sibling_a, leaf_with, pick_leaf, leaf_of, goes_right, wrap_right, rest_final, rest_transitions}
use Rattle.remaining.proofs.Entries.{lower_a, lower_b, leaf_plain, leaf_pick}
use Rattle.positions.specs.Spots.{Spot, moved, apart, spots_with, spots_picked, spots_at, spots_of, rest_spots}

only_used : {A : Type 0} (b : Bool) {xs ys : List A} → (T b → xs ≡ ys) → only b xs ≡ only b ys
only_used true e = e tt
only_used false e = refl

-- a record that chooses no value depends on the parts that its kind has
module _ (W : World) (s : State) (r : Program) (j d : ℕ) where
  pub spots_parts :
      {fa ga : Bool} {As As' Bs Bs' : List Spot}
      → (T (has_a r.kind) → fa ≡ ga) → (T (has_a r.kind) → As ≡ As') → (T (has_b r.kind) → Bs ≡ Bs')
      → spots_with W s r j d fa As Bs ≡ spots_with W s r j d ga As' Bs'
  unfolding spots_with
  spots_parts {fa} {ga} {As} {As'} {Bs} {Bs'} f a b =
      let h : Bool = holds W r.c s in
      let first = only_used (uses_a r.kind h s.running) (λ t. a (uses_a_lem r.kind h s.running t)) in
      let second = only_used (uses_b r.kind fa h (is_none As)) (λ t. b (uses_b_lem r.kind fa h (is_none As) t))
      ∙ ap (λ (u : Bool). only u Bs') (uses_b_same r.kind f (λ t. refl) (λ t. ap is_none (a t))) in
      ap₂
      (λ (x y : List Spot). only (own_of r.kind (possible W r.a s) (holds W r.a s)) ((0, (own_move r, gone)) ∷ [])
      ++ (map (moved 0 (wrap_a (tag_a r.kind) (sibling_a r j))) x
      ++ map (moved (cond (eqb r.kind 3 || eqb r.kind 4 || eqb r.kind 8) (apart d) 0) (wrap_b (tag_b r.kind) r.a)) y))
      first second

-- so they are made of those of the records that it names
module _ (W : World) (s : State) (P : ℕ → Program) (digits : ℕ → ℕ) (low : AllLower P) (j : ℕ) where
  abbrev At : ℕ → List Spot
  At n = get_or (up_to (spots_at W s P digits) j) n []

  at_lower : (n : ℕ) → n < j → At n ≡ spots_of W s P digits n
  unfolding spots_of
  at_lower n l = up_at [] (spots_at W s P digits) j n l

  pub spots_plain :
      picks (P j).kind ≡ false
      → spots_of W s P digits j
      ≡ spots_with W s (P j) j (digits (read_in j)) (leaf_of W s P (P j).a).final (spots_of W s P digits (P j).a) (spots_of W s P digits (P j).b)
  unfolding spots_of
  spots_plain e =
      entry_is [] (spots_at W s P digits) j
      ∙ ap (λ (b : Bool). cond b (spots_picked (digits (read_in j)) (P j).a (λ (v : ℕ). At (put_in (P j).b (P j).c v)))
      (spots_with W s (P j) j (digits (read_in j)) (leaf_of W s P (P j).a).final (At (P j).a) (At (P j).b))) e
      ∙ spots_parts W s (P j) j (digits (read_in j)) (λ t. refl) (λ t. at_lower (P j).a (lower_a P low j t)) (λ t. at_lower (P j).b (lower_b P low j t))

  pub spots_pick :
      picks (P j).kind ≡ true
      → spots_of W s P digits j ≡ spots_picked (digits (read_in j)) (P j).a (λ (v : ℕ). spots_of W s P digits (put_in (P j).b (P j).c v))
  unfolding spots_of
  spots_pick e =
      entry_is [] (spots_at W s P digits) j
      ∙ ap (λ (b : Bool). cond b (spots_picked (digits (read_in j)) (P j).a (λ (v : ℕ). At (put_in (P j).b (P j).c v)))
      (spots_with W s (P j) j (digits (read_in j)) (leaf_of W s P (P j).a).final (At (P j).a) (At (P j).b))) e
      ∙ ap (spots_picked (digits (read_in j)) (P j).a) (fun_ext (λ v. at_lower (put_in (P j).b (P j).c v) (low.picked j v (rw e tt)).0))

-- transitions without their positions
abbrev pub bare : List Spot → List RestTransition
bare xs = map (λ (x : Spot). x.1) xs

pub bare_moved : (by : ℕ) (f : Rest → Rest) (xs : List Spot) → bare (map (moved by f) xs) ≡ map (on_rest f) (bare xs)
bare_moved by f [] = refl
bare_moved by f (x ∷ xs) = ap (λ (l : List RestTransition). on_rest f x.1 ∷ l) (bare_moved by f xs)

bare_same : (by : ℕ) (xs : List Spot) → bare (map (moved by (λ (g : Rest). g)) xs) ≡ bare xs
bare_same by [] = refl
bare_same by (x ∷ xs) = ap (λ (l : List RestTransition). x.1 ∷ l) (bare_same by xs)

bare_only : (b : Bool) (xs : List Spot) → bare (only b xs) ≡ only b (bare xs)
bare_only true xs = refl
bare_only false xs = refl

pub none_bare : (xs : List Spot) → is_none xs ≡ is_none (bare xs)
none_bare [] = refl
none_bare (x ∷ xs) = refl

bare_part : (b : Bool) (by : ℕ) (f : Rest → Rest) (xs : List Spot) {ys : List RestTransition} → (T b → bare xs ≡ ys)
    → bare (map (moved by f) (only b xs)) ≡ map (on_rest f) (only b ys)
bare_part b by f xs e = bare_moved by f (only b xs) ∙ ap (map (on_rest f)) (bare_only b xs ∙ only_used b e)

bare_lists : (size : ℕ) (F : ℕ → List Spot) (G : ℕ → List RestTransition) → ((v : ℕ) → bare (F v) ≡ G v) → (k i : ℕ)
    → bare (lists_from (λ (v : ℕ). map (moved (v * size) (λ (g : Rest). g)) (F v)) i k) ≡ lists_from G i k
unfolding lists_from
bare_lists size F G e zero i = refl
bare_lists size F G e (suc k) i =
    map-append (λ (x : Spot). x.1) (map (moved (i * size) (λ (g : Rest). g)) (F i)) _
    ∙ ap₂ ◌++◌ (bare_same (i * size) (F i) ∙ e i) (bare_lists size F G e k (suc i))

module _ (W : World) (s : State) where
  bare_with :
      (r : Program) (j d : ℕ) (As Bs : List Spot) (A B : Leaf) → (T (has_a r.kind) → bare As ≡ A.transitions) → (T (has_b r.kind) → bare Bs ≡ B.transitions)
      → bare (spots_with W s r j d A.final As Bs) ≡ (leaf_with W s r j A B).transitions
  unfolding spots_with leaf_with
  bare_with r j d As Bs A B a b =
      let h : Bool = holds W r.c s in
      let own : Bool = own_of r.kind (possible W r.a s) (holds W r.a s) in
      let ub : Bool = uses_b r.kind A.final h (is_none As) in
      let same = uses_b_same r.kind (λ t. refl) (λ t. refl) (λ t. none_bare As ∙ ap is_none (a t)) in
      map-append (λ (x : Spot). x.1) (only own ((0, (own_move r, gone)) ∷ [])) _
      ∙ ap₂ ◌++◌ (bare_only own ((0, (own_move r, gone)) ∷ []))
      (map-append (λ (x : Spot). x.1) (map (moved 0 (wrap_a (tag_a r.kind) (sibling_a r j))) (only (uses_a r.kind h s.running) As)) _
      ∙ ap₂ ◌++◌ (bare_part (uses_a r.kind h s.running) 0 (wrap_a (tag_a r.kind) (sibling_a r j)) As (λ t. a (uses_a_lem r.kind h s.running t)))
      (bare_part ub _ (wrap_b (tag_b r.kind) r.a) Bs (λ t. b (uses_b_lem r.kind A.final h (is_none As) t))
      ∙ ap (λ (u : Bool). map (on_rest (wrap_b (tag_b r.kind) r.a)) (only u B.transitions)) same))

  module _ (P : ℕ → Program) (digits : ℕ → ℕ) (low : AllLower P) where
    -- without their positions they are the transitions of a record
    pub spots_are : (j : ℕ) → map (λ (x : Spot). x.1) (spots_of W s P digits j) ≡ (leaf_of W s P j).transitions
    unfolding spots_picked pick_leaf
    spots_are j = go (suc j) j (omega arith)
      where
        Same : ℕ → Type 0
        Same j = bare (spots_of W s P digits j) ≡ (leaf_of W s P j).transitions

        by : (j : ℕ) → ((a : ℕ) → a < j → Same a) → (b : Bool) → picks (P j).kind ≡ b → Same j
        by j h true e =
            ap bare (spots_pick W s P digits low j e)
            ∙ bare_lists (apart (digits (read_in j))) (λ (v : ℕ). spots_of W s P digits (put_in (P j).b (P j).c v))
            (λ (v : ℕ). (leaf_of W s P (put_in (P j).b (P j).c v)).transitions) (λ v. h (put_in (P j).b (P j).c v) (low.picked j v (rw e tt)).0) (P j).a 0
            ∙ ap (λ (x : Leaf). x.transitions) (sym (leaf_pick W s P low j e))
        by j h false e =
            ap bare (spots_plain W s P digits low j e)
            ∙ bare_with (P j) j (digits (read_in j)) (spots_of W s P digits (P j).a) (spots_of W s P digits (P j).b) (leaf_of W s P (P j).a) (leaf_of W s P (P j).b)
            (λ t. h (P j).a (lower_a P low j t)) (λ t. h (P j).b (lower_b P low j t))
            ∙ ap (λ (x : Leaf). x.transitions) (sym (leaf_plain W s P low j e))

        go : (n j : ℕ) → j < n → Same j
        go zero j l = absurd (omega arith)
        go (suc n) j l = by j (λ a k. go n a (omega arith)) (picks (P j).kind) refl

    -- and of a remaining program
    pub rest_spots_are : (place : ℕ) (g : Rest) → map (λ (x : Spot). x.1) (rest_spots W s P digits place g) ≡ rest_transitions W s P g
    unfolding rest_spots rest_transitions
    rest_spots_are place gone = refl
    rest_spots_are place (leaf j) = bare_same (place * 2 ^ 64) (spots_of W s P digits j) ∙ spots_are j
    rest_spots_are place (node tag l r) =
        let goes : Bool = goes_right tag (rest_final W s P l) (is_none (rest_transitions W s P l)) in
        map-append (λ (x : Spot). x.1) (map (moved 0 (λ (g : Rest). node tag g r)) (rest_spots W s P digits _ l)) _
        ∙ ap₂ ◌++◌ (bare_moved 0 (λ (g : Rest). node tag g r) (rest_spots W s P digits _ l) ∙ ap (map (on_rest (λ (g : Rest). node tag g r))) (rest_spots_are (place + 3) l))
        (bare_part goes 0 (wrap_right tag l) (rest_spots W s P digits _ r) (λ t. rest_spots_are (place + 3 + 3 * nodes l) r))
