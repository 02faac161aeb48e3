-- What is held steps as the program that it stands for. A record's transitions, by the one shape, stand for those of its construct, kind
-- by kind, and those of a choice with each value for its own; so do, along the table, those of every record; so do those of a tree over
-- records. Assumes nothing.
use Prim.Native.Nat.{ℕ, zero, suc, ◌<◌}
use mathlib.Core.Bool.{Bool, true, false, not, cond, ◌&&◌, ◌||◌, false≢true}
use mathlib.Core.List.{List, [], ◌∷◌, ◌++◌, map, map-append, append-nil}
use mathlib.Core.Option.{Option, none, some}
use mathlib.Core.Path.{◌≡◌, refl, sym, ◌∙◌, ap, ap₂, subst}
use lib.Dec.{T, eqb}
use lib.ListN.{get_or}
use Rattle.records.specs.declared.Program.{Program}
use Rattle.records.specs.Placeholders.{put_in}
use Rattle.records.proofs.Some.{some_same}
use Rattle.kinds.specs.Programs.{field_a, field_b, has_a, has_b, picks, final_of, uses_a, uses_b, tag_a, loops, tag_b}
use Rattle.kinds.proofs.ProgramKinds.{by_kind, record_of}
use Rattle.golog.specs.declared.State.{State}
use Rattle.golog.specs.World.{World, holds, possible, after}
use Rattle.golog.specs.Prog.{Prog, sequence, together, over, star, iteration, while, interrupt, pick, construct, program_of}
use Rattle.runs.specs.Guide.{only}
use Rattle.golog.specs.Transitions.{Transition, on_prog, is_none, lists_from, final, transitions}
use Rattle.golog.proofs.Construct.{construct_pick}
use Rattle.remaining.specs.Rest.{Rest, gone, leaf, node, unfolded, AllLower}
use Rattle.remaining.specs.Leaves.{RestTransition, on_rest, Leaf, nil_leaf, leaf_with, pick_leaf, leaf_at, leaf_of, rest_final, rest_transitions, Compact, compact_final}
use Rattle.remaining.proofs.Entries.{entry_rule, lower_a, lower_b, chosen, program_step}

-- the transition that one stands for, from the state s
abbrev seen : World → State → (ℕ → Program) → RestTransition → Transition
seen W s p x = (x.0, (unfolded p x.1, after W x.0 s))

record Stands (W : World) (s : State) (p : ℕ → Program) (xs : List RestTransition) (ys : List Transition) : Type 0 where
  eq : map (seen W s p) xs ≡ ys

-- finality and transitions of a record are those of a program
record Right (W : World) (s : State) (p : ℕ → Program) (x : Leaf) (P : Prog) : Type 0 where
  ends : x.final ≡ final W P s
  goes : Stands W s p x.transitions (transitions W P s)

module _ {W : World} {s : State} {p : ℕ → Program} where
  nobody : Stands W s p [] []
  nobody = record { eq = refl }

  joined : {xs ys : List RestTransition} {xs' ys' : List Transition} → Stands W s p xs xs' → Stands W s p ys ys' → Stands W s p (xs ++ ys) (xs' ++ ys')
  joined {xs} {ys} h k = record { eq = map-append (seen W s p) xs ys ∙ ap₂ ◌++◌ h.eq k.eq }

  alone : {xs : List RestTransition} {xs' : List Transition} → Stands W s p xs xs' → Stands W s p (xs ++ []) xs'
  alone {xs} h = record { eq = ap (map (seen W s p)) (append-nil xs) ∙ h.eq }

  guarded : {xs : List RestTransition} {xs' : List Transition} {b c : Bool} → b ≡ c → Stands W s p xs xs' → Stands W s p (only b xs) (only c xs')
  guarded {xs} {xs'} {b} {c} e h = record { eq = go b ∙ ap₂ only e h.eq }
    where
      go : (b : Bool) → map (seen W s p) (only b xs) ≡ only b (map (seen W s p) xs)
      go true = refl
      go false = refl

  kept : {xs : List RestTransition} {xs' : List Transition} (b : Bool) → Stands W s p xs xs' → Stands W s p (only b xs) (only b xs')
  kept b h = guarded {b = b} refl h

  one : (m : Option ℕ) (g : Rest) → Stands W s p ((m, g) ∷ []) ((m, (unfolded p g, after W m s)) ∷ [])
  one m g = record { eq = refl }

  wrapped : {xs : List RestTransition} {xs' : List Transition} (f : Rest → Rest) (f' : Prog → Prog) → ((g : Rest) → unfolded p (f g) ≡ f' (unfolded p g)) → Stands W s p xs xs' →
      Stands W s p (map (on_rest f) xs) (map (on_prog f') xs')
  wrapped {xs} f f' h k = record { eq = go xs ∙ ap (map (on_prog f')) k.eq }
    where
      go : (xs : List RestTransition) → map (seen W s p) (map (on_rest f) xs) ≡ map (on_prog f') (map (seen W s p) xs)
      go [] = refl
      go (x ∷ xs) = ap₂ (λ (y : Transition) (l : List Transition). y ∷ l) (λ i. (x.0, (h x.1 i, after W x.0 s))) (go xs)

  bare : {xs : List RestTransition} {xs' : List Transition} → Stands W s p xs xs' → Stands W s p (map (on_rest (λ (g : Rest). g)) xs) xs'
  bare {xs} h = record { eq = go xs ∙ h.eq }
    where
      go : (xs : List RestTransition) → map (seen W s p) (map (on_rest (λ (g : Rest). g)) xs) ≡ map (seen W s p) xs
      go [] = refl
      go (x ∷ xs) = ap (λ (l : List Transition). seen W s p x ∷ l) (go xs)

  nones : {xs : List RestTransition} {xs' : List Transition} → Stands W s p xs xs' → is_none xs ≡ is_none xs'
  nones {xs} h = go xs ∙ ap is_none h.eq
    where
      go : (xs : List RestTransition) → is_none xs ≡ is_none (map (seen W s p) xs)
      go [] = refl
      go (x ∷ xs) = refl

  lists : (f : ℕ → List RestTransition) (g : ℕ → List Transition) → ((v : ℕ) → Stands W s p (f v) (g v)) → (k i : ℕ) → Stands W s p (lists_from f i k) (lists_from g i k)
  unfolding lists_from
  lists f g h zero i = nobody
  lists f g h (suc k) i = joined (h i) (lists f g h k (suc i))

module _ (W : World) (s : State) (p : ℕ → Program) where
  -- a record, where the parts that its kind has are right
  module _ (i a b c : ℕ) (A B : Leaf) where
    abbrev Made : ℕ → Prog
    Made kind = construct (record_of kind a b c) (program_of p a) (program_of p b) (chosen (program_of p) (record_of kind a b c))

    abbrev Kept : ℕ → Type 0
    Kept kind =
        picks kind ≡ false → (T (has_a kind) → Right W s p A (program_of p a)) → (T (has_b kind) → Right W s p B (program_of p b)) → program_of p i ≡ Made kind
        → Right W s p (leaf_with W s (record_of kind a b c) i A B) (Made kind)

    record_right : (kind : ℕ) → Kept kind
    unfolding leaf_with construct final transitions field_a field_b final_of uses_a uses_b tag_a tag_b loops unfolded
    record_right =
        by_kind Kept
        -- 0 nil
        (λ z h k e. record { ends = refl; goes = nobody })
        -- 1 act
        (λ z h k e. record { ends = refl; goes = alone (kept (possible W a s) (one (some a) gone)) })
        -- 2 test
        (λ z h k e. record { ends = refl; goes = alone (kept (holds W a s) (one none gone)) })
        -- 3 a;b
        (λ z h k e. record {
          ends = ap₂ ◌&&◌ (h tt).ends (k tt).ends;
          goes =
              joined (wrapped (λ (g : Rest). node 3 g (leaf b)) (λ (g : Prog). sequence g (program_of p b)) (λ g. refl) (h tt).goes)
              (bare (guarded (h tt).ends (k tt).goes));
        })
        -- 4 a|b
        (λ z h k e. record { ends = ap₂ ◌||◌ (h tt).ends (k tt).ends; goes = joined (bare (h tt).goes) (bare (k tt).goes) })
        -- 5 star
        (λ z h k e. record {
          ends = refl;
          goes = alone (wrapped (λ (g : Rest). node 3 g (leaf i)) (λ (g : Prog). sequence g (star (program_of p a))) (λ g. ap (sequence (unfolded p g)) e) (h tt).goes);
        })
        -- 6 if
        (λ z h k e. record {
          ends = ap₂ (λ (x y : Bool). (holds W c s && x) || (not (holds W c s) && y)) (h tt).ends (k tt).ends;
          goes = joined (bare (kept (holds W c s) (h tt).goes)) (bare (kept (not (holds W c s)) (k tt).goes));
        })
        -- 7 while
        (λ z h k e. record {
          ends = ap (λ (x : Bool). not (holds W c s) || x) (h tt).ends;
          goes = alone (wrapped (λ (g : Rest). node 3 g (leaf i)) (λ (g : Prog). sequence g (while c (program_of p a))) (λ g. ap (sequence (unfolded p g)) e) (kept (holds W c s) (h tt).goes));
        })
        -- 8 together
        (λ z h k e. record {
          ends = ap₂ ◌&&◌ (h tt).ends (k tt).ends;
          goes =
              joined (wrapped (λ (g : Rest). node 8 g (leaf b)) (λ (g : Prog). together g (program_of p b)) (λ g. refl) (h tt).goes)
              (wrapped (λ (g : Rest). node 8 (leaf a) g) (λ (g : Prog). together (program_of p a) g) (λ g. refl) (k tt).goes);
        })
        -- 9 over
        (λ z h k e. record {
          ends = ap₂ ◌&&◌ (h tt).ends (k tt).ends;
          goes =
              joined (wrapped (λ (g : Rest). node 9 g (leaf b)) (λ (g : Prog). over g (program_of p b)) (λ g. refl) (h tt).goes)
              (wrapped (λ (g : Rest). node 9 (leaf a) g) (λ (g : Prog). over (program_of p a) g) (λ g. refl) (guarded (nones (h tt).goes) (k tt).goes));
        })
        -- 10 concurrent iteration
        (λ z h k e. record {
          ends = refl;
          goes = alone (wrapped (λ (g : Rest). node 8 g (leaf i)) (λ (g : Prog). together g (iteration (program_of p a))) (λ g. ap (together (unfolded p g)) e) (h tt).goes);
        })
        -- 11 interrupt
        (λ z h k e. record {
          ends = ap (λ (x : Bool). not s.running || (holds W c s && x)) (h tt).ends;
          goes = alone (wrapped (λ (g : Rest). node 3 g (leaf i)) (λ (g : Prog). sequence g (interrupt c (program_of p a))) (λ g. ap (sequence (unfolded p g)) e)
              (kept (s.running && holds W c s) (h tt).goes));
        })
        -- 12 choice of a value
        (λ z. absurd (false≢true (sym z)))
        -- past the kinds
        (λ n z h k e. record { ends = refl; goes = nobody })

  -- a choice, where its part is right with each value
  pick_right : (n : ℕ) (F : ℕ → Leaf) (f : ℕ → Prog) → ((v : ℕ) → Right W s p (F v) (f v)) → Right W s p (pick_leaf n F) (pick n f)
  unfolding pick_leaf final transitions
  pick_right n F f h = record {
    ends = some_same (λ (v : ℕ). (F v).final) (λ (v : ℕ). final W (f v) s) n 0 (λ v l. (h v).ends);
    goes = lists (λ (v : ℕ). (F v).transitions) (λ (v : ℕ). transitions W (f v) s) (λ v. (h v).goes) n 0;
  }

  -- the three constructs of a node: N makes one, `sq` is whether it is a sequence, `tog` whether it is together
  abbrev Both : (sq tog : Bool) → Prog → Prog → Prog
  Both sq tog P Q = cond sq (sequence P Q) (cond tog (together P Q) (over P Q))

  both_final : (sq tog : Bool) (P Q : Prog) → final W (Both sq tog P Q) s ≡ (final W P s && final W Q s)
  unfolding final
  both_final true tog P Q = refl
  both_final false true P Q = refl
  both_final false false P Q = refl

  both_steps : (sq tog : Bool) (N : Rest → Rest → Rest) → ((g h : Rest) → unfolded p (N g h) ≡ Both sq tog (unfolded p g) (unfolded p h))
      → (l r : Rest) {fl : Bool} {L R : List RestTransition} → fl ≡ final W (unfolded p l) s → Stands W s p L (transitions W (unfolded p l) s)
      → Stands W s p R (transitions W (unfolded p r) s)
      → Stands W s p (map (on_rest (λ (g : Rest). N g r)) L ++ map (on_rest (λ (g : Rest). cond sq g (N l g))) (only (cond sq fl (cond tog true (is_none L))) R))
      (transitions W (Both sq tog (unfolded p l) (unfolded p r)) s)
  unfolding transitions
  both_steps true tog N e l r f x y = joined (wrapped (λ (g : Rest). N g r) (λ (g : Prog). sequence g (unfolded p r)) (λ g. e g r) x) (bare (guarded f y))
  both_steps false true N e l r f x y = joined (wrapped (λ (g : Rest). N g r) (λ (g : Prog). together g (unfolded p r)) (λ g. e g r) x)
      (wrapped (λ (g : Rest). N l g) (λ (g : Prog). together (unfolded p l) g) (λ g. e l g) y)
  both_steps false false N e l r f x y = joined (wrapped (λ (g : Rest). N g r) (λ (g : Prog). over g (unfolded p r)) (λ g. e g r) x)
      (wrapped (λ (g : Rest). N l g) (λ (g : Prog). over (unfolded p l) g) (λ g. e l g) (guarded (nones x) y))

  module _ (low : AllLower p) where
    leaf_right : (i : ℕ) → Right W s p (leaf_of W s p i) (program_of p i)
    unfolding leaf_of
    leaf_right =
        entry_rule nil_leaf (leaf_at W s p) (λ (i : ℕ) (x : Leaf). Right W s p x (program_of p i))
        (λ i lower h. subst (Right W s p (leaf_at W s p i lower)) (sym (program_step p low i)) (go i lower h (picks (p i).kind) refl))
      where
        go :
            (i : ℕ) (lower : List Leaf) → ((a : ℕ) → a < i → Right W s p (get_or lower a nil_leaf) (program_of p a)) → (b : Bool) → picks (p i).kind ≡ b
            → Right W s p (cond b (pick_leaf (p i).a (λ (v : ℕ). get_or lower (put_in (p i).b (p i).c v) nil_leaf))
            (leaf_with W s (p i) i (get_or lower (p i).a nil_leaf) (get_or lower (p i).b nil_leaf))) (Made i (p i).a (p i).b (p i).c nil_leaf nil_leaf (p i).kind)
        go i lower h true e =
            subst (Right W s p _) (sym (construct_pick (p i) _ _ _ e))
            (pick_right (p i).a _ _ (λ v. h (put_in (p i).b (p i).c v) (low.picked i v (rw e tt)).0))
        go i lower h false e =
            record_right i (p i).a (p i).b (p i).c _ _ (p i).kind e (λ t. h (p i).a (lower_a p low i t)) (λ t. h (p i).b (lower_b p low i t)) (program_step p low i)

    -- finality of a tree over records is that of its program
    pub rest_final_lem : (g : Rest) → rest_final W s p g ≡ final W (unfolded p g) s
    unfolding rest_final unfolded final
    rest_final_lem gone = refl
    rest_final_lem (leaf i) = (leaf_right i).ends
    rest_final_lem (node tag l r) = ap₂ ◌&&◌ (rest_final_lem l) (rest_final_lem r) ∙ sym (both_final (eqb tag 3) (eqb tag 8) (unfolded p l) (unfolded p r))

    stands : (g : Rest) → Stands W s p (rest_transitions W s p g) (transitions W (unfolded p g) s)
    unfolding rest_transitions unfolded transitions
    stands gone = nobody
    stands (leaf i) = (leaf_right i).goes
    stands (node tag l r) = both_steps (eqb tag 3) (eqb tag 8) (node tag) (λ g h. refl) l r (rest_final_lem l) (stands l) (stands r)

    -- so are its transitions, each with the state that its move gives
    pub rest_steps : (g : Rest) → map (λ (x : RestTransition). (x.0, (unfolded p x.1, after W x.0 s))) (rest_transitions W s p g) ≡ transitions W (unfolded p g) s
    rest_steps g = (stands g).eq

-- a held configuration is final where the one that it stands for is
pub final_same : (W : World) (p : ℕ → Program) → AllLower p → (c : Compact) → compact_final W p c ≡ final W (unfolded p c.0) c.1
final_same W p low c = rest_final_lem W c.1 p low c.0
