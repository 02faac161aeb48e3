-- How far a remaining program is from its end by the table is a lower bound, where the table has lower bounds: a construct is as far as
-- both its parts, and by a transition of one of them as far as what that leaves and the other part as it is. Where the right part of a
-- sequence goes, the left is final, and so at distance 0. Assumes nothing.
use mathlib.Core.Path.{◌≡◌, refl, sym, ap, ap₂, ◌∙◌, subst}
use mathlib.Core.Bool.{Bool, true, false, cond}
use mathlib.Core.List.Memᴰ
use mathlib.Core.List.{List, [], ◌∷◌, Memᴰ}
use Prim.Native.Nat.{ℕ, suc, ◌+◌, ◌≤◌}
use native.Mathlib.Omega.{arith}
use lib.Dec.{T, eqb}
use lib.ListN.{length, get_or}
use borrow.Author.Tests.{ne_eqb}
use Rattle.records.specs.declared.Program.{Program}
use Rattle.records.proofs.Truth.{is_true}
use Rattle.golog.specs.declared.State.{State}
use Rattle.golog.specs.World.{World, after}
use Rattle.golog.specs.Prog.{Prog, sequence, together, over, program_of}
use Rattle.golog.specs.Transitions.{Transition, is_none}
use Rattle.golog.specs.Distance.{distance}
use Rattle.golog.proofs.Distance.{final_near, step_near}
use Rattle.remaining.specs.Rest.{Rest, gone, leaf, node, unfolded, largest, AllLower, Plain}
use Rattle.remaining.specs.Leaves.{RestTransition, goes_right, wrap_right, leaf_of, rest_final, rest_transitions}
use Rattle.remaining.proofs.Counts.{none_length}
use Rattle.remaining.proofs.Every.{Every, nobody, also, every_append, every_map, every_part, every_at}
use Rattle.remaining.proofs.Same.{rest_final_lem, rest_steps}
use Rattle.leaves.specs.Tallies.{finals_of, counts_of}
use Rattle.leaves.specs.Distances.{Distances}
use Rattle.leaves.proofs.Entries.{finals_at, counts_exact}
use Rattle.ends.specs.Ends.{final_by_table, count_by_table, far_by_table, soon_by_table, InTable}
use Rattle.ends.proofs.Tabled.{within_leaf, Closed, within_closed, final_over, none_over}

some_length : (xs : List RestTransition) (x : RestTransition) → Memᴰ x xs → length xs ≡ 0 → ⊥
some_length [] x k e = Memᴰ.not-nil k
some_length (y ∷ xs) x k e = omega arith

not_none : (xs : List RestTransition) (x : RestTransition) → Memᴰ x xs → is_none xs ≡ false
not_none xs x k = none_length xs ∙ ne_eqb (length xs) 0 (some_length xs x k)

-- what each member has, all have
each : {P : RestTransition → Type 0} (xs : List RestTransition) → ((x : RestTransition) → Memᴰ x xs → P x) → Every P xs
each [] h = nobody
each (x ∷ xs) h = also (h x (Memᴰ.head refl)) (each xs (λ y k. h y (Memᴰ.tail k)))

-- each of the three constructs is as far from its end as both parts
node_distance : (p : ℕ → Program) (tag : ℕ) (l r : Rest) → distance (unfolded p (node tag l r)) ≡ distance (unfolded p l) + distance (unfolded p r)
unfolding unfolded distance
node_distance p tag l r = go (eqb tag 3) (eqb tag 8) (unfolded p l) (unfolded p r)
  where
    go : (sq tog : Bool) (P Q : Prog) → distance (cond sq (sequence P Q) (cond tog (together P Q) (over P Q))) ≡ distance P + distance Q
    go true tog P Q = refl
    go false true P Q = refl
    go false false P Q = refl

-- where the tables are right of the leaves among some remaining programs, they are of all of them
module _ (In : Rest → Type 0) (C : Closed In)
    (p : ℕ → Program) (distances : List ℕ) (D : (i : ℕ) → In (leaf i) → get_or distances i 0 ≤ distance (program_of p i)) where
  pub far_over : (g : Rest) → In g → far_by_table distances g ≤ distance (unfolded p g)
  unfolding far_by_table unfolded distance
  far_over gone H = omega arith
  far_over (leaf i) H = D i H
  far_over (node tag l r) H = omega (arith, node_distance p tag l r, far_over l (C.left tag l r H), far_over r (C.right tag l r H))

  module _ (W : World) (low : AllLower p) (s : State) (finals : List Bool) (F : (i : ℕ) → In (leaf i) → get_or finals i true ≡ (leaf_of W s p i).final)
      (counts : List ℕ) (N : (i : ℕ) → In (leaf i) → eqb (get_or counts i 0) 0 ≡ is_none (leaf_of W s p i).transitions) where
    -- what it leaves is no nearer than n, the transition counted
    abbrev Far : ℕ → RestTransition → Type 0
    Far n x = n ≤ suc (distance (unfolded p x.1))

    abbrev soonest : Rest → ℕ
    soonest g = soon_by_table finals distances counts g

    -- the right part goes by the tables where it does
    goes_by : (tag : ℕ) (l : Rest) → In l
        → goes_right tag (final_by_table finals l) (eqb (count_by_table finals counts l) 0) ≡ goes_right tag (rest_final W s p l) (is_none (rest_transitions W s p l))
    goes_by tag l H = ap₂ (goes_right tag) (final_over In C W s p finals F l H) (none_over In C W s p finals F counts N l H)

    leaf_far : (i : ℕ) → In (leaf i) → (x : RestTransition) → Memᴰ x (rest_transitions W s p (leaf i)) → Far (soonest (leaf i)) x
    unfolding soon_by_table rest_transitions unfolded
    leaf_far i H x k =
        let some : eqb (get_or counts i 0) 0 ≡ false = N i H ∙ not_none (leaf_of W s p i).transitions x k in
        let of : RestTransition → Transition = λ y. (y.0, (unfolded p y.1, after W y.0 s)) in
        let y = subst (Memᴰ (of x)) (rest_steps W s p low (leaf i)) (Memᴰ.map of k) in
        rw some (omega (arith, D i H, step_near W (unfolded p (leaf i)) s (of x) y))

    -- by a transition of the right part, where it goes
    right_far : (tag : ℕ) (l r : Rest) → In l → T (goes_right tag (rest_final W s p l) (is_none (rest_transitions W s p l)))
        → (g : Rest) → soonest r ≤ suc (distance (unfolded p g)) → far_by_table distances l + soonest r ≤ suc (distance (unfolded p (wrap_right tag l g)))
    right_far tag l r H t g h = go (eqb tag 3) t
      where
        go : (b : Bool) → T (cond b (rest_final W s p l) (cond (eqb tag 8) true (is_none (rest_transitions W s p l))))
            → far_by_table distances l + soonest r ≤ suc (distance (unfolded p (cond b g (node tag l g))))
        go true t = omega (arith, far_over l H, final_near W (unfolded p l) s (sym (rest_final_lem W s p low l) ∙ is_true (rest_final W s p l) t))
        go false t = omega (arith, far_over l H, node_distance p tag l g)

    all_far : (g : Rest) → In g → Every (Far (soonest g)) (rest_transitions W s p g)
    unfolding soon_by_table rest_transitions
    all_far gone H = nobody
    all_far (leaf i) H = each (leaf_of W s p i).transitions (leaf_far i H)
    all_far (node tag l r) H =
        let goes : Bool = goes_right tag (rest_final W s p l) (is_none (rest_transitions W s p l)) in
        every_append
        (every_map (λ (g : Rest). node tag g r) (λ x h. omega (arith, h, node_distance p tag x.1 r, far_over r (C.right tag l r H))) (all_far l (C.left tag l r H)))
        (every_part goes (wrap_right tag l)
        (λ t x h. rw (goes_by tag l (C.left tag l r H), is_true goes t) (omega (arith, right_far tag l r (C.left tag l r H) t x.1 h)))
        (λ t. all_far r (C.right tag l r H)))

    -- no transition leaves what is nearer
    pub soon_over : (g : Rest) → In g → (x : RestTransition) → Memᴰ x (rest_transitions W s p g) → soon_by_table finals distances counts g ≤ suc (distance (unfolded p x.1))
    soon_over g H x k = every_at (all_far g H) k

-- the tables of a state, and those told once
module _ (p : ℕ → Program) (m : ℕ) (distances : List ℕ) (D : Distances p m distances) where
  pub far_in : (g : Rest) → InTable p m g → far_by_table distances g ≤ distance (unfolded p g)
  far_in = far_over (InTable p m) (within_closed p m) p distances (λ i H. D i (within_leaf H).0)

  module _ (W : World) (low : AllLower p) (plain : Plain p) (s : State) where
    count_none : (i : ℕ) → InTable p m (leaf i) → eqb (get_or (counts_of W s p m) i 0) 0 ≡ is_none (leaf_of W s p i).transitions
    unfolding largest
    count_none i H =
        ap (λ (n : ℕ). eqb n 0) (counts_exact W s p low plain m i (within_leaf H).0 (within_leaf H).1) ∙ sym (none_length (leaf_of W s p i).transitions)

    -- no transition leaves what is nearer
    pub soon_in : (g : Rest) → InTable p m g → (x : RestTransition) → Memᴰ x (rest_transitions W s p g)
        → soon_by_table (finals_of W s p m) distances (counts_of W s p m) g ≤ suc (distance (unfolded p x.1))
    soon_in =
        soon_over (InTable p m) (within_closed p m) p distances (λ i H. D i (within_leaf H).0) W low s (finals_of W s p m)
        (λ i H. finals_at W s p m i (within_leaf H).0) (counts_of W s p m) count_none
