-- How many transitions there are: a record's, by the one shape, its own and those of the parts that it uses; so at most twice as many
-- for each level. Assumes nothing.
use mathlib.Core.Path.{◌≡◌, refl, sym}
use mathlib.Core.Bool.{cond}
use mathlib.Core.List.{List, [], ◌∷◌}
use Prim.Native.Nat.{ℕ, suc, ◌+◌, ◌*◌, ◌^◌, ◌<◌, ◌≤◌, max}
use native.Mathlib.Nat.{pow-succ', pow-le-pow_right, one-le-pow, mul-le-mul_left, add-mul, one-mul}
use native.Mathlib.Omega.{arith}
use lib.Dec.{eqb}
use lib.ListN.{get_or, length, length-append, length-map}
use borrow.Author.Tests.{ne_eqb}
use Rattle.records.specs.declared.Program.{Program}
use Rattle.records.proofs.Truth.{part_few}
use Rattle.kinds.specs.Programs.{count_of}
use Rattle.kinds.proofs.Counting.{count_adds, count_doubled}
use Rattle.height.specs.Height.{rise}
use Rattle.golog.specs.declared.State.{State}
use Rattle.golog.specs.World.{World, holds, possible}
use Rattle.runs.proofs.Tests.{only_length}
use Rattle.golog.specs.Transitions.{is_none}
use Rattle.remaining.specs.Rest.{Rest, gone, leaf, node, nodes, largest, high, AllLower, Plain}
use Rattle.remaining.specs.Leaves.{RestTransition, Leaf, nil_leaf, leaf_with, leaf_at, leaf_of, goes_right, rest_final, rest_transitions}
use Rattle.remaining.proofs.Entries.{entry_rule, lower_a, lower_b, rise_a, rise_b}

-- a list is empty where its length is 0
pub none_length : (xs : List RestTransition) → is_none xs ≡ eqb (length xs) 0
none_length [] = refl
none_length (x ∷ xs) = sym (ne_eqb (suc (length xs)) 0 (λ e. omega arith))

-- the transitions of a record, counted
pub leaf_count : (W : World) (s : State) (r : Program) (i : ℕ) (A B : Leaf)
    → length (leaf_with W s r i A B).transitions
    ≡ count_of r.kind (possible W r.a s) (holds W r.a s) A.final (holds W r.c s) s.running (length A.transitions) (length B.transitions)
unfolding leaf_with
leaf_count W s r i A B =
    simp (length-append, length-map, only_length, none_length)
    (sym (count_adds (possible W r.a s) (holds W r.a s) A.final (holds W r.c s) s.running (length A.transitions) (length B.transitions) r.kind))

-- those of a node
pub node_count : (W : World) (s : State) (p : ℕ → Program) (tag : ℕ) (l r : Rest)
    → length (rest_transitions W s p (node tag l r))
    ≡ length (rest_transitions W s p l) + cond (goes_right tag (rest_final W s p l) (eqb (length (rest_transitions W s p l)) 0)) (length (rest_transitions W s p r)) 0
unfolding rest_transitions
node_count W s p tag l r = simp (length-append, length-map, only_length, none_length)

-- where no record chooses a value, one of height h has at most 2 ^ h transitions
module _ (W : World) (s : State) (p : ℕ → Program) (low : AllLower p) (plain : Plain p) where
  pub leaf_few : (i : ℕ) → length (leaf_of W s p i).transitions ≤ 2 ^ rise p i
  unfolding leaf_of
  leaf_few =
      entry_rule nil_leaf (leaf_at W s p) (λ (i : ℕ) (x : Leaf). length x.transitions ≤ 2 ^ rise p i)
      (λ i lower h.
      rw (plain i, leaf_count W s (p i) i (get_or lower (p i).a nil_leaf) (get_or lower (p i).b nil_leaf))
      (count_doubled (2 ^ rise p i) (p i).kind _ _ _ _ _ _ _ (one-le-pow (rise p i) 2 (omega arith))
      (λ t. twice i (p i).a (rise_a p low i t) _ (h (p i).a (lower_a p low i t)))
      (λ t. twice i (p i).b (rise_b p low i t) _ (h (p i).b (lower_b p low i t)))))
    where
      twice : (i a : ℕ) → rise p a < rise p i → (k : ℕ) → k ≤ 2 ^ rise p a → k + k ≤ 2 ^ rise p i
      twice i a l k h = let u : 2 ^ suc (rise p a) ≤ 2 ^ rise p i = pow-le-pow_right (omega arith) l in omega (arith, pow-succ' 2 (rise p a))

  -- a tree, as many for each node
  pub rest_few : (g : Rest) → length (rest_transitions W s p g) ≤ nodes g * 2 ^ high p g
  unfolding rest_transitions nodes largest
  rest_few gone = omega arith
  rest_few (leaf i) = omega (arith, leaf_few i, one-mul (2 ^ rise p i))
  rest_few (node tag l r) =
      let m : ℕ = max (high p l) (high p r) in
      let grown : (h : ℕ) → h ≤ m → (k : ℕ) → k * 2 ^ h ≤ k * 2 ^ m = λ h u k. mul-le-mul_left k (pow-le-pow_right (omega arith) u) in
      omega (
        arith,
        node_count W s p tag l r,
        part_few (goes_right tag (rest_final W s p l) (eqb (length (rest_transitions W s p l)) 0)) (length (rest_transitions W s p r)),
        rest_few l,
        rest_few r,
        grown (high p l) (omega arith) (nodes l),
        grown (high p r) (omega arith) (nodes r),
        add-mul (1 + nodes l) (nodes r) (2 ^ m),
        add-mul 1 (nodes l) (2 ^ m),
      )
