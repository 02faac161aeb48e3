-- What the tables of a state say of a remaining program is what it is: leaf by leaf the tables hold what the records are, and the parts
-- of a construct add up as its transitions do. Assumes nothing.
use mathlib.Core.Path.{◌≡◌, refl, sym, ◌∙◌, ap, ap₂}
use mathlib.Core.Bool.{Bool, true, false, cond, ◌&&◌}
use mathlib.Core.List.{List}
use Prim.Native.Nat.{ℕ, ◌+◌, ◌≤◌, ◌<◌}
use native.Mathlib.Omega.{arith}
use lib.Dec.{eqb}
use lib.ListN.{length, get_or}
use borrow.Author.Tests.{eqb-true, eqb-false, eq-eqb, ne_eqb}
use Rattle.records.specs.declared.Program.{Program}
use Rattle.golog.specs.declared.State.{State}
use Rattle.golog.specs.World.{World}
use Rattle.golog.specs.Transitions.{is_none}
use Rattle.remaining.specs.Rest.{Rest, gone, leaf, node, largest, high, AllLower, Plain}
use Rattle.remaining.specs.Leaves.{leaf_of, goes_right, rest_final, rest_transitions}
use Rattle.remaining.proofs.Counts.{node_count, none_length}
use Rattle.leaves.specs.Tallies.{finals_of, counts_of}
use Rattle.leaves.specs.Endable.{AreFinal}
use Rattle.leaves.proofs.Entries.{finals_at, counts_exact}
use Rattle.ends.specs.Ends.{final_by_table, count_by_table, most_levels, InTable}

module _ {p : ℕ → Program} {m : ℕ} where
  pub within_leaf : {i : ℕ} → InTable p m (leaf i) → (i < m) × (high p (leaf i) ≤ most_levels)
  unfolding largest
  within_leaf H = (H.number, H.height)

  pub within_left : {tag : ℕ} {l r : Rest} → InTable p m (node tag l r) → InTable p m l
  unfolding largest
  within_left H = record { number = omega (arith, H.number); height = omega (arith, H.height) }

  pub within_right : {tag : ℕ} {l r : Rest} → InTable p m (node tag l r) → InTable p m r
  unfolding largest
  within_right H = record { number = omega (arith, H.number); height = omega (arith, H.height) }

-- sums of which the same parts are 0
same_zero : (x y : ℕ) → (x ≡ 0 → y ≡ 0) → (y ≡ 0 → x ≡ 0) → eqb x 0 ≡ eqb y 0
same_zero x y f g = go (eqb x 0) refl
  where
    go : (b : Bool) → eqb x 0 ≡ b → eqb x 0 ≡ eqb y 0
    go true q = q ∙ sym (eq-eqb y 0 (f (eqb-true x 0 q)))
    go false q = q ∙ sym (ne_eqb y 0 (λ e. eqb-false x 0 q (g e)))

zero_too : (x y : ℕ) → eqb x 0 ≡ eqb y 0 → x ≡ 0 → y ≡ 0
zero_too x y e z = eqb-true y 0 (sym e ∙ eq-eqb x 0 z)

sum_zero : (goes : Bool) (x y x' y' : ℕ) → eqb x 0 ≡ eqb x' 0 → eqb y 0 ≡ eqb y' 0 → eqb (x + cond goes y 0) 0 ≡ eqb (x' + cond goes y' 0) 0
sum_zero true x y x' y' e f =
    same_zero (x + y) (x' + y') (λ z. omega (arith, zero_too x x' e (omega arith), zero_too y y' f (omega arith)))
    (λ z. omega (arith, zero_too x' x (sym e) (omega arith), zero_too y' y (sym f) (omega arith)))
sum_zero false x y x' y' e f =
    same_zero (x + 0) (x' + 0) (λ z. omega (arith, zero_too x x' e (omega arith))) (λ z. omega (arith, zero_too x' x (sym e) (omega arith)))

-- remaining programs whose parts are among them too
pub record Closed (In : Rest → Type 0) : Type 0 where
  pub left : (tag : ℕ) (l r : Rest) → In (node tag l r) → In l
  pub right : (tag : ℕ) (l r : Rest) → In (node tag l r) → In r

pub within_closed : (p : ℕ → Program) (m : ℕ) → Closed (InTable p m)
within_closed p m = record { left = λ tag l r H. within_left H; right = λ tag l r H. within_right H }

-- where the tables are right of the leaves among them, they are of all
module _ (In : Rest → Type 0) (C : Closed In)
    (W : World) (s : State) (p : ℕ → Program) (finals : List Bool) (F : (i : ℕ) → In (leaf i) → get_or finals i true ≡ (leaf_of W s p i).final) where
  -- it is final by the table where it is
  pub final_over : (g : Rest) → In g → final_by_table finals g ≡ rest_final W s p g
  unfolding final_by_table rest_final
  final_over gone H = refl
  final_over (leaf i) H = F i H
  final_over (node tag l r) H = ap₂ ◌&&◌ (final_over l (C.left tag l r H)) (final_over r (C.right tag l r H))

  -- and it counts none where it has none
  module _ (counts : List ℕ) (N : (i : ℕ) → In (leaf i) → eqb (get_or counts i 0) 0 ≡ is_none (leaf_of W s p i).transitions) where
    pub none_over : (g : Rest) → In g → eqb (count_by_table finals counts g) 0 ≡ is_none (rest_transitions W s p g)
    unfolding count_by_table rest_transitions
    none_over gone H = refl
    none_over (leaf i) H = N i H
    none_over (node tag l r) H =
        let L = none_over l (C.left tag l r H) ∙ none_length (rest_transitions W s p l) in
        let R = none_over r (C.right tag l r H) ∙ none_length (rest_transitions W s p r) in
        let goes : Bool = goes_right tag (rest_final W s p l) (eqb (length (rest_transitions W s p l)) 0) in
        rw (final_over l (C.left tag l r H), L)
        (sum_zero goes (count_by_table finals counts l) (count_by_table finals counts r) (length (rest_transitions W s p l)) (length (rest_transitions W s p r)) L R
        ∙ ap (λ (n : ℕ). eqb n 0) (sym (node_count W s p tag l r))
        ∙ sym (none_length (rest_transitions W s p (node tag l r))))

module _ (W : World) (s : State) (p : ℕ → Program) (m : ℕ) where
  pub final_by_lem : (finals : List Bool) → AreFinal W s p m finals → (g : Rest) → InTable p m g → final_by_table finals g ≡ rest_final W s p g
  final_by_lem finals F = final_over (InTable p m) (within_closed p m) W s p finals (λ i H. F i (within_leaf H).0)

  pub final_in : (g : Rest) → InTable p m g → final_by_table (finals_of W s p m) g ≡ rest_final W s p g
  final_in g H = final_by_lem (finals_of W s p m) (λ i h. finals_at W s p m i h) g H

  module _ (low : AllLower p) (plain : Plain p) where
    -- they count its transitions
    pub count_in : (g : Rest) → InTable p m g → count_by_table (finals_of W s p m) (counts_of W s p m) g ≡ length (rest_transitions W s p g)
    unfolding count_by_table rest_transitions largest
    count_in gone H = refl
    count_in (leaf i) H = counts_exact W s p low plain m i (within_leaf H).0 (within_leaf H).1
    count_in (node tag l r) H =
        rw (count_in l (within_left H), count_in r (within_right H), final_in l (within_left H)) (sym (node_count W s p tag l r))
