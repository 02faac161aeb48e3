-- What is found of the parts of a construct says what is to be found of it: final where both are; its transitions are those of the left
-- part and, where that one lets it go, those of the right part; and it is as far from its end as both together. Assumes nothing.
use mathlib.Core.Path.{◌≡◌, refl, sym, ap, ap₂, subst, ◌∙◌}
use mathlib.Core.Bool.{Bool, true, false, cond, ◌&&◌}
use mathlib.Core.List.{List}
use Prim.Native.Nat.{ℕ, ◌+◌, ◌^◌, ◌<◌, max}
use native.Mathlib.Omega.{arith}
use lib.Dec.{eqb}
use lib.ListN.{get_or}
use Rattle.records.proofs.Truth.{part_few}
use Rattle.remaining.specs.Rest.{Rest, gone, leaf, node, nodes}
use Rattle.remaining.specs.Leaves.{goes_right}
use Rattle.words.proofs.Standing.{nodes_pos}
use Rattle.leaves.specs.Distances.{farthest}
use Rattle.ends.specs.Ends.{final_by_table, count_by_table, far_by_table, soon_of, soon_by_table, joined, Below, Totalled, totals_of}
use Rattle.ends.specs.declared.Totals.{Totals}

module _ (finals : List Bool) where
  pub final_gone : {g : Rest} → g ≡ gone → true ≡ final_by_table finals g
  unfolding final_by_table
  final_gone e = ap (final_by_table finals) (sym e)

  pub final_leaf : {g : Rest} {x : Bool} {i j : ℕ} → g ≡ leaf j → i ≡ j → x ≡ get_or finals i true → x ≡ final_by_table finals g
  unfolding final_by_table
  final_leaf e ei ex = ex ∙ ap (λ (n : ℕ). get_or finals n true) ei ∙ ap (final_by_table finals) (sym e)

  module _ {g l r : Rest} {tag : ℕ} (e : g ≡ node tag l r) {x : Bool} (ex : x ≡ final_by_table finals l) where
    pub final_both : {y : Bool} → y ≡ final_by_table finals r → (x && y) ≡ final_by_table finals g
    unfolding final_by_table
    final_both ey = ap₂ ◌&&◌ ex ey ∙ ap (final_by_table finals) (sym e)

    pub final_second : {y : Bool} → x ≡ true → y ≡ final_by_table finals r → y ≡ final_by_table finals g
    final_second {y} z ey = ap (λ (b : Bool). b && y) (sym z) ∙ final_both ey

    pub final_first : x ≡ false → false ≡ final_by_table finals g
    final_first z = ap (λ (b : Bool). b && final_by_table finals r) (sym z) ∙ final_both refl

small : (n k : ℕ) → k < 2 ^ 32 → soon_of n k < 2 ^ 32
small n k l = go (eqb n 0)
  where
    go : (b : Bool) → cond b farthest (max 1 k) < 2 ^ 32
    go true = omega arith
    go false = omega arith

module _ (finals : List Bool) (distances counts : List ℕ) where
  pub total_gone : {g : Rest} → g ≡ gone → Totalled finals distances counts g (record { done = true; count = 0; far = 0; soon = farthest })
  unfolding count_by_table far_by_table soon_by_table
  total_gone {g} e = record {
    done_is = final_gone finals e;
    count_is = ap (count_by_table finals counts) (sym e);
    far_is = ap (far_by_table distances) (sym e);
    soon_is = ap (soon_by_table finals distances counts) (sym e);
    few = omega (arith, nodes_pos g);
  }

  pub total_leaf : {g : Rest} {n k i j : ℕ} {x : Bool} {t : Totals} → g ≡ leaf j → i ≡ j → n ≡ get_or counts i 0 → n < 2 ^ 32 → k ≡ get_or distances i 0 → k < 2 ^ 32
      → x ≡ get_or finals i true → t ≡ totals_of x n k → Totalled finals distances counts g t
  unfolding count_by_table far_by_table soon_by_table
  total_leaf {g} {n} {k} {j = j} e ei en ln ek lk ex et =
      let u : n ≡ get_or counts j 0 = en ∙ ap (λ (i : ℕ). get_or counts i 0) ei in
      let v : k ≡ get_or distances j 0 = ek ∙ ap (λ (i : ℕ). get_or distances i 0) ei in
      subst (Totalled finals distances counts g) (sym et) (record {
        done_is = final_leaf finals e ei ex;
        count_is = u ∙ ap (count_by_table finals counts) (sym e);
        far_is = v ∙ ap (far_by_table distances) (sym e);
        soon_is = ap₂ soon_of u v ∙ ap (soon_by_table finals distances counts) (sym e);
        few = omega (arith, small n k lk, nodes_pos g);
      })

  module _ {g l r : Rest} {tag : ℕ} (e : g ≡ node tag l r) {x y : Totals} (F : Totalled finals distances counts l x) (G : Totalled finals distances counts r y) where
    nodes_are : nodes g ≡ 1 + nodes l + nodes r
    unfolding nodes
    nodes_are = ap nodes e

    -- both are few enough to be added, where the nodes fit a word
    pub totals_few : nodes g < 2 ^ 31 → Below (2 ^ 63) x × Below (2 ^ 63) y
    totals_few h = omega (arith, nodes_are, F.few, G.few)

    goes_is : goes_right tag x.done (eqb x.count 0) ≡ goes_right tag (final_by_table finals l) (eqb (count_by_table finals counts l) 0)
    goes_is = ap₂ (λ (d : Bool) (n : ℕ). goes_right tag d (eqb n 0)) F.done_is F.count_is

    pub total_node : Totalled finals distances counts g (joined tag x y)
    unfolding count_by_table far_by_table soon_by_table
    total_node = record {
      done_is = final_both finals e F.done_is G.done_is;
      count_is =
          ap₂ (λ (b : Bool) (m : ℕ). x.count + cond b m 0) goes_is G.count_is
          ∙ ap (λ (n : ℕ). n + cond (goes_right tag (final_by_table finals l) (eqb (count_by_table finals counts l) 0)) (count_by_table finals counts r) 0) F.count_is
          ∙ ap (count_by_table finals counts) (sym e);
      far_is = ap₂ ◌+◌ F.far_is G.far_is ∙ ap (far_by_table distances) (sym e);
      soon_is = rw (goes_is, F.far_is, F.soon_is, G.far_is, G.soon_is) (ap (soon_by_table finals distances counts) (sym e));
      few = omega (arith, nodes_are, F.few, G.few, part_few (goes_right tag x.done (eqb x.count 0)) y.count);
    }
