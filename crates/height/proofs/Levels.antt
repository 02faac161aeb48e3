-- The h of the work figure as it is computed is document 01's: the height, plus 2 if any record has kind 11. Assumes nothing.
use mathlib.Core.Path.{◌≡◌, refl, sym, ap, ◌∙◌}
use mathlib.Core.Bool.{Bool, true, false, cond, false≢true}
use mathlib.Core.Logic.{◌⊎◌, inl, inr, ⊎_elim, ◌↔◌}
use Prim.Native.Nat.{ℕ, zero, suc, ◌+◌, ◌≤◌, ◌<◌}
use native.Mathlib.Decide.{dec_lt}
use native.Mathlib.Numerals.{add-one}
use native.Mathlib.Omega.{arith}
use borrow.Author.Tests.{ltb-true, lt-ltb, le-ltb, eqb-true, eqb-false, not-true, not-false}
use lib.Dec.{eqb, ltb}
use Rattle.std.specs.List.{list_any, range_with_len}
use Rattle.records.specs.Lowest.{lowest_from, lowest}
use Rattle.records.proofs.Lowest.{lower_true, lowest_false}
use Rattle.records.proofs.Truth.{is_false}
use Rattle.records.specs.declared.Program.{Program}
use Rattle.height.specs.Down.{IsHeight}
use Rattle.height.specs.Height.{height_of, plain, interrupts}
use Rattle.height.specs.Work.{Interrupted, IsLevels, levels}
use Rattle.height.proofs.Paths.{Lower, height_is_most}

-- whether any of k records from number i on is an interrupt
module _ (p : ℕ → Program) where
  abbrev any_in : (k i : ℕ) → Bool
  any_in k i = list_any (λ (j : ℕ). eqb (p j).kind 11) (range_with_len i k)

  any_from : (k i : ℕ) → any_in k i ≡ ltb (lowest_from (plain p) i k) (i + k)
  unfolding lowest_from
  any_from zero i = sym (le-ltb _ _ (omega arith))
  any_from (suc k) i = go (eqb (p i).kind 11) refl (any_from k (suc i))
    where
      go : (b : Bool) → eqb (p i).kind 11 ≡ b → any_in k (suc i) ≡ ltb (lowest_from (plain p) (suc i) k) (suc i + k) → any_in (suc k) i ≡ ltb (lowest_from (plain p) i (suc k)) (i + suc k)
      go true e next = rw (e, lowest_from) (sym (lt-ltb _ _ (omega arith)))
      go false e next = rw (e, lowest_from, add-one i) (next ∙ ap (ltb (lowest_from (plain p) (suc i) k)) (omega arith))

pub any_is : (p : ℕ → Program) (n : ℕ) → list_any (λ (j : ℕ). eqb (p j).kind 11) (range_with_len 0 n) ≡ interrupts p n
unfolding interrupts lowest
any_is p n = any_from p n 0 ∙ ap (ltb (lowest_from (plain p) 0 n)) (omega arith)

module _ (p : ℕ → Program) (n : ℕ) where
  pub interrupts_exactly : (interrupts p n ≡ true) ↔ Interrupted p n
  unfolding interrupts
  interrupts_exactly = (
    λ e. let l = ltb-true (lowest (plain p) n) n e in (lowest (plain p) n, l, eqb-true _ 11 (not-false _ (lowest_false (plain p) n l))),
    λ (i, l, e). go i l e (dec_lt (lowest (plain p) n) n),
  )
    where
      go : (i : ℕ) → i < n → (p i).kind ≡ 11 → Dec (lowest (plain p) n < n) → interrupts p n ≡ true
      go i l e (yes h) = lt-ltb (lowest (plain p) n) n h
      go i l e (no h) = absurd (eqb-false (p i).kind 11 (not-true _ (lower_true (plain p) n i (omega arith))) e)

  module _ (low : Lower p n) (some : 1 ≤ n) where
    height_only : (g : ℕ) → IsHeight p n g → g ≡ height_of p n
    height_only g (d, most) = let m = height_is_most p n low some in omega (arith, most (height_of p n) m.0, m.1 g d)

    pub levels_exactly : (h : ℕ) → IsLevels p n h ↔ (h ≡ levels p n)
    unfolding levels
    levels_exactly h = (
      λ (g, d, c). let e = height_only g d in
          ⊎_elim
          (λ (i, f). rw (interrupts_exactly.1 i) (omega arith))
          (λ (i, f). rw (is_false _ (λ t. i (interrupts_exactly.0 t))) (omega arith)) c,
      λ e. (height_of p n, height_is_most p n low some, go (interrupts p n) refl e),
    )
      where
        go : (b : Bool) → interrupts p n ≡ b → h ≡ height_of p n + cond (interrupts p n) 2 0 → (Interrupted p n × (h ≡ height_of p n + 2)) ⊎ ((¬ Interrupted p n) × (h ≡ height_of p n))
        go true b e = inl (interrupts_exactly.0 b, rw b at e)
        go false b e = inr (λ i. false≢true (sym b ∙ interrupts_exactly.1 i), omega (arith, rw b at e))
