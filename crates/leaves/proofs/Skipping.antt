-- Skips are found downwards: a record without doubt leaves the one from the next on. They are followed upwards: what is skipped is
-- right as it came in, and what is looked at is made of lower records, which are right. Assumes nothing.
use mathlib.Core.Path.{◌≡◌, refl, sym, ◌∙◌, ap}
use mathlib.Core.Bool.{Bool, true, false, not}
use mathlib.Core.List.{List}
use mathlib.Core.Logic.{◌⊎◌, ⊎_elim}
use Prim.Native.Nat.{ℕ, suc, ◌+◌, ◌-◌, ◌≤◌, ◌<◌}
use native.Mathlib.Decide.{dec_lt}
use native.Mathlib.Omega.{arith}
use borrow.Author.Tests.{not-true}
use lib.ListN.{length, get_or, set, replicate, length-append, length-replicate, get_or-eq_default}
use lib.Seq.{ext_get_or, get_or-set_other}
use Rattle.records.specs.declared.Program.{Program}
use Rattle.records.specs.Table.{up_to}
use Rattle.records.specs.Lowest.{lowest_from}
use Rattle.records.proofs.Fills.{get_d_same, default_at, length_up, up_at, entry_is}
use Rattle.records.proofs.Lowest.{from_true, from_false, from_none, from_onward, from_passed}
use Rattle.kinds.specs.Programs.{final_by}
use Rattle.kinds.proofs.Reading.{final_same}
use Rattle.golog.specs.declared.State.{State}
use Rattle.golog.specs.World.{World}
use Rattle.remaining.specs.Leaves.{Leaf, leaf_with, leaf_of}
use Rattle.remaining.specs.Rest.{AllLower, Plain}
use Rattle.remaining.proofs.Entries.{lower_a, lower_b, leaf_plain}
use Rattle.leaves.specs.Tallies.{SeesRecord}
use Rattle.leaves.specs.Endable.{Endable, final_bounds_of, doubt_by, skip_from, skips_of, Settled, Skips}
use Rattle.leaves.proofs.Marking.{bounds_below, settled}
use Rattle.records.proofs.Written.{written}

module _ (endable sure : List Bool) (m : ℕ) where
  abbrev clear : ℕ → Bool
  clear a = not (doubt_by endable sure a)

  skip_end : skip_from endable sure m m ≡ m
  skip_end = ap (lowest_from clear m) (omega arith) ∙ from_none clear m

  skip_here : (i : ℕ) → i < m → doubt_by endable sure i ≡ true → skip_from endable sure m i ≡ i
  skip_here i l d = let n : m - i ≡ suc (m - suc i) = omega arith in ap (lowest_from clear i) n ∙ from_false clear i (m - suc i) (ap not d)

  skip_next : (i : ℕ) → i < m → doubt_by endable sure i ≡ false → skip_from endable sure m i ≡ skip_from endable sure m (suc i)
  skip_next i l d = let n : m - i ≡ suc (m - suc i) = omega arith in ap (lowest_from clear i) n ∙ from_true clear i (m - suc i) (ap not d)

-- the places from i on are those of the definition, and `first` is the one from i
pub record Down (endable sure : List Bool) (m : ℕ) (skips : List ℕ) (first i : ℕ) : Type 0 where
  pub first_is : first ≡ skip_from endable sure m i
  pub each : (j : ℕ) → i ≤ j → j < m → get_or skips j m ≡ skip_from endable sure m j
  pub after : (j : ℕ) → m ≤ j → get_or skips j m ≡ m

module _ {endable sure : List Bool} {m : ℕ} where
  pub none : Down endable sure m (replicate 261 m) m m
  none = record { first_is = sym (skip_end endable sure m); each = λ j l h. absurd (omega arith); after = λ j l. get_d_same m 261 j }

  -- one more, below: itself where it is in doubt, else the one from i on
  pub more : {skips : List ℕ} {first i k j : ℕ} → i ≡ suc k → k < length skips → k < m → Down endable sure m skips first i
      → ((doubt_by endable sure k ≡ true) × (j ≡ k)) ⊎ ((doubt_by endable sure k ≡ false) × (j ≡ first)) → Down endable sure m (set skips k j) j k
  more {skips} {first} {i} {k} {j} z l h D w = record {
    first_is = here;
    each = λ a u v. written (λ (x : ℕ). x ≡ skip_from endable sure m a) m skips k j l a (λ n. D.each a (omega (arith, n)) v) (λ e. here ∙ ap (skip_from endable sure m) (sym e));
    after = λ a u. get_or-set_other skips k a j m (λ e. omega arith) ∙ D.after a u;
  }
    where
      here : j ≡ skip_from endable sure m k
      here = ⊎_elim (λ u. u.1 ∙ sym (skip_here endable sure m k h u.0))
          (λ u. u.1 ∙ D.first_is ∙ ap (skip_from endable sure m) z ∙ sym (skip_next endable sure m k h u.0)) w

module _ (p : ℕ → Program) (m : ℕ) (endable : List Bool) where
  abbrev skip_at : ℕ → List ℕ → ℕ
  skip_at i lower = skip_from endable (final_bounds_of false p m) m i

  skips_at : (i : ℕ) → i < m → get_or (skips_of p m endable) i m ≡ skip_from endable (final_bounds_of false p m) m i
  unfolding skips_of
  skips_at i l = default_at m (up_to skip_at m) (261 - m) i ∙ up_at m skip_at m i l ∙ entry_is m skip_at i

  skips_after : (i : ℕ) → m ≤ i → get_or (skips_of p m endable) i m ≡ m
  unfolding skips_of
  skips_after i l = default_at m (up_to skip_at m) (261 - m) i ∙ get_or-eq_default (up_to skip_at m) m (omega (arith, length_up skip_at m))

  length_skips : m ≤ 261 → length (skips_of p m endable) ≡ 261
  unfolding skips_of
  length_skips l = simp (length-append, length_up, length-replicate) (omega arith)

  -- all places are those of the definition
  pub all : {skips : List ℕ} {first : ℕ} → m ≤ 261 → length skips ≡ 261 → Down endable (final_bounds_of false p m) m skips first 0 → skips ≡ skips_of p m endable
  all {skips} l n D = ext_get_or m skips _ (n ∙ sym (length_skips l)) (λ j h. go j (dec_lt j m))
    where
      go : (j : ℕ) → Dec (j < m) → get_or skips j m ≡ get_or (skips_of p m endable) j m
      go j (yes k) = D.each j (omega arith) k ∙ sym (skips_at j k)
      go j (no k) = D.after j (omega arith) ∙ sym (skips_after j (omega arith))

  -- and what they pass is settled
  pub skips_settled : AllLower p → Plain p → Endable p m endable → Skips p m endable (skips_of p m endable)
  skips_settled low plain E = record { onward = λ i l. onward i (dec_lt i m) l; settled = λ i a l h k. passed i a l k (rw (skips_at i (omega arith)) at h) }
    where
      onward : (i : ℕ) → Dec (i < m) → i ≤ m → i ≤ get_or (skips_of p m endable) i m
      onward i (yes k) l = omega (arith, skips_at i k, from_onward (clear endable (final_bounds_of false p m) m) (m - i) i)
      onward i (no k) l = omega (arith, skips_after i (omega arith))

      passed : (i a : ℕ) → i ≤ a → a < m → a < skip_from endable (final_bounds_of false p m) m i → Settled p endable a
      passed i a l k h =
          settled p endable (final_bounds_of false p m) E (bounds_below p low plain m) a k (not-true _ (from_passed (clear endable (final_bounds_of false p m) m) (m - i) i a l h))

-- of the first m records those below i are right, and the others are as they came in
pub record Done (W : World) (s : State) (p : ℕ → Program) (m : ℕ) (endable finals : List Bool) (i : ℕ) : Type 0 where
  pub right : (a : ℕ) → a < i → a < m → get_or finals a true ≡ (leaf_of W s p a).final
  pub rest : (a : ℕ) → i ≤ a → get_or finals a true ≡ get_or endable a true

module _ {W : World} {s : State} {p : ℕ → Program} {m : ℕ} {endable : List Bool} {skips : List ℕ} (S : Skips p m endable skips) where
  pub first : Done W s p m endable endable (get_or skips 0 m)
  first = record { right = λ a l k. sym (S.settled 0 a (omega arith) l k W s); rest = λ a l. refl }

  module _ (low : AllLower p) (plain : Plain p) {finals : List Bool} {i : ℕ} (D : Done W s p m endable finals i) (l : i < m)
      {truths : List Bool} {can : ℕ → Bool} {running : Bool} (seen : SeesRecord W s truths can (p i)) (e : s.running ≡ running) where
    final_right : final_by (p i) truths running finals ≡ (leaf_of W s p i).final
    unfolding final_by leaf_with
    final_right =
        let part : (a : ℕ) → a < i → get_or finals a true ≡ (leaf_of W s p a).final = λ a h. D.right a h (omega arith) in
        rw (← e)
        (final_same (p i).kind s.running (λ t. part (p i).a (lower_a p low i t)) (λ t. part (p i).b (lower_b p low i t)) seen.condition
        ∙ ap (λ (y : Leaf). y.final) (sym (leaf_plain W s p low i (plain i))))

    pub next : i < length finals → {f : Bool} → f ≡ final_by (p i) truths running finals → Done W s p m endable (set finals i f) (get_or skips (i + 1) m)
    next z {f} ef = record {
      right = λ a h k. written (λ (x : Bool). x ≡ (leaf_of W s p a).final) true finals i f z a (λ n. other a h k n (dec_lt a i))
          (λ u. ef ∙ final_right ∙ ap (λ (b : ℕ). (leaf_of W s p b).final) (sym u));
      rest = λ a h. let o = S.onward (i + 1) (omega arith) in get_or-set_other finals i a f true (λ u. omega (arith, o, h)) ∙ D.rest a (omega (arith, o, h));
    }
      where
        other : (a : ℕ) → a < get_or skips (i + 1) m → a < m → (a ≡ i → ⊥) → Dec (a < i) → get_or finals a true ≡ (leaf_of W s p a).final
        other a h k n (yes u) = D.right a u k
        other a h k n (no u) = let o : i + 1 ≤ a = omega (arith, n) in D.rest a (omega arith) ∙ sym (S.settled (i + 1) a o h k W s)
