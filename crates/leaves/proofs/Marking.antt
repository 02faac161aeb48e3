-- Where no record chooses a value: a record is final in no state unless it is marked among those that may be, and in every state where it is marked among those that are:
-- where its parts are so. So where the two agree, `endable` says it. Assumes nothing.
use mathlib.Core.Path.{◌≡◌, refl, sym, ◌∙◌, ap}
use mathlib.Core.Bool.{Bool, true, false, not, ◌&&◌}
use mathlib.Core.List.{List}
use Prim.Native.Nat.{ℕ, ◌-◌, ◌≤◌, ◌<◌}
use native.Mathlib.Omega.{arith}
use lib.ListN.{get_or, get_or-eq_default}
use Rattle.records.specs.declared.Program.{Program}
use Rattle.records.specs.Table.{up_to, entry_of}
use Rattle.records.proofs.Fills.{default_at, length_up, up_at}
use Rattle.kinds.specs.Programs.{final_bound_by}
use Rattle.kinds.proofs.Bounding.{Under, final_marked, marked_final}
use Rattle.golog.specs.World.{holds}
use Rattle.remaining.specs.Leaves.{Leaf, leaf_with, leaf_of}
use Rattle.remaining.specs.Rest.{AllLower, Plain}
use Rattle.remaining.proofs.Entries.{entry_rule, lower_a, lower_b, leaf_plain}
use Rattle.leaves.specs.Tallies.{extended_size}
use Rattle.leaves.specs.Endable.{Endable, Sure, final_bound_at, final_bounds_of, doubt_by, Settled}

-- a record reads the lower ones through their marks alone
pub bound_same : (most : Bool) (r : Program) (l m : List Bool) → ((a : ℕ) → get_or l a true ≡ get_or m a true) → final_bound_by r most l ≡ final_bound_by r most m
unfolding final_bound_by
bound_same most r l m h = rw (h r.a, h r.b)

module _ (most : Bool) (p : ℕ → Program) (m : ℕ) where
  bounds_at : (i : ℕ) → i < m → get_or (final_bounds_of most p m) i true ≡ entry_of true (final_bound_at most p) i
  unfolding final_bounds_of
  bounds_at i l = default_at true (up_to (final_bound_at most p) m) (260 - m) i ∙ up_at true (final_bound_at most p) m i l

  pub bounds_after : (i : ℕ) → m ≤ i → get_or (final_bounds_of most p m) i true ≡ true
  unfolding final_bounds_of
  bounds_after i l = default_at true (up_to (final_bound_at most p) m) (260 - m) i ∙ get_or-eq_default (up_to (final_bound_at most p) m) true (omega (arith, length_up (final_bound_at most p) m))

-- the table that runs has a place for each record
pub places_few : (interrupts : Bool) (n : ℕ) → n ≤ 256 → extended_size interrupts n ≤ 260
places_few true n l = omega arith
places_few false n l = omega arith

module _ (p : ℕ → Program) (low : AllLower p) (plain : Plain p) where
  -- the table of the records that may be final in some state marks each that is
  pub bounds_above : (m : ℕ) → Endable p m (final_bounds_of true p m)
  unfolding final_bound_by leaf_with
  bounds_above m W s i l f =
      bounds_at true p m i l ∙ entry_rule true (final_bound_at true p) (λ (a : ℕ) (x : Bool). Under (leaf_of W s p a).final x) made i f
    where
      made : (a : ℕ) (lower : List Bool) → ((k : ℕ) → k < a → Under (leaf_of W s p k).final (get_or lower k true)) → Under (leaf_of W s p a).final (final_bound_at true p a lower)
      made a lower h f =
          final_marked _ _ _ _ (holds W (p a).c s) s.running (p a).kind (λ t. h (p a).a (lower_a p low a t)) (λ t. h (p a).b (lower_b p low a t))
          (ap (λ (y : Leaf). y.final) (sym (leaf_plain W s p low a (plain a))) ∙ f)

  -- what the table of those that are final in every state marks is
  pub bounds_below : (m : ℕ) → Sure p m (final_bounds_of false p m)
  unfolding final_bound_by leaf_with
  bounds_below m W s i l f =
      entry_rule true (final_bound_at false p) (λ (a : ℕ) (x : Bool). Under x (leaf_of W s p a).final) made i (sym (bounds_at false p m i l) ∙ f)
    where
      made : (a : ℕ) (lower : List Bool) → ((k : ℕ) → k < a → Under (get_or lower k true) (leaf_of W s p k).final) → Under (final_bound_at false p a lower) (leaf_of W s p a).final
      made a lower h f =
          ap (λ (y : Leaf). y.final) (leaf_plain W s p low a (plain a))
          ∙ marked_final _ _ _ _ (holds W (p a).c s) s.running (p a).kind (λ t. h (p a).a (lower_a p low a t)) (λ t. h (p a).b (lower_b p low a t)) f

between : (x y f : Bool) → Under f x → Under y f → (x && not y) ≡ false → f ≡ x
between x y true u v d = sym (u refl)
between true true false u v d = v refl
between true false false u v d = sym d
between false y false u v d = refl

pub settled : (p : ℕ → Program) (endable sure : List Bool) {m : ℕ} → Endable p m endable → Sure p m sure → (i : ℕ) → i < m → doubt_by endable sure i ≡ false → Settled p endable i
settled p endable sure E S i l d W s = between _ _ _ (E W s i l) (S W s i l) d
