-- What all transitions of a list have, and one rule for a record's, by the one shape: where a part's transitions have it, and the
-- construct around them keeps it, the record's have it; and where they have it with each value, those of a choice. Assumes nothing.
use mathlib.Core.Path.{◌≡◌, refl, sym, subst}
use mathlib.Core.Bool.{Bool, true, false, cond}
use mathlib.Core.List.Memᴰ
use mathlib.Core.List.{List, [], ◌∷◌, ◌++◌, map, Memᴰ}
use mathlib.Core.Logic.{⊎_elim}
use Prim.Native.Nat.{ℕ, zero, suc, ◌<◌}
use lib.Dec.{T}
use lib.ListN.{get_or}
use Rattle.records.specs.declared.Program.{Program}
use Rattle.records.specs.Placeholders.{put_in}
use Rattle.kinds.specs.Programs.{has_a, has_b, picks, own_of, uses_a, uses_b, tag_a, tag_b}
use Rattle.kinds.proofs.Reading.{uses_a_lem, uses_b_lem}
use Rattle.golog.specs.declared.State.{State}
use Rattle.golog.specs.World.{World, holds, possible}
use Rattle.runs.specs.Guide.{only}
use Rattle.golog.specs.Transitions.{lists_from}
use Rattle.remaining.specs.Rest.{Rest, gone, AllLower}
use Rattle.remaining.specs.Leaves.{RestTransition, on_rest, wrap_a, wrap_b, Leaf, nil_leaf, own_move, sibling_a, leaf_with, pick_leaf, leaf_at, leaf_of}
use Rattle.remaining.proofs.Entries.{entry_rule, lower_a, lower_b}

-- all transitions of a list have P
pub data Every (P : RestTransition → Type 0) : List RestTransition → Type 0 where
  nobody : Every P []
  also : {x : RestTransition} {xs : List RestTransition} → P x → Every P xs → Every P (x ∷ xs)

pub every_append : {P : RestTransition → Type 0} {xs ys : List RestTransition} → Every P xs → Every P ys → Every P (xs ++ ys)
every_append nobody q = q
every_append (also a p) q = also a (every_append p q)

pub every_only : {P : RestTransition → Type 0} {xs : List RestTransition} (b : Bool) → Every P xs → Every P (only b xs)
every_only true p = p
every_only false p = nobody

pub every_map : {P Q : RestTransition → Type 0} {xs : List RestTransition} (f : Rest → Rest) → ((x : RestTransition) → P x → Q (on_rest f x)) → Every P xs → Every Q (map (on_rest f) xs)
every_map f h nobody = nobody
every_map f h (also {x = x} a p) = also (h x a) (every_map f h p)

pub every_part : {P Q : RestTransition → Type 0} {xs : List RestTransition} (b : Bool) (f : Rest → Rest) → (T b → (x : RestTransition) → P x → Q (on_rest f x)) → (T b → Every P xs) →
    Every Q (map (on_rest f) (only b xs))
every_part true f h k = every_map f (h tt) (k tt)
every_part false f h k = nobody

pub every_all : {P Q : RestTransition → Type 0} {xs : List RestTransition} → ((x : RestTransition) → P x → Q x) → Every P xs → Every Q xs
every_all h nobody = nobody
every_all h (also {x = x} a p) = also (h x a) (every_all h p)

pub every_at : {P : RestTransition → Type 0} {xs : List RestTransition} {y : RestTransition} → Every P xs → Memᴰ y xs → P y
every_at nobody k = absurd (Memᴰ.not-nil k)
every_at {P} (also a p) k = ⊎_elim (λ e. subst P (sym e) a) (λ k. every_at p k) (Memᴰ.cases_cons k)

pub every_lists : {P : RestTransition → Type 0} (f : ℕ → List RestTransition) → ((v : ℕ) → Every P (f v)) → (k i : ℕ) → Every P (lists_from f i k)
unfolding lists_from
every_lists f h zero i = nobody
every_lists f h (suc k) i = every_append (h i) (every_lists f h k (suc i))

module _ (W : World) (s : State) (p : ℕ → Program) (low : AllLower p) (R : ℕ → RestTransition → Type 0) (own : (i : ℕ) → R i (own_move (p i), gone))
    (by-a : (i : ℕ) (x : RestTransition) → T (has_a (p i).kind) → R (p i).a x → R i (on_rest (wrap_a (tag_a (p i).kind) (sibling_a (p i) i)) x))
    (by-b : (i : ℕ) (x : RestTransition) → T (has_b (p i).kind) → R (p i).b x → R i (on_rest (wrap_b (tag_b (p i).kind) (p i).a) x))
    (by-pick : (i v : ℕ) (x : RestTransition) → T (picks (p i).kind) → R (put_in (p i).b (p i).c v) x → R i x) where
  -- a record that chooses no value, and one that does
  shaped : (i : ℕ) (A B : Leaf) → (T (has_a (p i).kind) → Every (R (p i).a) A.transitions) → (T (has_b (p i).kind) → Every (R (p i).b) B.transitions)
      → Every (R i) (leaf_with W s (p i) i A B).transitions
  unfolding leaf_with
  shaped i A B f g =
      every_append (every_only (own_of (p i).kind (possible W (p i).a s) (holds W (p i).a s)) (also (own i) nobody))
      (every_append
      (every_part (uses_a (p i).kind (holds W (p i).c s) s.running) (wrap_a (tag_a (p i).kind) (sibling_a (p i) i))
      (λ t x. by-a i x (uses_a_lem (p i).kind _ _ t)) (λ t. f (uses_a_lem (p i).kind _ _ t)))
      (every_part (uses_b (p i).kind _ (holds W (p i).c s) _) (wrap_b (tag_b (p i).kind) (p i).a)
      (λ t x. by-b i x (uses_b_lem (p i).kind _ _ _ t)) (λ t. g (uses_b_lem (p i).kind _ _ _ t))))

  picked : (i : ℕ) (F : ℕ → Leaf) → T (picks (p i).kind) → ((v : ℕ) → Every (R (put_in (p i).b (p i).c v)) (F v).transitions) → Every (R i) (pick_leaf (p i).a F).transitions
  unfolding pick_leaf
  picked i F t h = every_lists (λ (v : ℕ). (F v).transitions) (λ v. every_all (λ x. by-pick i v x t) (h v)) (p i).a 0

  pub leaf_every : (i : ℕ) → Every (R i) (leaf_of W s p i).transitions
  unfolding leaf_of
  leaf_every = entry_rule nil_leaf (leaf_at W s p) (λ (i : ℕ) (x : Leaf). Every (R i) x.transitions) (λ i lower h. go i lower h (picks (p i).kind) refl)
    where
      go :
          (i : ℕ) (lower : List Leaf) → ((a : ℕ) → a < i → Every (R a) (get_or lower a nil_leaf).transitions) → (b : Bool) → picks (p i).kind ≡ b
          → Every (R i) (cond b (pick_leaf (p i).a (λ (v : ℕ). get_or lower (put_in (p i).b (p i).c v) nil_leaf))
          (leaf_with W s (p i) i (get_or lower (p i).a nil_leaf) (get_or lower (p i).b nil_leaf))).transitions
      go i lower h true e = picked i _ (rw e tt) (λ v. h (put_in (p i).b (p i).c v) (low.picked i v (rw e tt)).0)
      go i lower h false e = shaped i _ _ (λ t. h (p i).a (lower_a p low i t)) (λ t. h (p i).b (lower_b p low i t))
