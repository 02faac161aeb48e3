-- Every move of a remaining program is that of an act record: so where the acts of a table name what can be performed, every move does.
-- Assumes nothing.
use Rattle.std.proofs.Common.{ℕ, Bool, true, false, cond, T}
use mathlib.Core.List.{Memᴰ}
use mathlib.Core.Option.{none, some}
use Rattle.records.specs.declared.Program.{Program}
use Rattle.kinds.specs.Programs.{acts}
use Rattle.golog.specs.declared.State.{State}
use Rattle.golog.specs.World.{World}
use Rattle.golog.specs.Transitions.{is_none}
use Rattle.remaining.specs.Rest.{Rest, gone, leaf, node, AllLower}
use Rattle.remaining.specs.Leaves.{RestTransition, own_move, rest_final, goes_right, wrap_right, rest_transitions}
use Rattle.remaining.proofs.Every.{Every, nobody, every_append, every_map, every_part, every_at, leaf_every}
use Rattle.engine.specs.Going.{Known}

module _ (K : ℕ → Type 0) where
  known_own : (r : Program) → (T (acts r.kind) → K r.a) → Known K (own_move r)
  known_own r h = go (acts r.kind) h
    where
      go : (b : Bool) → (T b → K r.a) → Known K (cond b (some r.a) none)
      go true h = h tt
      go false h = tt

  module _ (W : World) (s : State) (p : ℕ → Program) (low : AllLower p) (known : (i : ℕ) → T (acts (p i).kind) → K (p i).a) where
    all_known : (g : Rest) → Every (λ (x : RestTransition). Known K x.0) (rest_transitions W s p g)
    unfolding rest_transitions
    all_known gone = nobody
    all_known (leaf i) = leaf_every W s p low (λ (i : ℕ) (x : RestTransition). Known K x.0) (λ i. known_own (p i) (known i)) (λ i x t h. h) (λ i x t h. h) (λ i v x t h. h) i
    all_known (node tag l r) =
        every_append (every_map (λ (g : Rest). node tag g r) (λ x h. h) (all_known l))
        (every_part (goes_right tag (rest_final W s p l) (is_none (rest_transitions W s p l))) (wrap_right tag l) (λ t x h. h) (λ t. all_known r))

    pub rest_known : (g : Rest) (x : RestTransition) → Memᴰ x (rest_transitions W s p g) → Known K x.0
    rest_known g x k = every_at (all_known g) k
