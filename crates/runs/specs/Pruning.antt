-- Own vocabulary: what a search may leave out, for any transition system: where the bound ran out in some run before, only a plan could
-- still change its verdict. The law is in proofs/Pruned.antt. Assumes nothing.
use Rattle.std.specs.Prelude.{ℕ, zero, suc, Bool, false, ◌≡◌}
use mathlib.Core.List.{List, Memᴰ}
use Rattle.std.proofs.Math.Option.{Option}
use Rattle.runs.specs.Search.{is_plan}
use Rattle.runs.specs.Guide.{Guide, guided_transitions}
use Rattle.runs.specs.Bounded.{verdict_within}

module _ {C : Type 0} (transitions : C → List (Option ℕ × C)) (final : C → Bool) where
  -- no run of 1 to k transitions from c under its guide ends final: nothing that a transition leads to has a plan within the others
  abbrev pub NoneEndsLater : ℕ → C × Guide → Type 0
  NoneEndsLater zero c = Unit {0}
  NoneEndsLater (suc k) c =
      (m : Option ℕ) (d : C × Guide) → Memᴰ (m, d) (guided_transitions transitions c) → is_plan (verdict_within transitions final k d) ≡ false
