-- The loop writes the new values of the fluents below n, each from the old ones; no effect names a fluent from n on. Assumes nothing.
use Prim.Native.Nat.{ℕ, ◌≤◌, ◌<◌}
use mathlib.Core.Path.{◌≡◌, sym, ◌∙◌, ap}
use mathlib.Core.Bool.{Bool}
use mathlib.Core.List.{List}
use native.Mathlib.Decide.{dec_lt}
use native.Mathlib.Omega.{arith}
use borrow.Author.Rules.{rules}
use lib.ListN.{get_or}
use Rattle.records.specs.Records.{effect_at}
use Rattle.records.specs.declared.Action.{Action}
use Rattle.state.specs.Ranges.{Names}
use Rattle.golog.specs.World.{given, changed}
use Rattle.records.specs.Laid.{Laid}
use Rattle.records.proofs.Laid.{laid_none, laid_more}
use Rattle.state.proofs.Performed.{given_stays, changed_all}
use Rattle.timed_cases.proofs.each_fluent.new_values.Goals as goal

-- values written up to the number that no effect passes are those after all effects
laid-all :
    (says : ℕ → Bool) (effects : List ℕ) (n : ℕ) (r : Action) {x : ℕ} {values new : List ℕ}
    → Names effects n r.first r.count
    → n ≤ x
    → Laid 0 (λ (y : ℕ). given says (effect_at effects) y (get_or values y 0) r.first r.count) values new x
    → new ≡ changed says (effect_at effects) r values
laid-all says effects n r {x} {values} {new} names l L = changed_all says effects r values L.len (λ j b. pick j (dec_lt j x))
  where
    pick : (j : ℕ) → Dec (j < x) → get_or new j 0 ≡ given says (effect_at effects) j (get_or values j 0) r.first r.count
    pick j (yes q) = ap (λ (y : ℕ). get_or new y 0) (omega arith) ∙ L.laid j q
    pick j (no q) = L.above j (omega arith) ∙ sym (given_stays says effects n j (get_or values j 0) r.count r.first names (omega arith))

pub loop-x-init : goal.loop-x-init
loop-x-init c = (search rules, laid_none _ _ _)

pub bounds-new-x : goal.bounds-new-x
bounds-new-x c = omega (arith, c.loop-x.invariant.1.len)

pub loop-x-preserved : goal.loop-x-preserved
loop-x-preserved c =
    (c.loop-x.invariant.0, laid_more _ _ _ c.loop-x.invariant.1 (omega arith) (omega arith) c.new_value.ensures)

pub returns : goal.returns
returns c = laid-all _ _ _ _ c.requires.2 (omega arith) c.loop-x.invariant.1
