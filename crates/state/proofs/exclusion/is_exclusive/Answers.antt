-- Up to number i each effect's condition and value are noted; the loop is left at an effect that does not fit, or at the range's end. Assumes
-- nothing.
use Prim.Native.Nat.{ℕ, ◌+◌, ◌*◌, ◌<◌}
use mathlib.Core.Path.{◌≡◌, ap}
use native.Mathlib.Omega.{arith}
use borrow.Author.Rules.{rules}
use lib.ListN.{get_or}
use Rattle.std.specs.Prelude.{None}
use Rattle.records.specs.Records.{formula_at}
use Rattle.state.specs.Exclusion.{asked_of}
use Rattle.state.proofs.Excluding.{Agrees, fluent_of, value_of, asked_more}
use Rattle.state.proofs.exclusion.is_exclusive.Goals as goal

pub loop-i-preserved : goal.loop-i-preserved
loop-i-preserved c =
    let l : c.effect_at-e.result.fluent < 32 = rw c.effect_at-e.ensures.record (c.requires.names _ c.loop-i.auto.i c.loop-i-test.true) in
    let f : c.map-fluent.result ≡ fluent_of (asked_of (formula_at c.args.formulas.now c.effect_at-e.result.condition)) = search rules in
    let v : c.map_or.result ≡ value_of (asked_of (formula_at c.args.formulas.now c.effect_at-e.result.condition)) = search rules in
    let m : c.map_or.result < 16 = search rules in
    let one : Agrees (get_or c.loop-i.fluents c.effect_at-e.result.fluent None) c.map-fluent.result = search rules in
    let other : Agrees (get_or c.loop-i.noted (16 * c.effect_at-e.result.fluent + c.map_or.result) None) c.effect_at-e.result.value = search rules in
    asked_more _ _ _ c.loop-i.invariant c.effect_at-e.ensures.record f (ap (λ (z : ℕ). 16 * c.effect_at-e.result.fluent + z) v) l (omega arith) one other
