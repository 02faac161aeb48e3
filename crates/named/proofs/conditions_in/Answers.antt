-- The sets of the conditions are joined upwards. Assumes nothing.
use mathlib.Core.Path.{refl, ◌∙◌}
use Prim.Native.Nat.{ℕ}
use native.Mathlib.Omega.{arith}
use lib.Bits.{bit_or}
use lib.ListN.{get_or}
use Rattle.std.proofs.Common.{rules}
use Rattle.std.proofs.lemmas.Iterator.{YieldsList-from_range}
use Rattle.std.proofs.lemmas.Iterator.Consumers.{fold_from_yields_List}
use Rattle.records.specs.Records.{effect_at}
use Rattle.named.proofs.Tables.{or_fold}
use Rattle.named.proofs.conditions_in.Goals as goal

pub returns : goal.returns
returns c =
    let set = λ (e : ℕ). get_or c.args.sets.now (effect_at c.args.effects.now e).condition 0 in
    fold_from_yields_List _ (λ s e. bit_or s (set e)) 0 _ c.fold.ensures.ran (YieldsList-from_range c.args.first _ c.args.count refl (omega arith)) (λ a x b q k. search rules)
    ∙ or_fold set c.args.first c.args.count
