-- The sets are joined upwards. Assumes nothing.
use mathlib.Core.Path.{refl, ◌∙◌}
use Prim.Native.Nat.{ℕ}
use native.Mathlib.Nat.{sub-zero}
use lib.Bits.{bit_or}
use lib.ListN.{get_or}
use Rattle.std.proofs.Common.{rules}
use Rattle.std.proofs.lemmas.Iterator.{YieldsList-from_range}
use Rattle.std.proofs.lemmas.Iterator.Consumers.{fold_from_yields_List}
use Rattle.named.proofs.Tables.{or_fold}
use Rattle.named.proofs.union_of.Goals as goal

pub returns : goal.returns
returns c =
    let set = λ (q : ℕ). get_or c.args.sets.now q 0 in
    fold_from_yields_List _ (λ s q. bit_or s (set q)) 0 _ c.fold.ensures.ran (YieldsList-from_range 0 _ _ refl (sub-zero _)) (λ a x b q k. search rules)
    ∙ or_fold set 0 c.args.n
