-- `any` tries each number below n, and Levels has what that finds. Assumes nothing.
use mathlib.Core.Path.{refl, ◌∙◌}
use native.Mathlib.Nat.{sub-zero}
use borrow.Author.Tests.{tests}
use lib.Dec.{eqb}
use Prim.Native.Nat.{ℕ}
use Rattle.std.proofs.Common.{rules}
use Rattle.std.proofs.lemmas.Iterator.{YieldsList-from_range}
use Rattle.std.proofs.lemmas.Iterator.Search.{any_from_yields_List}
use Rattle.records.specs.Records.{program_at}
use Rattle.height.proofs.Levels.{any_is}
use Rattle.height.proofs.has_interrupts.Goals as goal

pub returns : goal.returns
returns c =
    any_from_yields_List (λ (i : ℕ). eqb (program_at c.args.t.now i).kind 11) _ _ _ c.any.ensures.ran (YieldsList-from_range 0 _ _ refl (sub-zero _)) (λ x b q k. search (rules, tests))
    ∙ any_is (program_at c.args.t.now) c.args.n
