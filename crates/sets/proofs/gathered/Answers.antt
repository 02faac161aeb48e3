-- The words are gathered one by one. Assumes nothing.
use Prim.Native.Nat.{ℕ}
use mathlib.Core.Path.{◌≡◌}
use mathlib.Core.List.{List, []}
use denote.Ref.{Bor}
use lib.ListN.{length}
use borrow.Author.Rules.{rules}
use Rattle.std.proofs.lemmas.Fn.{fronts, fold_over, slice_gives}
use Rattle.sets.specs.Sets.{Gathered}
use Rattle.sets.proofs.Empty.{gathered_none, gathered_push}
use Rattle.sets.proofs.gathered.Goals as goal

pub returns : goal.returns
returns c =
    let few : length c.args.x ≡ 8 = search rules in
    let all = fold_over fronts (λ (y : Bor ℕ). y.now) _ (λ (ys : List ℕ) (a : ℕ). Gathered ys (length ys) a) _ (λ ys a x b q G h. search (rules, gathered_push))
    c.iter.result _ _ _ (slice_gives c.iter.result) (gathered_none []) c.fold.ensures.ran in
    rw (c.iter.ensures.rest, few) at all
