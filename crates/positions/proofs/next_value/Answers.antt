-- The first of the range. Assumes nothing.
use borrow.Author.Rules.{rules}
use mathlib.Core.Path.{◌≡◌}
use mathlib.Core.Bool.{true, false}
use Prim.Native.Nat.{ℕ, ◌+◌}
use Rattle.std.proofs.lemmas.Iterator.{first_from_Range}
use Rattle.records.specs.Placeholders.{put}
use Rattle.sets.specs.Sets.{member, set_at}
use Rattle.positions.proofs.Values.{next_found}
use Rattle.positions.proofs.next_value.Goals as goal

pub returns : goal.returns
returns c =
    let enabled = λ (u : ℕ). member (set_at c.args.table.now (772 + c.args.b)) (put c.args.e c.args.c u) in
    next_found enabled _ _ _
    (first_from_Range _ _ _ _ (λ u. enabled u ≡ true) (λ u. enabled u ≡ false) c.find.ensures.ran (λ x q h. search rules) (λ x q h. search rules))
