-- The environments with n or more in placeholder c are taken away first. Placeholder 0 is the column, placeholder 1 the row. Assumes nothing.
use Prim.Native.Nat.{ℕ}
use mathlib.Core.Path.{◌≡◌, ap, ◌∙◌}
use native.Mathlib.Omega.{arith}
use Rattle.records.specs.Placeholders.{put}
use Rattle.records.specs.Some.{some_from}
use Rattle.sets.specs.Sets.{member}
use Rattle.sets.proofs.Members.{has_by}
use Rattle.sets.proofs.Values.{some_few}
use Rattle.sets.proofs.some.Goals as goal

pub returns-in-0 : goal.returns-in-0
returns-in-0 c =
    let is : 0 ≡ c.args.c = omega arith in
    has_by c.some_column.ensures
    (λ e l. ap (λ (d : ℕ). some_from (λ (v : ℕ). member c.without-few.result (put e d v)) 0 16) is
    ∙ some_few c.args.x _ _ c.args.c c.args.n e c.requires.1 l c.reaching.ensures c.without-few.ensures)

pub returns-in_default : goal.returns-in_default
returns-in_default c =
    let is : 1 ≡ c.args.c = omega arith in
    has_by c.some_row.ensures
    (λ e l. ap (λ (d : ℕ). some_from (λ (v : ℕ). member c.without-few.result (put e d v)) 0 16) is
    ∙ some_few c.args.x _ _ c.args.c c.args.n e c.requires.1 l c.reaching.ensures c.without-few.ensures)
