-- F and D of an accepted sheet are where its layout says. Assumes nothing.
use borrow.Author.Rules.{rules}
use mathlib.Core.Path.{sym, ap, ◌∙◌}
use Rattle.std.specs.Prelude.{Ok}
use Rattle.sheet.specs.declared.Layout.{Layout}
use Rattle.sheet.proofs.Found.{answered}
use Rattle.planner.specs.Sizes.{sized_as, sizes_of}
use Rattle.planner.proofs.sizes.Goals as goal

pub returns-in_err-open : goal.returns-in_err-open
unfolding sizes_of
returns-in_err-open c = record { answer = rw c.in_err-open.ensures.refused (search rules) }

pub returns : goal.returns
unfolding sizes_of
returns c =
    let O = c.found.ensures.of in
    record {
      answer = ap (λ (l : Layout). Ok (record { fluents = l.f; bound = l.d })) O.layout_is ∙ sym (ap (sized_as _) (answered O)) ∙ ap sizes_of c.in_ok-open.ensures.accepted.0;
    }
