-- Below the quantifiers the table has the sets of the parts. Assumes nothing.
use Rattle.truths.proofs.Said.{says}
use Rattle.truths.proofs.Evaluating.{rule, evaluated}
use Rattle.truths.proofs.next_set.Goals as goal

pub returns-then-r-lt-FIRST_QUANTIFIER : goal.returns-then-r-lt-FIRST_QUANTIFIER
returns-then-r-lt-FIRST_QUANTIFIER c W s from v H =
    let low = (rule c.requires c.formula_at-r.ensures.record).lower in
    evaluated c.requires c.formula_at-r.ensures.record W s from v (c.composed_set.ensures (says W s) (λ t. H _ (low.0 t)) (λ t. H _ (low.1 t)))
