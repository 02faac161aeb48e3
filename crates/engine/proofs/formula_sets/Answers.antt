-- The sets are those of the sheet's formulas, by the law of Named. Assumes nothing.
use Rattle.sheet.specs.Layout.{layout_of}
use Rattle.sheet.proofs.Accepted.{laid}
use Rattle.sheet.proofs.Lower.{lower_formulas}
use Rattle.sheet.proofs.Parts.{formulas_long}
use Rattle.engine.proofs.Named.{formulas_named}
use Rattle.engine.proofs.formula_sets.Goals as goal

pub sets_of-requires : goal.sets_of-requires
sets_of-requires c =
    let s = c.args.s.now in
    let O = c.found.ensures.of.accepted in
    rw (c.formulas.ensures.table, c.found.ensures.found) (formulas_long s (layout_of s) (laid s O), (laid s O).q, lower_formulas s O)

pub returns : goal.returns
returns c =
    formulas_named c.args.s.now c.found.ensures.of.accepted (rw (c.formulas.ensures.table, c.found.ensures.found) at c.sets_of.ensures)
