-- The sets are those of the sheet's formulas, by the laws of `named`, and so is their union. Assumes nothing.
use Rattle.records.specs.Records.{formula_at}
use Rattle.named.specs.Tables.{sets_of}
use Rattle.named.proofs.Tables.{sets_are, union_is}
use Rattle.sheet.specs.Layout.{layout_of, formulas_in}
use Rattle.sheet.proofs.Accepted.{laid}
use Rattle.sheet.proofs.Parts.{formulas_long}
use Rattle.sheet.proofs.Lower.{lower_formulas}
use Rattle.sheet.proofs.Sheet.names.Goals as goal

pub sets_of-sets-requires : goal.sets_of-sets-requires
sets_of-sets-requires c =
    let s = c.args.self.now in
    let O = c.found.ensures.of in
    let l = laid s O.accepted in
    rw (c.formulas.ensures.table, O.layout_is) (formulas_long s (layout_of s) l, l.q, lower_formulas s O.accepted)

pub returns : goal.returns
returns c =
    let s = c.args.self.now in
    let O = c.found.ensures.of in
    let t = formulas_in s (layout_of s) in
    let n = (layout_of s).q in
    rw (c.union_of.ensures, c.sets_of-sets.ensures, c.formulas.ensures.table, O.layout_is)
    (union_is (formula_at t) n (sets_of t n) (sets_are t n (lower_formulas s O.accepted)))
