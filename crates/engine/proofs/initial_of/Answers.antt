-- The fluents are those of the sheet's table. Assumes nothing.
use Rattle.std.proofs.Common.{ap, ap₂, ◌∙◌, arith}
use Rattle.sheet.specs.declared.Layout.{Layout}
use Rattle.demands.specs.Decoded.{starting_with}
use Rattle.sheet.proofs.Found.{in_sheet}
use Rattle.engine.proofs.initial_of.Goals as goal

pub initial-requires : goal.initial-requires
initial-requires c =
    let O = c.found.ensures.of in
    let e = ap (λ (l : Layout). l.f) O.layout_is in
    (omega (arith, e, c.fluents.ensures.long), (in_sheet O).f)

pub returns : goal.returns
returns c =
    c.initial.ensures ∙ ap₂ starting_with c.fluents.ensures.table (ap (λ (l : Layout). l.f) c.found.ensures.of.layout_is)
