-- The notes end in the sheet. Assumes nothing.
use mathlib.Core.Path.{sym}
use native.Mathlib.Omega.{arith}
use lib.Seq.{length-take-le}
use Rattle.sheet.proofs.Found.{ordered}
use Rattle.sheet.proofs.notes.Goals as goal

pub slice_bounds-result-end : goal.slice_bounds-result-end
slice_bounds-result-end c =
    let o = ordered _ _ (sym c.in-Ok.ensures) in
    sym (length-take-le _ _ (omega (arith, o.fluents, o.formulas, o.effects, o.actions, o.programs, o.end)))
