-- The figure and the union that were found are the check's. Assumes nothing.
use mathlib.Core.Path.{ap, ◌∙◌}
use Rattle.sheet.specs.Check.{check_of}
use Rattle.sheet.proofs.Found.{answered_with}
use Rattle.sheet.proofs.check.Goals as goal

pub returns : goal.returns
returns c = answered_with c.found.ensures.of c.names.ensures ∙ ap check_of c.in_ok-sheet.ensures.accepted.0
