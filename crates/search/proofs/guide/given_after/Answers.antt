-- The next of the given moves is used. Assumes nothing.
use mathlib.Core.Path.{sym, ◌∙◌, ap, ap₂}
use Rattle.engine.proofs.Codes.{is_move}
use Rattle.search.specs.Moves.{guide_at, left_over}
use Rattle.search.proofs.Guiding.{next_asked}
use Rattle.search.proofs.guide.given_after.Goals as goal

pub returns-in-Some-clause-rest : goal.returns-in-Some-clause-rest
returns-in-Some-clause-rest c w =
    let a = c.args in
    sym (ap₂ left_over (ap (guide_at a.moves.now w) c.in-Some.is ∙ next_asked a.moves.now w c.in-Some.used c.if-used-moves.true) (is_move a.entry c.if-entry-eq-TEST.false))
