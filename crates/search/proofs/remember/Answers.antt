-- What the index is told is what the search came to. Assumes nothing.
use mathlib.Core.Path.{sym, ◌∙◌, ap}
use Rattle.runs.specs.Claims.{claim_flag}
use Rattle.search.specs.Moves.{guide_for}
use Rattle.search.proofs.Noting.{explored_as}
use Rattle.search.proofs.remember.Goals as goal

pub returns-then-not-is_found : goal.returns-then-not-is_found
returns-then-not-is_found c =
    let T = c.requires.0 in
    let X = c.requires.1 in
    record {
      few = T.few;
      known = c.note.ensures (guide_for c.args.moves.now c.args.t.window) T.known
          (explored_as c.subject_of-c.ensures X (sym c.is_found.ensures ∙ c.if-not-is_found.true)
          (c.flag_of-flag.ensures.0 ∙ ap (claim_flag c.args.cut) c.is_more.ensures));
    }
