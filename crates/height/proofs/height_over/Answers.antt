-- The higher of the two, each where its kind has it. Assumes nothing.
use Rattle.height.proofs.Links.{over_links}
use Rattle.height.proofs.height_over.Goals as goal

pub returns : goal.returns
returns c = rw (over_links c.args.h.now c.args.r) cc
