-- A leaf's number is that of its record and its environment. Assumes nothing.
use Rattle.cursors.proofs.Ending.{final_reading}
use Rattle.cursors.proofs.final_of.Goals as goal

pub returns : goal.returns
returns c = final_reading _ c.requires.1 c.final_in.ensures
