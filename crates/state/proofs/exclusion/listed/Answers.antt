-- Behind all places it is written how many there are. Assumes nothing.
use native.Mathlib.Omega.{arith}
use Rattle.state.proofs.Excluding.{listing_done}
use Rattle.state.proofs.exclusion.listed.Goals as goal

pub returns : goal.returns
returns c = listing_done _ c.loop-a.invariant (omega arith) (omega arith) c.requires
