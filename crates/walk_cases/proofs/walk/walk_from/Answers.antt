-- The tables are prepared from zeros. Assumes nothing.
use Rattle.std.proofs.Common.{refl}
use Rattle.engine.proofs.Tables.{blank}
use Rattle.walk_cases.proofs.walk.walk_from.Goals as goal

pub prepare-requires : goal.prepare-requires
prepare-requires g c = (refl, refl, blank)
