-- The tables are prepared from zeros. Assumes nothing.
use Rattle.std.proofs.Common.{refl}
use Rattle.engine.proofs.Tables.{blank}
use Rattle.named_cases.proofs.tell.Goals as goal

pub prepare-requires : goal.prepare-requires
prepare-requires g c = (refl, refl, blank)
