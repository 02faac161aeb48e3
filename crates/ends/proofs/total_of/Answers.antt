-- What the tables have. Assumes nothing.
use mathlib.Core.Path.{refl}
use native.Mathlib.Omega.{arith}
use Rattle.ends.proofs.Parts.{total_leaf}
use Rattle.ends.proofs.total_of.Goals as goal

pub returns : goal.returns
returns c =
    total_leaf _ _ _ refl refl c.value_in-count.ensures (omega arith) c.value_in-far.ensures (omega arith) c.value_in.ensures c.new.ensures
