-- Where an entry fits, it is added; else nothing changes. Assumes nothing.
use Rattle.index.proofs.Changed.{notes_nothing, notes_more}
use native.Mathlib.Omega.{arith}
use Rattle.index.proofs.add.Goals as goal

pub returns-then-end-k : goal.returns-then-end-k
returns-then-end-k c =
    notes_more _ _ _ _ _ _ _ c.requires.value_bound.0 c.requires.lt_head.0 c.requires.lt_head.1
    (omega arith) (omega arith) c.header.ensures _ c.enter.ensures (omega arith)

pub returns-else-end-k : goal.returns-else-end-k
returns-else-end-k c = notes_nothing _ _ _
