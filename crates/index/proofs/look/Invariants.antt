use Rattle.index.specs.Content.{Entry, Says, Linked}
use lib.ListN.{length}
use mathlib.Core.List.{List}
use Rattle.index.proofs.look.Given as goal

abbrev pub invariant-loop-at : goal.invariant-loop-at
invariant-loop-at l = (es : List Entry) → Says l.index es → Linked es (length es) l.at

abbrev pub decreases-loop-at : goal.decreases-loop-at
decreases-loop-at l = l.at
