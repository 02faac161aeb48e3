use Prim.Native.Nat.{◌+◌, ◌*◌}
use lib.ListN.{length}
use Rattle.engine.specs.Going.{ahead_of}
use Rattle.search.specs.Searching.{Going, Told}
use Rattle.search.proofs.Expanding.{Loop}
use Rattle.search.proofs.+searching.Given as goal

abbrev pub decreases-expand : goal.decreases-expand
decreases-expand l = 2 * l.q.left

abbrev pub decreases-search_from : goal.decreases-search_from
decreases-search_from l = 2 * l.q.left + 1

abbrev pub invariant-expand-loop-t : goal.invariant-expand-loop-t
invariant-expand-loop-t l =
    ((g : Going l.s l.initial.work l.moves (length l.initial.trace) l.t l.q l.initial.k l.initial.flags l.initial.numbers)
    × Loop l.initial.trace l.initial.cut g l.work l.trace l.flags l.numbers l.cut l.k l.stale) × Told l.s l.moves l.t l.index

abbrev pub decreases-expand-loop-t : goal.decreases-expand-loop-t
decreases-expand-loop-t l = ahead_of l.k
