use Rattle.std.proofs.Common.{◌-◌}
use Rattle.explored.specs.Known.{Lasting}
use Rattle.search.specs.Searching.{Standing}
use Rattle.first.specs.Settling.{CanSettle}
use Rattle.first.proofs.Settled.{rank_of, Halving}
use Rattle.first.proofs.narrow.Given as goal

abbrev pub invariant-loop-low : goal.invariant-loop-low
invariant-loop-low l =
    Standing l.s l.work l.flags l.numbers × Lasting l.s l.index × CanSettle l.s l.t × Halving l.s l.t l.i l.low l.high l.best

abbrev pub decreases-loop-low : goal.decreases-loop-low
decreases-loop-low l = rank_of l.best l.i - l.low
