use Rattle.std.proofs.Common.{◌-◌, ◌≤◌}
use Rattle.explored.specs.Known.{Lasting}
use Rattle.search.specs.Searching.{Standing}
use Rattle.first.specs.Settling.{CanSettle, Settled}
use Rattle.first.proofs.grow.Given as goal

abbrev pub invariant-loop-settled : goal.invariant-loop-settled
invariant-loop-settled l =
    Standing l.s l.work l.flags l.numbers × Lasting l.s l.index × CanSettle l.s l.t × Settled l.s l.t l.settled l.best × (l.settled ≤ 64)

abbrev pub decreases-loop-settled : goal.decreases-loop-settled
decreases-loop-settled l = 64 - l.settled
