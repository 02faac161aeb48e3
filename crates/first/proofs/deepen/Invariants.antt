use Rattle.std.proofs.Common.{◌+◌, ◌-◌}
use Rattle.explored.specs.Known.{Lasting}
use Rattle.search.specs.Searching.{Standing}
use Rattle.first.proofs.Deepened.{Raising}
use Rattle.first.proofs.deepen.Given as goal

abbrev pub invariant-loop-low : goal.invariant-loop-low
invariant-loop-low l =
    Standing l.s l.work l.flags l.numbers × Lasting l.s l.index × Raising l.s l.best l.d l.low

abbrev pub decreases-loop-low : goal.decreases-loop-low
decreases-loop-low l = l.d + 1 - l.low
