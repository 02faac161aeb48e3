use Rattle.std.proofs.Common.{◌-◌}
use Rattle.explored.specs.Known.{Lasting}
use Rattle.search.specs.Searching.{Standing}
use Rattle.search.specs.declared.Outcome.TheVariants.{Found}
use Rattle.first.proofs.Deepened.{Lowering}
use Rattle.first.proofs.lower.Given as goal

abbrev pub invariant-loop-tried : goal.invariant-loop-tried
invariant-loop-tried l =
    Standing l.s l.work l.flags l.numbers × Lasting l.s l.index × Lowering l.s l.best l.tried (Found l.n l.t)

abbrev pub decreases-loop-tried : goal.decreases-loop-tried
decreases-loop-tried l = l.t - l.tried
