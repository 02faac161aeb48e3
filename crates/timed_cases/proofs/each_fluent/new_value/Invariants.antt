use Rattle.state.specs.Truths.{said_by}
use Rattle.state.proofs.Performed.{Passed}
use Rattle.timed_cases.proofs.each_fluent.new_value.Given as goal

abbrev pub invariant-effects : goal.invariant-effects
invariant-effects l = Passed (said_by l.truths) l.effects l.x l.old l.first l.count l.value l.i
