use Rattle.words.proofs.Reading.{size_at}
use Rattle.steps.proofs.+step_rest.Given as goal

abbrev pub decreases-step_rest : goal.decreases-step_rest
decreases-step_rest l = size_at l.work.now l.from
