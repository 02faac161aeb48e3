use Rattle.words.proofs.Reading.{size_at}
use Rattle.cursors.proofs.+lay_rest.Given as goal

abbrev pub decreases-lay_rest : goal.decreases-lay_rest
decreases-lay_rest l = size_at l.work.now l.from
