use Rattle.words.proofs.Reading.{size_at}
use Rattle.cursors.proofs.+find_rest.Given as goal

abbrev pub decreases-find_rest : goal.decreases-find_rest
decreases-find_rest l = size_at l.work.now l.at
