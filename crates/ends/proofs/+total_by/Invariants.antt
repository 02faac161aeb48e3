use Rattle.words.proofs.Reading.{size_at}
use Rattle.ends.proofs.+total_by.Given as goal

abbrev pub decreases-total_by : goal.decreases-total_by
decreases-total_by g l = size_at l.work.now l.at
