use Rattle.words.proofs.Reading.{size_at}
use Rattle.ends.proofs.+final_by.Given as goal

abbrev pub decreases-final_by : goal.decreases-final_by
decreases-final_by g l = size_at l.work.now l.at
