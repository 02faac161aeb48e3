use Rattle.positions.proofs.Finding.{rank}
use Rattle.positions.proofs.+find_way.Given as goal

abbrev pub decreases-find_way : goal.decreases-find_way
decreases-find_way l = rank l.way
