use Rattle.positions.proofs.+lay_record.Given as goal

abbrev pub decreases-lay_record : goal.decreases-lay_record
decreases-lay_record l = l.i
