-- One place is written. Assumes nothing.
use Rattle.std.proofs.Common.{arith}
use Rattle.engine.specs.Tables.{surveys_at}
use Rattle.engine.proofs.Windows.{only_set}
use Rattle.engine.proofs.count_survey.Goals as goal

pub returns-clause-written : goal.returns-clause-written
returns-clause-written c =
    only_set c.args.numbers.now surveys_at _ (omega arith) (omega arith)
