-- The totals by the tables of the state are what the definition says of the configuration; counting the survey leaves them. Assumes nothing.
use Rattle.std.proofs.Common.{arith}
use Rattle.engine.proofs.Frames.{nodes_small, at_by, stands_by}
use Rattle.engine.proofs.Tables.{filled, filled_then, counted, counted_filled}
use Rattle.engine.proofs.Telling.{tells}
use Rattle.engine.proofs.survey.Goals as goal

pub nodes_from-requires : goal.nodes_from-requires
nodes_from-requires c = nodes_small c.requires.by_index.2

pub total-totals-requires : goal.total-totals-requires
total-totals-requires c =
    let S = counted c.count_survey.ensures.written c.count_survey.auto.numbers c.tally.ensures.tables.prepared.numbers_long c.tally.ensures.tables in
    let F = c.requires.by_index.2 in
    (S.prepared.flags_long, S.prepared.numbers_long, stands_by F c.nodes_from.ensures.begins, F.roomy.small)

pub returns : goal.returns
returns c =
    let P = c.requires.prepared in
    let d = c.args.d in
    let long = c.tally.ensures.tables.prepared.numbers_long in
    let S = counted c.count_survey.ensures.written c.count_survey.auto.numbers long c.tally.ensures.tables in
    let T = filled d P.flags_long P.numbers_long c.judge.ensures.written c.judge.auto.flags c.tally.ensures.written c.tally.auto.numbers in
    record {
      answer = λ left p F. tells c.nodes_from.ensures.accepted F c.args.st S (c.total-totals.ensures F.rest (at_by F c.nodes_from.ensures.begins));
      tables = S;
      written = filled_then T (counted_filled c.count_survey.ensures.written c.count_survey.auto.numbers long d d) d d (omega arith) (omega arith) (omega arith) (omega arith);
    }
