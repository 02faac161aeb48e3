-- The program in the frame is asked by the table of what is final in the state. Assumes nothing.
use Rattle.std.proofs.Common.{Bool, List, refl, ap, ◌∙◌}
use Rattle.ends.specs.Ends.{final_by_table}
use Rattle.engine.proofs.Frames.{nodes_small, at_by, stands_by}
use Rattle.engine.proofs.Tables.{filled}
use Rattle.engine.proofs.Windows.{only_same}
use Rattle.engine.proofs.Telling.{final_told}
use Rattle.engine.proofs.is_final.Goals as goal

pub nodes_from-requires : goal.nodes_from-requires
nodes_from-requires c = nodes_small c.requires.by_index.2

pub final_rest-requires : goal.final_rest-requires
final_rest-requires c = stands_by c.requires.by_index.2 c.nodes_from.ensures.begins

pub returns-clause-answer : goal.returns-clause-answer
returns-clause-answer c =
    let J = c.judge.ensures.tables in
    λ left p F. c.final_rest.ensures F.rest (at_by F c.nodes_from.ensures.begins)
    ∙ ap (λ (l : List Bool). final_by_table l F.rest) c.finals_at.ensures
    ∙ final_told c.nodes_from.ensures.accepted F c.args.st J.finals_are

pub returns-clause-written : goal.returns-clause-written
returns-clause-written c =
    let P = c.requires.prepared in
    let d = c.args.d in
    let n = c.judge.auto.flags in
    filled d P.flags_long P.numbers_long c.judge.ensures.written n (only_same _) refl
