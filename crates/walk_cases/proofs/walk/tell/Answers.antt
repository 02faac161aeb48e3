-- What the survey tells of the configuration is told, its first cursor with it. Assumes nothing.
use Rattle.std.proofs.Common.{arith}
use Rattle.engine.proofs.Frames.{nodes_small, in_frame}
use Rattle.words.proofs.Standing.{nodes_pos}
use Rattle.walk_cases.proofs.walk.tell.Goals as goal

pub nodes_from-from-requires : goal.nodes_from-from-requires
nodes_from-from-requires g c = nodes_small c.requires.by_index.2

pub size_at-requires : goal.size_at-requires
size_at-requires g c =
    let F = c.requires.by_index.2 in
    omega (arith, c.nodes_from-from.ensures.begins, (in_frame F).0, (in_frame F).1, nodes_pos F.rest)

pub returns-clause-answer : goal.returns-clause-answer
returns-clause-answer g c = λ left p F. (c.survey-f.ensures.answer left p F).first
