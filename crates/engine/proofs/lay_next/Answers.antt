-- The step is asked what stands in the frame, with the tables of its state. Assumes nothing.
use Rattle.std.proofs.Common.{arith}
use Rattle.engine.proofs.Frames.{nodes_small, next_inside}
use Rattle.engine.proofs.Made.{asked, turned}
use Rattle.engine.proofs.lay_next.Goals as goal

pub nodes_from-at-requires : goal.nodes_from-at-requires
nodes_from-at-requires c = nodes_small c.requires.1.frame

pub overflow_add-at : goal.overflow_add-at
overflow_add-at c =
    let F = c.requires.1.frame in
    omega (arith, c.nodes_from-at.ensures.begins, next_inside F, F.roomy.small, c.found-found.ensures.of.frame_is)

pub step_rest-requires : goal.step_rest-requires
step_rest-requires c =
    let O = c.found-found.ensures.of in
    record {
      can_step = asked c.requires.0 _ _ _ _ _ _ c.programs_of-p.ensures.running c.truths_at.ensures c.finals_at.ensures c.counts_at.ensures
          c.nodes_from-at.ensures.begins (omega (arith, c.nodes_from-at.ensures.begins, O.frame_is)) c.requires.1;
    }

pub returns : goal.returns
returns c =
    let O = c.found-found.ensures.of in
    record {
      turns = turned c.requires.0 _ _ _ _ _ _ c.programs_of-p.ensures.running c.truths_at.ensures c.finals_at.ensures c.counts_at.ensures
          c.nodes_from-at.ensures.begins (omega (arith, c.nodes_from-at.ensures.begins, O.frame_is)) _ c.step_rest.ensures;
      accepted = O.accepted;
    }
