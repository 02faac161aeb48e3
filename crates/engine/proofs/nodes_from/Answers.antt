-- The words of a frame are those that were found. Assumes nothing.
use Rattle.std.proofs.Common.{arith}
use Rattle.engine.proofs.Frames.{frame_by}
use Rattle.engine.proofs.nodes_from.Goals as goal

pub overflow_mul-result : goal.overflow_mul-result
overflow_mul-result c = omega (arith, frame_by c.found.ensures.of c.args.d, c.requires)

pub overflow_add-result : goal.overflow_add-result
overflow_add-result c = omega (arith, frame_by c.found.ensures.of c.args.d, c.requires)

pub returns-clause-begins : goal.returns-clause-begins
returns-clause-begins c = omega (arith, frame_by c.found.ensures.of c.args.d)
