-- The part is the window. Assumes nothing.
use Rattle.std.proofs.Common.{◌+◌, arith}
use Rattle.engine.specs.Tables.{truths_from}
use Rattle.engine.proofs.Windows.{window_at}
use Rattle.engine.proofs.truths_at.Goals as goal

pub returns : goal.returns
returns c =
    let x = c.flags_from-from.result in
    window_at x (truths_from c.args.d) (x + 512) 512 c.args.flags.now c.flags_from-from.ensures.0 (omega arith)
