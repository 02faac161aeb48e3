-- The loop lays the nodes into one word after the other, and has tested these. Assumes nothing.
use Rattle.keys.proofs.Written.{coded_all}
use native.Mathlib.Omega.{arith}
use Rattle.keys.proofs.write.Goals as goal

pub returns-clause-whole : goal.returns-clause-whole
returns-clause-whole g c = λ e. coded_all _ c.args.work.now c.args.from c.args.n (λ k h. c.loop-k.invariant.3 e k (omega arith))
