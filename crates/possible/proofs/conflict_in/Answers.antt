-- The closures say what holds in e, and which value is meant there. Assumes nothing.
use borrow.Author.Rules.{rules}
use Rattle.possible.proofs.Effects.{reads_in}
use Rattle.possible.proofs.conflict_in.Goals as goal

pub returns : goal.returns
returns c = c.conflict.ensures _ _ (reads_in c.args.e c.args.effects.now c.args.table.now c.requires.0.long (λ q b k. search rules) (λ v w k. search rules))
