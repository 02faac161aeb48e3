-- A table answers of each record. Assumes nothing.
use borrow.Author.Rules.{rules}
use Rattle.ends.proofs.Asking.{all_leaves, asked_all}
use Rattle.ends.proofs.final_rest.Goals as goal

pub final_by-requires : goal.final_by-requires
final_by-requires c = asked_all (λ i. search rules) c.requires

pub returns : goal.returns
returns c g h = c.final_by.ensures c.args.finals.now g h (all_leaves (λ i b p. search rules) g)
