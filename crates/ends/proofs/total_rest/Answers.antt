-- The tables answer of each record. Assumes nothing.
use borrow.Author.Rules.{rules}
use Rattle.ends.proofs.Asking.{all_leaves, asked_all}
use Rattle.ends.proofs.total_rest.Goals as goal

pub total_by-requires : goal.total_by-requires
total_by-requires c = record {
  told = (c.args.finals.now, c.args.distances.now, c.args.counts.now, asked_all (λ i. (search rules, λ t p. search rules)) c.requires.stands);
  work_len_bound = c.requires.work_len_bound;
}

pub returns : goal.returns
returns c g h = c.total_by.ensures c.args.finals.now c.args.distances.now c.args.counts.now g h (all_leaves (λ i t p. search rules) g)
