-- The sets and the distances answer of each leaf. Assumes nothing.
use borrow.Author.Rules.{rules}
use Rattle.cursors.specs.Ended.{finals_in, counts_in, distances_in}
use Rattle.cursors.proofs.Ending.{end_asked, end_leaves}
use Rattle.cursors.proofs.total_rest.Goals as goal

pub total_by-requires-clause-told : goal.total_by-requires-clause-told
total_by-requires-clause-told c =
    (finals_in c.args.table.now, distances_in c.args.distances.now, counts_in c.args.table.now, end_asked c.requires.can_end (λ i l. (search rules, λ t p. search rules)))

pub returns : goal.returns
returns c g h = c.total_by.ensures _ _ _ g h (end_leaves c.requires.can_end g h (λ i l t p. search rules))
