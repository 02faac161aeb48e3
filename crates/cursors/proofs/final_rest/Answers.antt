-- The sets answer of each leaf. Assumes nothing.
use borrow.Author.Rules.{rules}
use Rattle.cursors.proofs.Ending.{end_asked, end_leaves}
use Rattle.cursors.proofs.final_rest.Goals as goal

pub final_by-requires : goal.final_by-requires
final_by-requires c = end_asked c.requires (λ i l. search rules)

pub returns : goal.returns
returns c g h = c.final_by.ensures _ g h (end_leaves c.requires g h (λ i l b p. search rules))
