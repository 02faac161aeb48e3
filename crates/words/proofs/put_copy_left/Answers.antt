-- The copy is written before the nodes that stand there, the construct before both. Assumes nothing.
use Rattle.words.proofs.Moved.{copy_left}
use borrow.Author.Rules.{rules}
use Rattle.words.proofs.put_copy_left.Goals as goal

pub returns : goal.returns
returns c =
    copy_left _ _ _ _ _ _ _ _ c.copy_words.ensures c.put_node.ensures (search rules)
