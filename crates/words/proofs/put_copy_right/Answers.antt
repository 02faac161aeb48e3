-- The copy is written after the nodes that stand there, the construct before them. Assumes nothing.
use Rattle.words.proofs.Moved.{copy_right}
use borrow.Author.Rules.{rules}
use Rattle.words.proofs.put_copy_right.Goals as goal

pub returns : goal.returns
returns c =
    copy_right _ _ _ _ _ _ _ _ c.copy_words.ensures c.put_node.ensures (search rules)
