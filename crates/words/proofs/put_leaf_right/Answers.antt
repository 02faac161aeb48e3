-- The record is written after the nodes that stand there, the construct before them. Assumes nothing.
use Rattle.words.proofs.Moved.{leaf_right}
use borrow.Author.Rules.{rules}
use Rattle.words.proofs.put_leaf_right.Goals as goal

pub returns : goal.returns
returns c =
    leaf_right _ _ _ _ _ _ _ c.put_node.ensures c.put_node-2.ensures (search rules)
