-- The record is written before the nodes that stand there, the construct before both. Assumes nothing.
use Rattle.words.proofs.Moved.{leaf_left}
use borrow.Author.Rules.{rules}
use Rattle.words.proofs.put_leaf_left.Goals as goal

pub returns : goal.returns
returns c =
    leaf_left _ _ _ _ _ _ _ c.put_node.ensures c.put_node-2.ensures (search rules)
