-- Each place on the way is one that the links lead to, and lower than the one before. Assumes nothing.
use Rattle.index.proofs.Content.{head_linked, linked_next, linked_inside, located}
use Rattle.index.proofs.look.Goals as goal

pub loop-at-init : goal.loop-at-init
loop-at-init c = λ es S. head_linked _ es S _ c.requires.1 c.requires.2

pub has_key-requires : goal.has_key-requires
has_key-requires c = let (es, S) = c.requires.0 in linked_inside _ es S _ (c.loop-at.invariant es S) c.loop-at-test.true

pub returns-then-has_key : goal.returns-then-has_key
returns-then-has_key c = λ es S. located _ es S _ _ (c.loop-at.invariant es S) c.loop-at-test.true (c.has_key.ensures c.if-has_key.true)

pub loop-at-smaller : goal.loop-at-smaller
loop-at-smaller c = let (es, S) = c.requires.0 in (linked_next _ es S _ (c.loop-at.invariant es S) c.loop-at-test.true).1

pub loop-at-preserved : goal.loop-at-preserved
loop-at-preserved c = λ es S. (linked_next _ es S _ (c.loop-at.invariant es S) c.loop-at-test.true).0
