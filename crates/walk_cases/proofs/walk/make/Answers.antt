-- While transitions are made from the cursor, those behind it go on with the same room (Making). Assumes nothing.
use mathlib.Core.Path.{refl, ◌∙◌}
use Rattle.walk_cases.proofs.Making.{next_goes_on, stands_if_made}
use Rattle.walk_cases.proofs.walk.make.Goals as goal

pub loop-init : goal.loop-init
loop-init c = ((λ g. (g, refl)), refl)

pub next-requires : goal.next-requires
next-requires c = (c.requires.0, (c.loop.invariant.0 c.requires.1).0)

pub next-requires-2 : goal.next-requires-2
next-requires-2 c = (c.requires.0, (c.loop.invariant.0 c.requires.1).0)

pub loop-preserved : goal.loop-preserved
loop-preserved c =
    let G = c.in_ok-cursor.ensures in
    ((λ g. let h = c.loop.invariant.0 g in (next_goes_on G h.0, h.1)), G.kept.len ∙ c.loop.invariant.1)

pub returns-clause-answer : goal.returns-clause-answer
returns-clause-answer c =
    let G = c.next-2.ensures in
    (λ g. let h = c.loop.invariant.0 g in stands_if_made _ G h.0 h.1)

pub returns-clause-places : goal.returns-clause-places
returns-clause-places c = c.next-2.ensures.kept.len ∙ c.loop.invariant.1
