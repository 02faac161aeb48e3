-- Nothing is noted, or the value in a key's entry is written anew. Assumes nothing.
use Rattle.index.proofs.Changed.{notes_nothing, notes_anew}
use Rattle.index.proofs.Content.{located_inside}
use Rattle.index.proofs.note.Goals as goal

pub returns-then-key-ge-LENGTHS : goal.returns-then-key-ge-LENGTHS
returns-then-key-ge-LENGTHS c = notes_nothing _ _ _

pub returns-in_default : goal.returns-in_default
returns-in_default c = notes_nothing _ _ _

pub returns-in-Some-look : goal.returns-in-Some-look
returns-in-Some-look c =
    let (es, S) = c.requires.0 in
    notes_anew _ _ _ _ _ c.header.ensures c.requires.1 (located_inside _ es S _ _ (c.in-Some-look.ensures es S)).0 c.in-Some-look.ensures
