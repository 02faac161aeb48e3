-- What was explored is noted under the key of its configuration. Assumes nothing.
use Rattle.explored.proofs.Recalling.{noted}
use Rattle.explored.proofs.note.Goals as goal

pub returns-in-Some : goal.returns-in-Some
returns-in-Some c =
    λ guides N E.
    let r = c.requires in
    noted (E.program, c.args.c.state) c.args.left c.args.flag r.3 r.4 (c.in-Some.ensures.keyed E.room E.program E.frame)
    E.claim (rw c.value_of.ensures.0 at c.note.ensures) N
