-- What the index says of the visit, where it serves, is the verdict on it; else it is looked at. Assumes nothing.
use Rattle.search.specs.Moves.{guide_for}
use Rattle.search.proofs.Noting.{framed, passed_over}
use Rattle.search.proofs.see.Goals as goal

pub returns-in-Some : goal.returns-in-Some
returns-in-Some c =
    let p = c.requires in
    let a = c.args in
    let is = c.subject_of-c.ensures in
    rw c.unfound.ensures
    (passed_over is a.cut c.in-Some.more p.0 (λ g Y. rw c.in-Some.is at (c.recall.ensures (guide_for a.moves.now a.t.window) _ g p.2.known (framed is Y))))
