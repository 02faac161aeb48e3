-- A round of the index begins; what came of the visit to the first configuration is the verdict, by the laws of Starting. Assumes nothing.
use Rattle.search.proofs.Noting.{told_anew, still_lasting}
use Rattle.search.proofs.Starting.{at_first, on_first, stands_first}
use Rattle.search.proofs.explore.Goals as goal

pub search_from-o-requires : goal.search_from-o-requires
search_from-o-requires c =
    let p = c.requires in
    let a = c.args in (
      p.0.prepared,
      (_, at_first a.moves.now a.trace.now a.a c.next_round.result p.0 p.1 p.2 c.unwrap_or.ensures c.and.ensures c.initial_of.ensures),
      told_anew _ p.3 c.next_round.ensures p.4,
    )

pub returns-clause-answer : goal.returns-clause-answer
returns-clause-answer c =
    let p = c.requires in
    let a = c.args in
    on_first a.moves.now a.trace.now a.a _ p.0 p.1 p.2 c.unwrap_or.ensures c.and.ensures c.initial_of.ensures c.search_from-o.ensures.answer

pub returns-clause-stands : goal.returns-clause-stands
returns-clause-stands c =
    let p = c.requires in
    let a = c.args in
    stands_first a.moves.now a.trace.now a.a c.next_round.result p.0 p.1 p.2 c.unwrap_or.ensures c.and.ensures c.initial_of.ensures
    c.search_from-o.ensures.tables

pub returns-clause-index : goal.returns-clause-index
returns-clause-index c = still_lasting c.search_from-o.ensures.index
