-- A search for exactly these moves stands ready at the first configuration, with an index that says nothing yet; what it finds says
-- whether they are accepted. Assumes nothing.
use native.Mathlib.Omega.{arith}
use mathlib.Core.Path.{refl, ◌∙◌, ap}
use Rattle.sheet.specs.declared.Layout.{Layout}
use Rattle.sheet.proofs.Accepted.{laid}
use Rattle.engine.proofs.Tables.{blank}
use Rattle.explored.proofs.Recalling.{nothing_noted}
use Rattle.search.proofs.Reporting.{exactly_found}
use Rattle.search.proofs.accepts.Goals as goal

pub stand-requires-clause-flags_len : goal.stand-requires-clause-flags_len
stand-requires-clause-flags_len c = (refl, refl, blank)

pub explore-o-requires : goal.explore-o-requires
explore-o-requires c =
    let O = c.found.ensures.of in
    let e = ap (λ (l : Layout). l.d) O.layout_is in
    let f = laid _ O.accepted in
    (c.stand.ensures.stands, omega (arith, e), omega (arith, e, f.d), c.requires.1, nothing_noted c.args.s.now _ c.begin.ensures)

pub returns-clause-answer : goal.returns-clause-answer
returns-clause-answer c =
    let O = c.found.ensures.of in c.is_found.ensures ∙ exactly_found c.args.s.now c.args.history.now _ _ c.explore-o.result _ (ap (λ (l : Layout). l.d) O.layout_is)
    c.explore-o.ensures.answer
