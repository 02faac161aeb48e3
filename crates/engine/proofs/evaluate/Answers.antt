-- What the formula says stands among the truths for the depth, what it names among the sets. Assumes nothing.
use Rattle.std.proofs.Common.{Bool, List, ap, ◌∙◌}
use Rattle.state.specs.Evaluated.{evaluated_by}
use Rattle.engine.proofs.evaluate.Goals as goal

pub returns : goal.returns
returns c =
    let q = c.args.q in
    let sets = c.args.sets.now in
    λ s numbers st J named h.
    c.evaluate.ensures
    ∙ ap (λ (t : List Bool). evaluated_by t sets q) c.truths_at.ensures
    ∙ (λ i. record { holds = J.truths_are q h i; names = named q h i })
