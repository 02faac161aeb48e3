-- What is found under the key of a configuration is true of it, where it serves. Assumes nothing.
use Rattle.std.proofs.lemmas.Option.{IfSome_then}
use Rattle.explored.proofs.Recalling.{recalled}
use Rattle.explored.proofs.recall.Goals as goal

pub returns : goal.returns
returns c =
    λ guides k p N F. IfSome_then _ c.weigh.ensures
    (recalled (p, c.args.c.state) c.args.cut c.args.left _ N (c.in_ok-n.ensures.keyed k p F) c.in_ok-value.ensures)
