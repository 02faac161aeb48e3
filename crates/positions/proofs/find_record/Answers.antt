-- A way that leads to the record itself. Assumes nothing.
use mathlib.Core.Path.{◌∙◌, subst}
use Rattle.positions.specs.Found.{CanGo}
use Rattle.positions.proofs.Forking.{some_is}
use Rattle.positions.proofs.Finding.{can_start, further_none}
use Rattle.positions.proofs.find_record.Goals as goal

pub find_way-requires : goal.find_way-requires
find_way-requires c x q = subst (CanGo _) (some_is q) (can_start c.requires c.args.k)

pub returns : goal.returns
returns c = λ W s Q. further_none _ ∙ c.find_way.ensures W s Q
