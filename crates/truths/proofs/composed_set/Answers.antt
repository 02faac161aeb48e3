-- Other kinds have no parts. Assumes nothing.
use Rattle.truths.proofs.composed_set.Goals as goal

pub returns-in_default : goal.returns-in_default
returns-in_default c says A B = c.atom_set.ensures says
