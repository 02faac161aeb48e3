-- What the sets and the distances say of a leaf fits a word. Assumes nothing.
use mathlib.Core.Path.{refl, ◌∙◌}
use native.Mathlib.Omega.{arith}
use Rattle.cursors.proofs.Ending.{as_count, count_reading, far_reading}
use Rattle.ends.proofs.Parts.{total_leaf}
use Rattle.cursors.proofs.total_of.Goals as goal

pub returns : goal.returns
returns c =
    let few = c.requires.1 in
    total_leaf _ _ _ refl refl
    (count_reading c.args.table.now few (c.from-count.ensures ∙ (as_count _).0) c.enabled_in.ensures) (omega (arith, c.from-count.ensures, as_count c.enabled_in.result))
    (far_reading c.args.distances.now few c.value_in-far.ensures) (omega arith) c.final_of.ensures c.new.ensures
