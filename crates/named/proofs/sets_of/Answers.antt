-- The loop fills the table upwards: what formula i names by the places filled so far is the definition's entry i; the places after it are 0.
-- Assumes nothing.
use mathlib.Core.Path.{◌∙◌}
use mathlib.Core.List.{map-id}
use native.Mathlib.Nat.{le_antisymm}
use native.Mathlib.Omega.{arith}
use Rattle.records.proofs.Fills.{start, at, more}
use Rattle.kinds.proofs.Names.{set_same}
use Rattle.named.specs.Tables.{sets_of}
use Rattle.named.proofs.sets_of.Goals as goal

pub loop-i-init : goal.loop-i-init
loop-i-init c = start _ _ _ _

pub loop-i-preserved : goal.loop-i-preserved
loop-i-preserved c =
    let b = c.loop-i.invariant in
    more _ _ _ _ b (omega arith) (c.names_at.ensures ∙ set_same _ _ (c.requires.2 _ (omega arith)) _ _ (λ a l. at _ _ _ _ b a))

pub returns : goal.returns
unfolding sets_of
returns c = rw (le_antisymm c.loop-i-test.false c.loop-i.auto.i-end) (c.loop-i.invariant.same ∙ simp map-id)
