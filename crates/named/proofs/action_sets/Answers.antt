-- The loop fills the table upwards: what action a names is the definition's entry a; the places after it are 0.
-- Assumes nothing.
use mathlib.Core.Path.{◌∙◌, ap}
use mathlib.Core.List.{map-id}
use native.Mathlib.Nat.{le_antisymm}
use native.Mathlib.Omega.{arith}
use Rattle.records.proofs.Fills.{start, more}
use Rattle.named.specs.Tables.{action_set_by, action_sets_of}
use Rattle.named.proofs.action_sets.Goals as goal

pub loop-a-init : goal.loop-a-init
loop-a-init c = start _ _ _ _

pub loop-a-preserved : goal.loop-a-preserved
loop-a-preserved c =
    let by = action_set_by c.args.effects.now c.args.sets.now in
    more _ _ _ _ c.loop-a.invariant (omega arith) (c.action_set.ensures ∙ ap by c.action_at.ensures.record)

pub returns : goal.returns
unfolding action_sets_of
returns c = rw (le_antisymm c.loop-a-test.false c.loop-a.auto.a-end) (c.loop-a.invariant.same ∙ simp map-id)
