use Prim.Native.Nat.{ℕ}
use Rattle.records.proofs.Fills.{Filled}
use Rattle.named.specs.Tables.{most_actions, action_set_in}
use Rattle.named.proofs.action_sets.Given as goal

abbrev pub invariant-loop-a : goal.invariant-loop-a
invariant-loop-a l = Filled 0 (action_set_in l.effects l.actions l.sets) (λ (v : ℕ). v) most_actions l.unions l.a
