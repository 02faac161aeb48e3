-- Own vocabulary: the bounded search that a strategy makes, for any transition system: the guided search, but at the bound it asks only
-- whether there is a transition at all. Where nothing is asked it is the plain search, and under any guide it finds the plan that the guided
-- search does: proofs/Bounded.antt. And verdicts on rows of transitions, one after the other. Assumes nothing.
use Rattle.std.specs.Prelude.{ℕ, zero, suc, Bool, true, false, List}
use Rattle.std.proofs.Math.Option.{Option}
use Rattle.runs.specs.Search.{Verdict, plan, nothing, more, or_more, tries, any_transition, unless}
use Rattle.runs.specs.Guide.{Guide, guided_transitions, guided_final}

module _ {C : Type 0} (transitions : C → List (Option ℕ × C)) (final : C → Bool) where
  -- within k transitions from a configuration, under a guide
  abbrev pub verdict_within : ℕ → C × Guide → Verdict
  verdict_within zero c = unless (guided_final final c) (any_transition (transitions c.0))
  verdict_within (suc k) c = let r = tries (λ (d : C × Guide). verdict_within k d) (guided_transitions transitions c) in unless (guided_final final c) r

-- a verdict on earlier transitions, then one on later ones: the first plan, else what the two say together
abbrev pub join : Verdict → Verdict → Verdict
join (plan h t) r = plan h t
join nothing r = r
join more r = or_more r

-- what transitions without a plan leave: whether the bound ran out in any
abbrev pub flagged : Bool → Verdict
flagged true = more
flagged false = nothing
