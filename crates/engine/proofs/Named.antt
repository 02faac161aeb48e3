-- The sets that are made once of a sheet are those of its formulas and actions: preconditions and conditions are among the formulas.
-- Assumes nothing.
use Rattle.std.proofs.Common.{◌≡◌, ℕ, ◌<◌, Bool, List, sym, ◌∙◌, subst, arith, le-ltb}
use Rattle.named.specs.Tables.{sets_of, action_sets_of, Ranged}
use Rattle.named.proofs.Tables.{sets_are, action_sets_are}
use Rattle.sheet.specs.Layout.{layout_of, formulas_in, effects_in, actions_in}
use Rattle.sheet.specs.Check.{Accepts}
use Rattle.sheet.specs.declared.Layout.{Layout}
use Rattle.sheet.proofs.Accepted.{laid}
use Rattle.sheet.proofs.Lower.{lower_formulas, action_of}
use Rattle.golog.specs.declared.State.{State}
use Rattle.golog.specs.World.{says_in}
use Rattle.demands.specs.Decoded.{world_of}
use Rattle.state.specs.Truths.{said_by}
use Rattle.state.specs.Evaluated.{possibility_by}
use Rattle.state.proofs.Noting.{allowed_marked}
use Rattle.state.proofs.Performed.{possible_same}
use Rattle.engine.specs.Tables.{truths_at, Judged, ConflictOf}
use Rattle.engine.specs.Evaluated.{FormulasNamed, ActionsNamed, possibility}
use Rattle.engine.proofs.Actions.{conditions_below, inside_range}
use Rattle.engine.proofs.Conflicting.{listed_at}

module _ (s : List ℕ) (accepted : Accepts s) where
  abbrev l : Layout
  l = layout_of s

  -- what is asked before they are made
  pub ranged : Ranged (effects_in s l) (actions_in s l) l.a
  ranged a h = let (small, p) = listed_at s accepted a h in (p.known (omega arith), p.range (omega arith))

  -- what they are
  pub formulas_named : {sets : List ℕ} → sets ≡ sets_of (formulas_in s l) l.q → FormulasNamed s sets
  formulas_named e = subst (FormulasNamed s) (sym e) (sets_are (formulas_in s l) l.q (lower_formulas s accepted))

  pub actions_named :
      (sets : List ℕ) → FormulasNamed s sets → {unions : List ℕ} → unions ≡ action_sets_of (effects_in s l) (actions_in s l) sets l.a → ActionsNamed s unions
  actions_named sets are e =
      subst (ActionsNamed s) (sym e)
      (action_sets_are (world_of s).formula l.q sets are (effects_in s l) (actions_in s l) l.a
      (λ a h. (action_of s accepted a h).0) (λ a h i (x, y). conditions_below s accepted a h i x y))

-- in a state that was judged, what a possible-check answers
module _ {s : List ℕ} (accepted : Accepts s) {st : State} {d : ℕ} {flags : List Bool} {numbers : List ℕ} (J : Judged s st d flags numbers) where
  pub possibility_told :
      (a : ℕ) (conflicted : List Bool) (sets : List ℕ) → a < (layout_of s).a → ConflictOf s (truths_at d flags) a conflicted → ActionsNamed s sets
      → possibility_by (actions_in s (layout_of s)) (truths_at d flags) conflicted sets a ≡ possibility s st a
  possibility_told a conflicted sets h e named =
      let allowed = allowed_marked (world_of s).size (effects_in s (layout_of s)) (actions_in s (layout_of s)) (truths_at d flags) conflicted a
      (inside_range s accepted a h (said_by (truths_at d flags))) (λ t. e ∙ t) (λ t. sym e ∙ t) in
      let same = possible_same _ _ (said_by (truths_at d flags)) (says_in (world_of s) st) _ J.truths_are (world_of s).size a (action_of s accepted a h).0 (conditions_below s accepted a h) in
      let small = le-ltb 65533 a (omega (arith, (laid s accepted).a)) in
      let set = named a h in
      rw small (λ i. record { possible = (rw small at (allowed ∙ same)) i; names = set i })
