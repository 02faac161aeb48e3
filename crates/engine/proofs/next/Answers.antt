-- A spent cursor has none ahead of it; else the transition at the cursor is made, for there is one. Assumes nothing.
use Rattle.std.proofs.Common.{◌+◌, None, sym, refl, subst, arith}
use Rattle.sheet.specs.Layout.{layout_of}
use Rattle.demands.specs.Decoded.{world_of}
use Rattle.state.specs.Truths.{AreTruths}
use Rattle.words.proofs.Written.{kept_refl}
use Rattle.engine.specs.Going.{MakesNext}
use Rattle.engine.proofs.Going.{ahead_none}
use Rattle.engine.proofs.Made.{none_left, made_known, made_next, step_kept}
use Rattle.engine.proofs.next.Goals as goal

pub returns-then-k : goal.returns-then-k
returns-then-k c = record {
  makes = λ g. subst (MakesNext c.args.s.now (g.program, c.args.st) g.left c.args.work.now (c.args.d + 1) None) (sym (ahead_none g.listed c.if-k.true)) refl;
  kept = kept_refl _ _;
  falls = tt;
}

pub returns-in_default : goal.returns-in_default
returns-in_default c =
    let P = c.requires in
    absurd (none_left c.lay_next-turn.ensures.accepted c.lay_next-turn.ensures.turns P.1 _ c.in_default.is c.if-k.false)

pub state_after-state-requires : goal.state_after-state-requires
state_after-state-requires c =
    let P = c.requires in
    record {
      truths = subst (AreTruths (world_of c.args.s.now) c.args.st (layout_of c.args.s.now).q) (sym c.truths_at.ensures) P.0.truths_are;
      known = made_known c.lay_next-turn.ensures.accepted c.lay_next-turn.ensures.turns P.1 c.in-Ok.is;
    }

pub returns : goal.returns
returns c =
    let P = c.requires in
    let A = c.lay_next-turn.ensures.turns in
    record {
      makes = λ g. made_next c.lay_next-turn.ensures.accepted A g c.in-Ok.is c.state_after-state.ensures;
      kept = step_kept c.lay_next-turn.ensures.accepted A P.1;
      falls = omega (arith, c.if-k.false);
    }
