-- One transition made: what the step lays out in the next frame is the transition at the cursor, its move is known, and the frame has room
-- for one fewer. Assumes nothing.
use Rattle.std.proofs.Common.{◌≡◌, ℕ, ◌+◌, ◌<◌, Bool, List, sym, refl, ap, ◌∙◌, subst, arith}
use mathlib.Core.Option.{Option}
use Rattle.std.proofs.Common.{Some}
use Rattle.std.specs.Prelude.{Ok, Err}
use Rattle.height.specs.Work.{header}
use Rattle.sheet.specs.Check.{Accepts}
use Rattle.golog.specs.declared.State.{State}
use Rattle.golog.specs.World.{after}
use Rattle.remaining.specs.Leaves.{RestTransition, rest_transitions}
use Rattle.demands.specs.Decoded.{world_of}
use Rattle.demands.specs.Compact.{extended_records}
use Rattle.demands.proofs.Compact.{all_lower}
use Rattle.words.proofs.Written.{kept_less}
use Rattle.leaves.specs.Running.{Running}
use Rattle.steps.specs.Laid.{sources_of, Built}
use Rattle.steps.specs.Stepped.{CanStep, Turn, Stepped, StepsRest}
use Rattle.steps.specs.declared.Laid.{Laid}
use Rattle.steps.specs.declared.Passed.{Passed}
use Rattle.steps.proofs.Nth.{nth_member}
use Rattle.engine.specs.Tables.{running_in, truths_at, finals_at, counts_at, Surveyed}
use Rattle.engine.specs.Frames.{frame_of, frame_at, nodes_at, KeptFrames}
use Rattle.engine.specs.Going.{Known, IsAction, move_of, MakesNext, CanGoOn}
use Rattle.engine.specs.Turns.{Turns}
use Rattle.engine.specs.declared.Cursor.{Cursor}
use Rattle.engine.specs.declared.Taken.{Taken}
use Rattle.engine.proofs.Codes.{decoded}
use Rattle.engine.proofs.Actions.{acts_known}
use Rattle.engine.proofs.Moves.{rest_known}
use Rattle.engine.proofs.Frames.{in_frame, step_room, next_frame}
use Rattle.engine.proofs.Going.{transition_of, listed_length, listed_nth, ahead_next}

-- the transition made, with the code e and the state st, at the cursor k
abbrev pub made_at : Cursor → (e : ℕ) → State → Taken
made_at k e st = record { entry = e; state = st; cursor = record { next = k.next + 1; end = k.end } }

module _ {s : List ℕ} {st : State} {d : ℕ} {flags : List Bool} {numbers : List ℕ} (S : Surveyed s st d flags numbers) where
  -- by the names that a step is asked by: tables, where it reads and where it writes
  module _
      (p : Running) (truths finals : List Bool) (counts : List ℕ) (a b : ℕ) (ep : p ≡ running_in s) (et : truths ≡ truths_at d flags) (ef : finals ≡ finals_at d flags)
      (ec : counts ≡ counts_at d numbers) (ea : a ≡ nodes_at s d) (eb : b ≡ frame_at s d + frame_of s + header) where
    pub asked : {w : List ℕ} {k : Cursor} → CanGoOn s st w d k → CanStep (sources_of p st.running truths counts) finals w a b
    asked {w} g =
        rw (ep, et, ef, ec, ea, eb)
        record {
          world = world_of s;
          state = st;
          tabled = S.tabled;
          rest = g.frame.rest;
          at = g.frame.words_are;
          within = g.frame.roomy.within;
          below = omega (arith, (in_frame g.frame).0);
          room = step_room g.frame;
        }

    pub turned :
        {w w' : List ℕ} {t : Turn} (k : Cursor)
        → StepsRest (sources_of p st.running truths counts) finals a k.next b w w' t → Turns s st d k w w' t
    turned {w} {w'} {t} k A g =
        (rw (ep, et, ef, ec, ea, eb) at A) (world_of s) st S.tabled g.frame.rest g.frame.words_are

module _
    {s w w' : List ℕ} {st : State} {d : ℕ} {k : Cursor} {t : Turn}
    (accepted : Accepts s) (A : Turns s st d k w w' t) (g : CanGoOn s st w d k) where
  pub step_kept : KeptFrames s d w w'
  step_kept = kept_less (frame_at s d + frame_of s) (frame_at s d + frame_of s + header) w w' (A g).kept (omega arith)

  -- below the number of transitions there is one
  pub none_left : (p : Passed) → t ≡ Err p → k.next < k.end → ⊥
  none_left p y l =
      let B = subst (Stepped (world_of s) st (extended_records s) g.frame.rest k.next (frame_at s d + frame_of s + header) w w') y (A g) in
      omega (arith, B.turned.0, listed_length accepted g.frame st, g.listed.end_is)

  module _ {z : Laid} (y : t ≡ Ok z) where
    built : Built (rest_transitions (world_of s) st (extended_records s) g.frame.rest) k.next (frame_at s d + frame_of s + header) z.entry z.size w'
    built = (subst (Stepped (world_of s) st (extended_records s) g.frame.rest k.next (frame_at s d + frame_of s + header) w w') y (A g)).turned

    known : Known (IsAction s) built.move
    known =
        rest_known (IsAction s) (world_of s) st (extended_records s) (all_lower s accepted) (acts_known s accepted) g.frame.rest (built.move, built.rest)
        (nth_member _ k.next built.nth)

    move_is : move_of z.entry ≡ built.move
    move_is = decoded s z.entry built.move known built.entry_is

    -- its move is a test, or one that the sheet has
    pub made_known : Known (IsAction s) (move_of z.entry)
    made_known = subst (Known (IsAction s)) (sym move_is) known

    -- with the state after it
    pub made_next :
        {st' : State}
        → st' ≡ after (world_of s) (move_of z.entry) st
        → MakesNext s (g.program, st) g.left w' (d + 1) (Some (made_at k z.entry st')) g.ahead
    made_next {st'} after-it =
        let x : RestTransition = (built.move, built.rest) in
        let first = ahead_next g.listed (transition_of s st x) (listed_nth accepted g.frame st k.next x built.nth) in
        subst (MakesNext s (g.program, st) g.left w' (d + 1) (Some (made_at k z.entry st'))) (sym first)
        record {
          move_is = move_is;
          known = known;
          state_is = after-it ∙ ap (λ (x : Option ℕ). after (world_of s) x st) move_is;
          frame = next_frame g.frame accepted (world_of s) st x w' (nth_member _ k.next built.nth) (A g).kept.len built.at;
          ahead = record { ahead_are = refl; end_is = g.listed.end_is };
        }
