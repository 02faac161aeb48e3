-- After a transition is made from a cursor, what it leaves stands in the next frame, and the transitions go on from the cursor after it,
-- with the same room. Assumes nothing.
use Prim.Native.Nat.{ℕ, suc, ◌+◌, ◌-◌, ◌≤◌}
use native.Mathlib.Omega.{arith}
use mathlib.Core.Bool.{true≢false}
use mathlib.Core.List.{List, [], ◌∷◌}
use mathlib.Core.Path.{◌≡◌, subst}
use Rattle.std.specs.Prelude.{Option, None, Some, IfSome}
use Rattle.golog.specs.declared.State.{State}
use Rattle.golog.specs.Prog.{Prog}
use Rattle.golog.specs.Transitions.{Configuration, Transition}
use Rattle.engine.specs.Frames.{Frame}
use Rattle.engine.specs.Going.{MadeNext, MakesNext, Ahead, CanGoOn, GoesOn, transitions_of}
use Rattle.engine.specs.declared.Cursor.{Cursor}
use Rattle.engine.specs.declared.Taken.{Taken}
use Rattle.engine.proofs.Frames.{frame_kept}

-- one of the transitions was made
pub record MadeOne (s : List ℕ) (c : Configuration) (left : ℕ) (w : List ℕ) (d : ℕ) (t : Taken) : Type 0 where
  pub step : Transition
  pub others : List Transition
  pub made : MadeNext s c left w d t step others

made_one :
    {s : List ℕ} {c : Configuration} {left : ℕ} {w : List ℕ} {d : ℕ} {t : Taken} (xs : List Transition)
    → MakesNext s c left w d (Some t) xs
    → MadeOne s c left w d t
made_one [] none = absurd (true≢false none)
made_one (x ∷ ys) M = record { step = x; others = ys; made = M }

module _
    {s w w' : List ℕ} {st : State} {d : ℕ} {k : Cursor} {t : Taken}
    (G : GoesOn s st d k w w' (Some t)) (g : CanGoOn s st w d k) where
  pub one : MadeOne s (g.program, st) g.left w' (d + 1) t
  one = made_one g.ahead (G.makes g)

  -- what it leaves stands in the next frame
  pub next_stands : {left : ℕ} → g.left ≡ left → (p : Prog) × Frame s left w' (d + 1) p
  next_stands l = let p = one.step.1.0 in (p, subst (λ (n : ℕ). Frame s n w' (d + 1) p) l one.made.frame)

  -- the transitions behind it go on
  abbrev pub next_goes_on : CanGoOn s st w' d t.cursor
  next_goes_on = record {
    left = g.left;
    program = g.program;
    ahead = one.others;
    frame = frame_kept g.frame w' G.kept;
    listed = one.made.ahead;
  }

pub stands_if_made :
    {s w w' : List ℕ} {st : State} {d left : ℕ} {k : Cursor} (r : Option Taken)
    → GoesOn s st d k w w' r → (g : CanGoOn s st w d k) → g.left ≡ left → IfSome r (λ t. (p : Prog) × Frame s left w' (d + 1) p)
stands_if_made None G g l = tt
stands_if_made (Some t) G g l = next_stands G g l

-- where there is room for a transition, the transitions go on from a configuration's first cursor
module _
    {s w : List ℕ} {left d : ℕ} {p : Prog} {st : State} {k : Cursor}
    (F : Frame s left w d p) (l : 1 ≤ left) (A : Ahead s (p, st) k (transitions_of s (p, st))) where
  pub one_left : Frame s (suc (left - 1)) w d p
  one_left = subst (λ (n : ℕ). Frame s n w d p) (omega arith) F

  abbrev pub first_goes_on : CanGoOn s st w d k
  first_goes_on = record { left = left - 1; program = p; ahead = transitions_of s (p, st); frame = one_left; listed = A }
