-- A search starts ready: the first configuration stands in frame 0, with room for as many transitions as the bound. What is reported of the
-- visit to it is the verdict on it, and it still stands there afterwards. Assumes nothing.
use Rattle.std.specs.Prelude.{Option, Some, None, IfSome, unwrap_or}
use Rattle.std.specs.Option.{option_and}
use Prim.Native.Nat.{ℕ, ◌≤◌}
use native.Mathlib.Omega.{arith}
use mathlib.Core.Bool.{Bool}
use mathlib.Core.List.{List}
use mathlib.Core.Path.{◌≡◌, refl, ◌∙◌, ap₂, subst}
use lib.ListN.{length}
use Rattle.golog.specs.declared.State.{State}
use Rattle.runs.specs.Bounded.{join, flagged}
use Rattle.sheet.proofs.Accepted.{laid}
use Rattle.demands.specs.Decoded.{initial_of, first_of, bound_of}
use Rattle.engine.proofs.Frames.{frame_kept, frame_fewer}
use Rattle.search.specs.Outcome.{Reported}
use Rattle.runs.specs.Guide.{Guide}
use Rattle.search.specs.Moves.{guide_as, guide_at}
use Rattle.search.specs.Searching.{verdict_from, verdict_on, Standing, Ready, Preserves, Came}
use Rattle.search.specs.declared.Question.{Question}
use Rattle.search.specs.declared.Window.{Window}
use Rattle.search.specs.declared.Task.{Task}
use Rattle.search.specs.declared.Visit.{Visit}
use Rattle.search.specs.declared.Outcome.{Outcome}

-- before the first transition
abbrev pub starting : Question → Option ℕ → State → Visit
starting a given st = record { depth = 0; left = a.left; given = given; n = 0; state = st }

abbrev pub asked : Window → (round : ℕ) → Task
asked w r = record { window = w; round = r }

-- none of the moves is used
none_used : (n : ℕ) (w : Option Window) → IfSome (option_and w (Some 0)) (λ (used : ℕ). used ≤ n)
none_used n None = tt
none_used n (Some w) = omega arith

all_left : (moves : List ℕ) (w : Option Window) → guide_at moves (unwrap_or w (record { low = 0; high = 0 })) (option_and w (Some 0)) ≡ guide_as moves w
all_left moves None = refl
all_left moves (Some w) = refl

module _ (moves trace : List ℕ) (a : Question) (r : ℕ) {s w : List ℕ} {window : Window} {given : Option ℕ} {st : State} {flags : List Bool}
    {numbers : List ℕ} (S : Standing s w flags numbers) (l : a.left ≤ bound_of s) (m : a.left ≤ length trace)
    (window_is : window ≡ unwrap_or a.window (record { low = 0; high = 0 })) (given_is : given ≡ option_and a.window (Some 0)) (i : st ≡ initial_of s) where
  pub at_first : Ready s w moves (length trace) (asked window r) (starting a given st) (first_of s).0
  at_first =
      let f = laid s S.accepted in
      record {
        visited = record { accepted = S.accepted; frame = frame_fewer S.frame a.left l; used_up = rw given_is (none_used (length moves) a.window) };
        traced = omega arith;
        few = omega arith;
        deep = omega (arith, f.d);
      }

  -- what came of the visit to it
  pub on_first :
      {trace' : List ℕ} {o : Outcome} → Came s w moves trace trace' (asked window r) (starting a given st) a.cut o
      → Reported 0 0 trace trace' o (verdict_on s moves a)
  on_first {trace'} {o} C =
      let guide_is : guide_at moves window given ≡ guide_as moves a.window = ap₂ (guide_at moves) window_is given_is ∙ all_left moves a.window in
      subst (λ (g : Guide). Reported 0 0 trace trace' o (join (flagged a.cut) (verdict_from s a.left (first_of s, g)))) guide_is
      (subst (λ (x : State). Reported 0 0 trace trace' o (join (flagged a.cut) (verdict_from s a.left (((first_of s).0, x), guide_at moves window given)))) i (C _ at_first))

  pub stands_first : {w' : List ℕ} {flags' : List Bool} {numbers' : List ℕ} → Preserves s w w' (starting a given st) flags flags' numbers numbers' → Standing s w' flags' numbers'
  stands_first {w'} P = record { accepted = S.accepted; frame = frame_kept S.frame w' P.kept; prepared = P.prepared }
