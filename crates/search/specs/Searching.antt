-- Own vocabulary: what the functions of the search ask and answer, over the engine's face. Assumes nothing.
use Rattle.std.specs.Prelude.{ℕ, ◌+◌, ◌-◌, ◌≤◌, Bool, false, List, ◌≡◌, length, IfSome, Result, Ok, Err}
use Rattle.golog.specs.Prog.{Prog}
use Rattle.golog.specs.Transitions.{Configuration, Transition}
use Rattle.runs.specs.Search.{Verdict, tries}
use Rattle.runs.specs.Guide.{Guide, follow}
use Rattle.runs.specs.Bounded.{verdict_within, join, flagged}
use Rattle.demands.specs.Decoded.{world_of, first_of, bound_of}
use Rattle.demands.specs.Planning.{transitions_in, is_final_in}
use Rattle.engine.specs.Tables.{Prepared, Surveyed, Filled}
use Rattle.sheet.specs.Check.{Accepts}
use Rattle.engine.specs.Frames.{Frame, KeptFrames}
use Rattle.engine.specs.Going.{transitions_of, Ahead, move_of}
use Rattle.explored.specs.Known.{Known}
use Rattle.engine.specs.declared.Cursor.{Cursor}
use Rattle.engine.specs.declared.Taken.{Taken}
use Rattle.search.specs.Outcome.{Reported, is_found, is_more}
use Rattle.search.specs.Moves.{guide_as, guide_at, guide_for, left_over, entries}
use Rattle.search.specs.declared.Question.{Question}
use Rattle.search.specs.declared.Task.{Task}
use Rattle.search.specs.declared.Visit.{Visit}
use Rattle.search.specs.declared.Outcome.{Outcome}

-- the verdict on a configuration of the sheet s, under a guide
abbrev pub verdict_from : List ℕ → (left : ℕ) → Configuration × Guide → Verdict
verdict_from s left c = verdict_within (transitions_in (world_of s)) (is_final_in (world_of s)) left c

-- the verdict on some of its transitions, `left` being left before them
abbrev pub branches_of : List ℕ → (left : ℕ) → Guide → List Transition → Verdict
branches_of s left g xs = tries (λ (d : Configuration × Guide). verdict_from s (left - 1) d) (follow g xs)

-- the verdict on the first configuration, as it is asked
abbrev pub verdict_on : List ℕ → (moves : List ℕ) → Question → Verdict
verdict_on s moves a = join (flagged a.cut) (verdict_from s a.left (first_of s, guide_as moves a.window))

-- a search stands at the first configuration: its program in frame 0, and in the tables what is told once of the sheet
pub record Standing (s w : List ℕ) (flags : List Bool) (numbers : List ℕ) : Type 0 where
  pub accepted : Accepts s
  pub frame : Frame s (bound_of s) w 0 (first_of s).0
  pub prepared : Prepared s flags numbers

-- a visit to the configuration of the remaining program p: it stands in the frame of its depth, and given moves are made up to there
pub record Visited (s w moves : List ℕ) (t : Task) (q : Visit) (p : Prog) : Type 0 where
  pub accepted : Accepts s
  pub frame : Frame s q.left w q.depth p
  pub used_up : IfSome q.given (λ used. used ≤ length moves)

-- and there is room for what may follow: in the trace, and within the largest bound
pub record Ready (s w moves : List ℕ) (trace : ℕ) (t : Task) (q : Visit) (p : Prog) : Type 0 where
  pub visited : Visited s w moves t q p
  pub traced : q.n + q.left ≤ trace
  pub few : q.n ≤ q.depth
  pub deep : q.depth + q.left ≤ 64

-- the configuration visited, and what is left of the guide
abbrev pub configured : Visit → Prog → Configuration
configured q p = (p, q.state)

abbrev pub guide_of : List ℕ → Task → Visit → Guide
guide_of moves t q = guide_at moves t.window q.given

-- the verdict on it, beside whether the bound ran out in some run before
abbrev pub verdict_at : List ℕ → List ℕ → Task → Visit → (cut : Bool) → Prog → Verdict
verdict_at s moves t q cut p = join (flagged cut) (verdict_from s q.left (configured q p, guide_of moves t q))

-- the verdict on its transitions xs, beside that
abbrev pub branches_at : List ℕ → List ℕ → Task → Visit → (cut : Bool) → List Transition → Verdict
branches_at s moves t q cut xs = join (flagged cut) (branches_of s q.left (guide_of moves t q) xs)

-- the index is true for what the search asks
pub record Told (s moves : List ℕ) (t : Task) (index : List ℕ) : Type 0 where
  pub few : length moves ≤ 64
  pub known : Known s (guide_for moves t.window) t.round index

-- a visit was searched on from: the verdict on it, where that is no plan, is what the outcome tells
pub record SearchedAs (s w moves : List ℕ) (t : Task) (q : Visit) (cut : Bool) (o : Outcome) : Type 0 where
  pub program : Prog
  pub visited : Visited s w moves t q program
  pub few_left : q.left ≤ 64
  pub tells : is_found o ≡ false → verdict_at s moves t q cut program ≡ flagged (is_more o)

-- the verdict is that on all transitions, which are ahead of the cursor
pub record Unknown (s moves : List ℕ) (t : Task) (q : Visit) (cut : Bool) (p : Prog) (flags : List Bool) (numbers : List ℕ) (k : Cursor) : Type 0 where
  pub some_left : 1 ≤ q.left
  pub surveyed : Surveyed s q.state q.depth flags numbers
  pub first : Ahead s (configured q p) k (transitions_of s (configured q p))
  pub same : verdict_at s moves t q cut p ≡ branches_at s moves t q cut (transitions_of s (configured q p))

-- what is told of a visit without a transition: the outcome, or the first cursor
abbrev pub Says : (s moves : List ℕ) (t : Task) (q : Visit) (cut : Bool) (p : Prog) (flags : List Bool) (numbers : List ℕ) → Result Cursor Outcome → Type 0
Says s moves t q cut p flags numbers (Err o) = (h : List ℕ) → Reported q.n q.depth h h o (verdict_at s moves t q cut p)
Says s moves t q cut p flags numbers (Ok k) = Unknown s moves t q cut p flags numbers k

pub record LookedAt (s w moves : List ℕ) (t : Task) (q : Visit) (cut : Bool) (flags flags' : List Bool) (numbers numbers' : List ℕ) (r : Result Cursor Outcome) : Type 0 where
  pub prepared : Prepared s flags' numbers'
  pub filled : Filled q.depth q.depth flags flags' numbers numbers'
  pub says : (p : Prog) → Visited s w moves t q p → Says s moves t q cut p flags' numbers' r

-- a visit with the tables of its state, and the transitions that are ahead of a cursor
pub record Going (s w moves : List ℕ) (trace : ℕ) (t : Task) (q : Visit) (k : Cursor) (flags : List Bool) (numbers : List ℕ) : Type 0 where
  pub program : Prog
  pub ready : Ready s w moves trace t q program
  pub some_left : 1 ≤ q.left
  pub surveyed : Surveyed s q.state q.depth flags numbers
  pub ahead : List Transition
  pub listed : Ahead s (configured q program) k ahead

-- what stands is kept: the frames up to a visit's own, what is told of the sheet, and the tables for lesser depths, unless sets are too few
pub record Preserves (s w w' : List ℕ) (q : Visit) (flags flags' : List Bool) (numbers numbers' : List ℕ) : Type 0 where
  pub kept : KeptFrames s q.depth w w'
  pub prepared : Prepared s flags' numbers'
  pub filled : Filled q.depth (q.depth + q.left) flags flags' numbers numbers'

-- the verdict on the transitions ahead of the cursor is reported
abbrev pub Expanded : (s w moves trace trace' : List ℕ) (t : Task) (q : Visit) (cut : Bool) (k : Cursor) (flags : List Bool) (numbers : List ℕ) → Outcome → Type 0
Expanded s w moves trace trace' t q cut k flags numbers o =
    (g : Going s w moves (length trace) t q k flags numbers) → Reported q.n q.depth trace trace' o (branches_at s moves t q cut g.ahead)

-- the verdict on the visit is reported
abbrev pub Came : (s w moves trace trace' : List ℕ) (t : Task) (q : Visit) (cut : Bool) → Outcome → Type 0
Came s w moves trace trace' t q cut o = (p : Prog) → Ready s w moves (length trace) t q p → Reported q.n q.depth trace trace' o (verdict_at s moves t q cut p)

-- the visit v that the transition x of the visit q leads to
pub record Follows (moves : List ℕ) (q : Visit) (x : Taken) (v : Visit) : Type 0 where
  pub depth_is : v.depth ≡ q.depth + 1
  pub left_is : v.left ≡ q.left - 1
  pub used_up : IfSome v.given (λ used. used ≤ length moves)
  pub guide_is : (t : Task) → guide_of moves t v ≡ left_over (guide_of moves t q) (move_of x.entry)
  pub moves_are : v.n ≡ q.n + entries (move_of x.entry)
  pub one_more : v.n ≤ q.n + 1
  pub state_is : v.state ≡ x.state
