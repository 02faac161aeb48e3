-- Own vocabulary: going through a configuration's transitions in listed order, from a cursor on: what strategies know of the engine.
-- Assumes nothing.
use Rattle.std.specs.Prelude.{◌≡◌, ℕ, suc, ◌+◌, ◌-◌, ◌<◌, ◌≤◌, Bool, cond, List, [], ◌∷◌, length, drop, ◌==◌, Option, IsNone, IsSomeAnd, IfSome}
use mathlib.Core.List.{Memᴰ}
use Rattle.std.proofs.Math.Option as maybe
use Rattle.std.proofs.Math.Option.{none, some}
use Rattle.records.specs.Bytes.{limit16}
use Rattle.golog.specs.declared.State.{State}
use Rattle.sheet.specs.Layout.{layout_of}
use Rattle.golog.specs.World.{start}
use Rattle.golog.specs.Transitions.{Configuration, Transition}
use Rattle.golog.specs.Prog.{Prog}
use Rattle.golog.specs.Distance.{distance}
use Rattle.demands.specs.Decoded.{world_of}
use Rattle.demands.specs.Planning.{transitions_in, is_final_in}
use Rattle.steps.specs.Laid.{test_code}
use Rattle.engine.specs.Frames.{Frame, KeptFrames}
use Rattle.engine.specs.declared.Cursor.{Cursor}
use Rattle.engine.specs.declared.Findings.{Findings}
use Rattle.engine.specs.declared.Taken.{Taken}

-- document 01, "Steps and endings": the transitions of a configuration of the sheet s, in listed order
abbrev pub transitions_of : List ℕ → Configuration → List Transition
transitions_of s c = transitions_in (world_of s) c

-- and whether it is final
abbrev pub is_final : List ℕ → Configuration → Bool
is_final s c = is_final_in (world_of s) c

-- from the cursor on, the transitions of c are xs
pub record Ahead (s : List ℕ) (c : Configuration) (k : Cursor) (xs : List Transition) : Type 0 where
  pub ahead_are : xs ≡ drop k.next (transitions_of s c)
  pub end_is : k.end ≡ length (transitions_of s c)

-- what a survey tells of c: whether it is final, the first cursor, and how far it is from its end at least by way of any transition, that
-- one counted
pub record Tells (s : List ℕ) (c : Configuration) (r : Findings) : Type 0 where
  pub final_is : r.done ≡ is_final s c
  pub first : Ahead s c r.first (transitions_of s c)
  pub far : (x : Transition) → Memᴰ x (transitions_of s c) → r.soon ≤ suc (distance x.1.0)

-- a test, or a move that has K
abbrev pub Known : (ℕ → Type 0) → maybe.Option ℕ → Type 0
Known K none = Unit {0}
Known K (some a) = K a

-- an action of the sheet, start or stop
abbrev pub IsAction : List ℕ → ℕ → Type 0
IsAction s a = (a < limit16) × (a < start → a < (layout_of s).a)

-- the move of a transition by its code: none where it is a test, else the action
abbrev pub move_of : ℕ → maybe.Option ℕ
move_of entry = cond (entry == test_code) none (some entry)

-- the transition x was made into frame d, as r tells, and from the cursor after it the transitions are ys
pub record MadeNext (s : List ℕ) (c : Configuration) (left : ℕ) (w : List ℕ) (d : ℕ) (r : Taken) (x : Transition) (ys : List Transition) : Type 0 where
  pub move_is : move_of r.entry ≡ x.0
  pub known : Known (IsAction s) x.0
  pub state_is : r.state ≡ x.1.1
  pub frame : Frame s left w d x.1.0
  pub ahead : Ahead s c r.cursor ys

-- the next of the transitions xs, or that there is none
abbrev pub MakesNext : List ℕ → Configuration → (left : ℕ) → (w : List ℕ) → (d : ℕ) → Option Taken → List Transition → Type 0
MakesNext s c left w d r [] = IsNone r
MakesNext s c left w d r (x ∷ ys) = IsSomeAnd r (λ t. MadeNext s c left w d t x ys)

-- a remaining program in frame d, with room for a transition, and in the state st its transitions from the cursor on
pub record CanGoOn (s : List ℕ) (st : State) (w : List ℕ) (d : ℕ) (k : Cursor) : Type 0 where
  pub left : ℕ
  pub program : Prog
  pub ahead : List Transition
  pub frame : Frame s (suc left) w d program
  pub listed : Ahead s (program, st) k ahead

-- no more than so many transitions are made from a cursor on
abbrev pub ahead_of : Cursor → ℕ
ahead_of k = k.end - k.next

-- the next transition from the cursor on was made into the frame after frame d, if there is one; frames up to that are kept
pub record GoesOn (s : List ℕ) (st : State) (d : ℕ) (k : Cursor) (w w' : List ℕ) (r : Option Taken) : Type 0 where
  pub makes : (g : CanGoOn s st w d k) → MakesNext s (g.program, st) g.left w' (d + 1) r g.ahead
  pub kept : KeptFrames s d w w'
  pub falls : IfSome r (λ t. ahead_of t.cursor < ahead_of k)
