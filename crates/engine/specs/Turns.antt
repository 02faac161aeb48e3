-- Own vocabulary: the transition at a cursor, laid out in words. Assumes nothing.
use Rattle.std.specs.Prelude.{ℕ, ◌+◌, List}
use Rattle.height.specs.Work.{header}
use Rattle.golog.specs.declared.State.{State}
use Rattle.demands.specs.Decoded.{world_of}
use Rattle.demands.specs.Compact.{extended_records}
use Rattle.steps.specs.Stepped.{Turn, Stepped}
use Rattle.engine.specs.Frames.{frame_of, frame_at}
use Rattle.engine.specs.Going.{CanGoOn}
use Rattle.engine.specs.declared.Cursor.{Cursor}

-- what it leaves stands in the frame after frame d, or it has none
abbrev pub Turns : (s : List ℕ) (st : State) (d : ℕ) (k : Cursor) (w w' : List ℕ) → Turn → Type 0
Turns s st d k w w' t = (g : CanGoOn s st w d k) → Stepped (world_of s) st (extended_records s) g.frame.rest k.next (frame_at s d + frame_of s + header) w w' t
