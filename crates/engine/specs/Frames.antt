-- Own vocabulary: a frame: a remaining program in words, with room for those that follow it (document 01, "Work area").
-- Assumes nothing.
use Rattle.std.specs.Prelude.{◌≡◌, ℕ, ◌+◌, ◌*◌, ◌^◌, ◌<◌, ◌≤◌, List, length}
use Rattle.height.specs.Work.{header, frame_words}
use Rattle.golog.specs.Prog.{Prog}
use Rattle.remaining.specs.Rest.{Rest, unfolded, nodes, high}
use Rattle.demands.specs.Decoded.{bound_of, levels_of}
use Rattle.demands.specs.Compact.{extended_records}
use Rattle.words.specs.Words.{At, Kept}
use Rattle.ends.specs.Ends.{InTable}
use Rattle.engine.specs.Tables.{extended_size_of}

-- the words of a frame of a sheet
abbrev pub frame_of : List ℕ → ℕ
frame_of s = frame_words (levels_of s) (bound_of s)

-- where frame d begins, and where its nodes do
unfoldable pub frame_at : List ℕ → (d : ℕ) → ℕ
frame_at s d = d * frame_of s

abbrev pub nodes_at : List ℕ → (d : ℕ) → ℕ
nodes_at s d = frame_at s d + header

-- frame d may grow by what `left` transitions add to g, and as many frames follow it
pub record Roomy (s : List ℕ) (left : ℕ) (w : List ℕ) (d : ℕ) (g : Rest) : Type 0 where
  pub large : header + 3 * (nodes g + 2 * levels_of s * left) ≤ frame_of s
  pub inside : frame_at s d + frame_of s + frame_of s * left ≤ length w
  pub small : length w < 2 ^ 32
  pub high_is : high (extended_records s) g ≤ levels_of s
  pub within : InTable (extended_records s) (extended_size_of s) g

-- the remaining program p stands in frame d, with room for `left` transitions more
pub record Frame (s : List ℕ) (left : ℕ) (w : List ℕ) (d : ℕ) (p : Prog) : Type 0 where
  pub rest : Rest
  pub stands_for : unfolded (extended_records s) rest ≡ p
  pub words_are : At rest w (nodes_at s d)
  pub roomy : Roomy s left w d rest

-- the frames up to frame d are as they were
abbrev pub KeptFrames : (s : List ℕ) (d : ℕ) (w w' : List ℕ) → Type 0
KeptFrames s d w w' = Kept (frame_at s d + frame_of s) w w'
