-- Own vocabulary: a key of a configuration of a sheet and a label: words of its remaining program, wherever they stand, and its state are
-- packed in it. One key is that of one configuration and one label: `keyed_same` of proofs/Same.antt. Assumes nothing.
use Rattle.std.specs.Prelude.{ℕ, ◌+◌, ◌/◌, ◌≡◌, List}
use Rattle.sheet.specs.Layout.{layout_of}
use Rattle.golog.specs.Transitions.{Configuration}
use Rattle.remaining.specs.Rest.{Rest, unfolded, nodes}
use Rattle.demands.specs.Compact.{extended_records}
use Rattle.words.specs.Words.{At}
use Rattle.keys.specs.Packed.{Packed}

-- the groups of eight values that hold a sheet's fluents
abbrev pub groups_of : List ℕ → ℕ
groups_of s = ((layout_of s).f + 7) / 8

pub record Keyed (s : List ℕ) (c : Configuration) (label : ℕ) (key : List ℕ) : Type 0 where
  pub words : List ℕ
  pub place : ℕ
  pub rest : Rest
  pub stands_for : unfolded (extended_records s) rest ≡ c.0
  pub words_are : At rest words place
  pub packed : Packed (groups_of s) c.1 words place (nodes rest) label key
