-- Own vocabulary: a record that can be read in an environment. Assumes nothing.
use Rattle.std.specs.Prelude.{ℕ, ◌^◌, ◌<◌, T}
use Rattle.records.specs.declared.Program.{Program}
use Rattle.records.specs.Bytes.{limit16}
use Rattle.records.specs.Placeholders.{environments}
use Rattle.kinds.specs.Programs.{has_condition}

-- its fields are small; so are the environment and the number of values that are listed
pub record Readable (r : Program) (e span : ℕ) : Type 0 where
  pub a : r.a < limit16
  pub b : r.b < limit16
  pub c : T (has_condition r.kind) → r.c < limit16
  pub environment : e < environments
  pub few : span < 2 ^ 32
