-- To be believed: record i of each table, from the table's bytes (document 01, "The sheet, read from its end"). Assumes nothing.
use Rattle.std.specs.Prelude.{ℕ, ◌+◌, ◌*◌, ◌≤◌, ◌<◌, List, length, get_or}
use Rattle.records.specs.Bytes.{limit16, le16}
use Rattle.records.specs.declared.Fluent.{Fluent}
use Rattle.records.specs.declared.Formula.{Formula}
use Rattle.records.specs.declared.Effect.{Effect}
use Rattle.records.specs.declared.Action.{Action}
use Rattle.records.specs.declared.Program.{Program}

-- domain size; initial value
unfoldable pub fluent_at : List ℕ → ℕ → Fluent
fluent_at t i = record { size = get_or t (2 * i) 0; initial = get_or t (2 * i + 1) 0 }

-- kind, x (a byte each), a, b (u16)
unfoldable pub formula_at : List ℕ → ℕ → Formula
formula_at t i = record { kind = get_or t (6 * i) 0; x = get_or t (6 * i + 1) 0; a = le16 t (6 * i + 2); b = le16 t (6 * i + 4) }

-- condition (u16), fluent, value (a byte each)
unfoldable pub effect_at : List ℕ → ℕ → Effect
effect_at t i = record { condition = le16 t (4 * i); fluent = get_or t (4 * i + 2) 0; value = get_or t (4 * i + 3) 0 }

-- precondition, first effect, number of effects (u16)
unfoldable pub action_at : List ℕ → ℕ → Action
action_at t i = record { precondition = le16 t (6 * i); first = le16 t (6 * i + 2); count = le16 t (6 * i + 4) }

-- kind, a, b, c (u16)
unfoldable pub program_at : List ℕ → ℕ → Program
program_at t i = record { kind = le16 t (8 * i); a = le16 t (8 * i + 2); b = le16 t (8 * i + 4); c = le16 t (8 * i + 6) }

-- its a and b are two-byte numbers
pub record TwoBytes (r : Program) : Type 0 where
  pub a : r.a < limit16
  pub b : r.b < limit16

-- t holds n program records: some, and no more than document 01 allows
pub record ProgramTable (t : List ℕ) (n : ℕ) : Type 0 where
  pub long : 8 * n ≤ length t
  pub some_record : 1 ≤ n
  pub few : n ≤ 256
