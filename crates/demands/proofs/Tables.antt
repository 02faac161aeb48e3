-- Sheets with the same tables have the same world, the same program and the same first configuration; of the fluents' table the world reads
-- the domain sizes alone. Assumes nothing.
use mathlib.Core.Path.{◌≡◌}
use mathlib.Core.List.{List}
use Prim.Native.Nat.{ℕ, ◌-◌}
use Rattle.records.specs.Records.{fluent_at, formula_at, effect_at, action_at, program_at}
use Rattle.height.specs.Height.{interrupts}
use Rattle.sheet.specs.Layout.{layout_of, fluents_in}
use Rattle.sheet.proofs.Tables.{SameRest, SameTables, sizes_same}
use Rattle.golog.specs.Prog.{program_of, started}
use Rattle.demands.specs.Decoded.{world_of, records_of, interrupts_in, starting_with, first_of}

-- the same domain sizes, formulas, effects and actions
pub world_same :
    {s s' : List ℕ} → SameRest s s' → ((x : ℕ) → (fluent_at (fluents_in s' (layout_of s')) x).size ≡ (fluent_at (fluents_in s (layout_of s)) x).size)
    → world_of s' ≡ world_of s
world_same same sizes = λ i. record {
  size = λ (x : ℕ). sizes x i;
  formula = formula_at (same.formulas i);
  effect = effect_at (same.effects i);
  action = action_at (same.actions i);
}

-- of sheets with the same fluents too
pub all_same : {s s' : List ℕ} → SameTables s s' → world_of s' ≡ world_of s
all_same same = world_same same.rest (sizes_same same).sizes

module _ {s s' : List ℕ} (same : SameRest s s') where
  -- the same program records, so the same interrupts and the same program at the start
  pub records_same : records_of s' ≡ records_of s
  records_same = λ i. program_at (same.programs i)

  pub interrupts_same : interrupts_in s' ≡ interrupts_in s
  interrupts_same = λ i. interrupts (records_same i) (same.p i)

  pub program_same : (first_of s').0 ≡ (first_of s).0
  program_same = λ i. started (interrupts_same i) (program_of (records_same i) (same.p i - 1))

-- with the same fluents too, the same first configuration
pub first_same : {s s' : List ℕ} → SameTables s s' → first_of s' ≡ first_of s
first_same same = λ i. (program_same same.rest i, starting_with (same.fluents i) (same.rest.f i))
