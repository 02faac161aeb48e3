-- Own vocabulary: the environments in which formulas hold in a state (document 02, F-6), as sets, one for each formula. Assumes nothing.
use Rattle.std.specs.Prelude.{ℕ, ◌≤◌, ◌<◌, ◌≡◌, List, ◌⊎◌}
use Rattle.records.specs.declared.Formula.{Formula}
use Rattle.records.specs.Records.{formula_at}
use Rattle.records.specs.Placeholders.{reading, read_in, environment_of}
use Rattle.kinds.specs.Formulas.{PartsLower}
use Rattle.sets.specs.Sets.{Has, set_at}
use Rattle.golog.specs.declared.State.{State}
use Rattle.golog.specs.World.{World, holds}
use Rattle.golog.specs.Written.{formula_read}

-- formula i of a sheet: its parts are lower, in 8 a is a placeholder, in 9 and 10 b is one and no more than 16 values are gone through
pub record Ruled (i : ℕ) (r : Formula) : Type 0 where
  pub lower : PartsLower i r
  pub named : r.kind ≡ 8 → r.a < 2
  pub bound : (r.kind ≡ 9) ⊎ (r.kind ≡ 10) → (r.x ≤ 16) × (r.b < 2)

-- so of the first n formulas of the table t
abbrev pub RuledFormulas : (t : List ℕ) (n : ℕ) → Type 0
RuledFormulas t n = (i : ℕ) → i < n → Ruled i (formula_at t i)

-- the formulas of a world are those of the table t, written out
abbrev pub WrittenFrom : (t : List ℕ) → World → Type 0
WrittenFrom t W = (n : ℕ) → W.formula n ≡ formula_read (environment_of n) (formula_at t (read_in n))

-- the set has the environments in which formula q holds
abbrev pub HoldsIn : World → State → (q : ℕ) (set : List ℕ) → Type 0
HoldsIn W s q set = Has (λ (e : ℕ). holds W (reading q e) s) set

-- so has the table for each of the first n formulas
abbrev pub AllHold : World → State → (n : ℕ) (table : List ℕ) → Type 0
AllHold W s n table = (q : ℕ) → q < n → HoldsIn W s q (set_at table q)
