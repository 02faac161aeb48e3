-- Own vocabulary: what is known of the range that is performed. Assumes nothing.
use Rattle.std.specs.Prelude.{ℕ, ◌+◌, ◌*◌, ◌≤◌, List, length}
use Rattle.records.specs.declared.Action.{Action}
use Rattle.state.specs.Ranges.{Names}

-- it lies in the table of effects and names fluents below n
abbrev pub InEffects : (effects : List ℕ) → Action → (n : ℕ) → Type 0
InEffects effects r n = (4 * (r.first + r.count) ≤ length effects) × (n ≤ 32) × Names effects n r.first r.count
