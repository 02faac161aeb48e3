-- Own vocabulary: positions that rise, and what they rest on: a table whose records name lower ones, with its digits. Assumes nothing.
use Rattle.std.specs.Prelude.{◌≡◌, Bool, true, ℕ, suc, ◌≤◌, ◌<◌, T}
use mathlib.Core.List.{List, [], ◌∷◌, Memᴰ}
use Rattle.records.specs.declared.Program.{Program}
use Rattle.records.specs.Placeholders.{environments, reading}
use Rattle.kinds.specs.Programs.{picks, links}
use Rattle.golog.specs.declared.State.{State}
use Rattle.golog.specs.World.{World}
use Rattle.golog.specs.Written.{span_of, written_records}
use Rattle.remaining.specs.Leaves.{leaf_of}
use Rattle.positions.specs.Spots.{digits_by, Spot}

-- the positions rise, from lo on and below hi
pub data Rising : (lo hi : ℕ) → List Spot → Type 0 where
  nobody : {lo hi : ℕ} → Rising lo hi []
  then : {lo hi : ℕ} {x : Spot} {xs : List Spot} → lo ≤ x.0 → x.0 < hi → Rising (suc x.0) hi xs → Rising lo hi (x ∷ xs)

-- the digits are those of the table p: its records name lower ones and choose between at most 16 values; endable are those of which it is
-- said that they may be final
pub record Spread (p : ℕ → Program) (endable : ℕ → Bool) (digits : ℕ → ℕ) : Type 0 where
  pub linked : (i a : ℕ) → Memᴰ a (links (p i)) → a < i
  pub few : (i : ℕ) → T (picks (p i).kind) → span_of p i ≤ 16
  pub each : (i : ℕ) → digits i ≡ digits_by (p i) (endable (p i).a) (span_of p i) (digits (p i).a) (digits (p i).b)

-- no other record is final in the state, in any environment
abbrev pub Endable : World → State → (p : ℕ → Program) → (endable : ℕ → Bool) → Type 0
Endable W s p endable = (a e : ℕ) → e < environments → (leaf_of W s (written_records p) (reading a e)).final ≡ true → endable a ≡ true
