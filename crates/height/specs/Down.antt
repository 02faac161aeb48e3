-- To be believed: a path down the program records, and what is higher than a number (document 01: "Height is the most links from program
-- record to program record on a path down from the root"); what a link is, is in kinds/specs/Rules.antt. That the height computed is the
-- most links is proved in proofs/Paths.antt. Assumes nothing.
use Rattle.std.specs.Prelude.{ℕ, suc, ◌-◌, ◌≤◌, ◌<◌}
use Rattle.records.specs.declared.Program.{Program}
use Rattle.kinds.specs.Rules.{Link}

-- a path down from record i, of k links
pub data Down (p : ℕ → Program) : ℕ → ℕ → Type 0 where
  stop : {i : ℕ} → Down p i 0
  step : {i j k : ℕ} → Link (p i) j → Down p j k → Down p i (suc k)

-- "The last program record is the root": h is the height of n records
abbrev pub IsHeight : (ℕ → Program) → (n h : ℕ) → Type 0
IsHeight p n h = Down p (n - 1) h × ((k : ℕ) → Down p (n - 1) k → k ≤ h)

-- their height is above m: a path down from the root has more than m links
abbrev pub HeightAbove : (ℕ → Program) → (n m : ℕ) → Type 0
HeightAbove p n m = (k : ℕ) × (m < k) × Down p (n - 1) k
