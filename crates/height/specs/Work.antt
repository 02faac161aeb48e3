-- To be believed: the work figure (document 01, "Work area"). That h as it is computed is the one meant is proved in proofs/Levels.antt.
-- Assumes nothing.
use Rattle.std.specs.Prelude.{◌≡◌, ◌⊎◌, ℕ, ◌+◌, ◌*◌, ◌≤◌, ◌<◌, cond}
use Rattle.height.specs.Down.{IsHeight}
use Rattle.height.specs.Height.{height_of, interrupts}
use Rattle.records.specs.declared.Program.{Program}

-- "any record has kind 11"
abbrev pub Interrupted : (ℕ → Program) → ℕ → Type 0
Interrupted p n = (i : ℕ) × (i < n) × ((p i).kind ≡ 11)

-- "h is the height, plus 2 if any record has kind 11"
abbrev pub IsLevels : (ℕ → Program) → (n h : ℕ) → Type 0
IsLevels p n h = (g : ℕ) × IsHeight p n g × ((Interrupted p n × (h ≡ g + 2)) ⊎ ((¬ Interrupted p n) × (h ≡ g)))

-- the same, computed
unfoldable pub levels : (ℕ → Program) → ℕ → ℕ
levels p n = height_of p n + cond (interrupts p n) 2 0

-- h as large as document 01's limits let it be, and D
pub record FrameLimits (h d : ℕ) : Type 0 where
  pub levels : h ≤ 18
  pub bound : d ≤ 64

-- the words before a frame's nodes
abbrev pub header : ℕ
header = 64

-- the words of one frame: a header, and three for each node of a remaining program
abbrev pub frame_words : (h d : ℕ) → ℕ
frame_words h d = header + 3 * (1 + 2 * h * d)

-- u32 words that planning and replay require
abbrev pub work_words : (h d : ℕ) → ℕ
work_words h d = (d + 1) * frame_words h d
