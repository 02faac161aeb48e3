-- Own vocabulary: the remaining program over record numbers: records at the leaves, not unfolded, and around them what transitions put
-- there. Assumes nothing.
use Rattle.std.specs.Prelude.{ℕ, ◌+◌, ◌*◌, ◌≤◌, ◌<◌, max, false, cond, ◌≡◌, T, eqb}
use mathlib.Core.List.{Memᴰ}
use Rattle.records.specs.declared.Program.{Program}
use Rattle.records.specs.Placeholders.{put_in}
use Rattle.kinds.specs.Programs.{links, picks}
use Rattle.height.specs.Height.{rise}
use Rattle.golog.specs.Prog.{Prog, nil, sequence, together, over, program_of}

-- nothing (nil); a record; a construct by its kind, 3 sequence, 8 together, 9 over, with its two parts
pub data Rest : Type 0 where
  gone : Rest
  leaf : ℕ → Rest
  node : ℕ → Rest → Rest → Rest

-- a construct by its kind
abbrev pub combine : ℕ → Prog → Prog → Prog
combine tag a b = cond (eqb tag 3) (sequence a b) (cond (eqb tag 8) (together a b) (over a b))

-- the program that it stands for, over the table p
unfoldable pub unfolded : (ℕ → Program) → Rest → Prog
unfolded p gone = nil
unfolded p (leaf i) = program_of p i
unfolded p (node tag l r) = combine tag (unfolded p l) (unfolded p r)

-- how many nodes hold it (document 01, "Work area": three words each)
unfoldable pub nodes : Rest → ℕ
nodes gone = 1
nodes (leaf i) = 1
nodes (node tag l r) = 1 + nodes l + nodes r

-- the largest rank of a record in it, 0 where it has none
unfoldable pub largest : (rank : ℕ → ℕ) → Rest → ℕ
largest rank gone = 0
largest rank (leaf i) = rank i
largest rank (node tag l r) = max (largest rank l) (largest rank r)

-- the height of its highest record
abbrev pub high : (ℕ → Program) → Rest → ℕ
high p g = largest (rise p) g

-- what it keeps to after n transitions from a record of height h (document 01's 1 + 2 × h × D)
pub record WithinFigure (p : ℕ → Program) (h n : ℕ) (g : Rest) : Type 0 where
  pub size : nodes g ≤ 1 + 2 * h * n
  pub height : high p g ≤ h

-- document 01: "a and b are lower program records", of every record; so is what a choice names with each value, and it is less high
pub record AllLower (p : ℕ → Program) : Type 0 where
  pub linked : (i a : ℕ) → Memᴰ a (links (p i)) → a < i
  pub picked : (i v : ℕ) → T (picks (p i).kind) → (put_in (p i).b (p i).c v < i) × (rise p (put_in (p i).b (p i).c v) < rise p i)

-- no record chooses a value
abbrev pub Plain : (ℕ → Program) → Type 0
Plain p = (i : ℕ) → picks (p i).kind ≡ false
