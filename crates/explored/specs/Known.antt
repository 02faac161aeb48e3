-- Own vocabulary: what an index says of configurations already explored (document 02, F-4), true in a search that asks, under each label, what
-- a guide says. Label 0 stands for a guide that asks nothing. Assumes nothing.
use Rattle.std.specs.Prelude.{ℕ, ◌+◌, ◌*◌, ◌/◌, ◌%◌, ◌≤◌, ◌<◌, List, ◌⊎◌, ◌≡◌}
use Rattle.golog.specs.Prog.{Prog}
use Rattle.golog.specs.Transitions.{Configuration}
use Rattle.runs.specs.Search.{Verdict}
use Rattle.runs.specs.Guide.{Guide, unguided}
use Rattle.runs.specs.Bounded.{verdict_within}
use Rattle.runs.specs.Claims.{Claim}
use Rattle.demands.specs.Decoded.{world_of}
use Rattle.demands.specs.Planning.{transitions_in, is_final_in}
use Rattle.engine.specs.Frames.{Frame}
use Rattle.index.specs.Content.{round_in, Keeps}
use Rattle.keys.specs.Keyed.{Keyed}
use Rattle.explored.specs.declared.Subject.{Subject}

-- the verdict on a configuration of the sheet s within so many transitions, under a guide
abbrev pub verdict_in : List ℕ → (left : ℕ) → Configuration × Guide → Verdict
verdict_in s left c = verdict_within (transitions_in (world_of s)) (is_final_in (world_of s)) left c

-- an entry's value: a flag, the transitions left, the round
abbrev pub value_of : (round left flag : ℕ) → ℕ
value_of round left flag = flag + 4 * left + 512 * round

abbrev pub flag_in : ℕ → ℕ
flag_in value = value % 4

abbrev pub left_in : ℕ → ℕ
left_in value = value / 4 % 128

abbrev pub round_of : ℕ → ℕ
round_of value = value / 512

-- what is claimed of a configuration of the sheet s
abbrev pub ClaimOf : List ℕ → (left flag : ℕ) → Configuration × Guide → Type 0
ClaimOf s left flag c = Claim (transitions_in (world_of s)) (is_final_in (world_of s)) left flag c

-- an entry is true: what it claims where nothing is asked, and what was noted in this round
pub record Holds (s : List ℕ) (guides : ℕ → Guide) (round : ℕ) (key : List ℕ) (value : ℕ) : Type 0 where
  pub by_now : round_of value ≤ round
  pub claims : (c : Configuration) (label : ℕ) → Keyed s c label key → (label ≡ 0) ⊎ (round_of value ≡ round) → ClaimOf s (left_in value) (flag_in value) (c, guides label)

-- an index all of whose entries are true, in this round
pub record Known (s : List ℕ) (guides : ℕ → Guide) (round : ℕ) (w : List ℕ) : Type 0 where
  pub round_is : round_in w ≡ round
  pub small : round < 65536
  pub holds : Keeps (Holds s guides round) w

-- between searches an entry is true where nothing is asked
pub record Lasts (s : List ℕ) (round : ℕ) (key : List ℕ) (value : ℕ) : Type 0 where
  pub by_now : round_of value ≤ round
  pub claims : (c : Configuration) → Keyed s c 0 key → ClaimOf s (left_in value) (flag_in value) (c, unguided)

abbrev pub Lasting : (s w : List ℕ) → Type 0
Lasting s w = Keeps (Lasts s (round_in w)) w

-- a configuration was explored: so much may be claimed of it
pub record Explored (s w : List ℕ) (guides : ℕ → Guide) (c : Subject) (left flag : ℕ) : Type 0 where
  pub program : Prog
  pub room : ℕ
  pub frame : Frame s room w c.depth program
  pub claim : ClaimOf s left flag ((program, c.state), guides c.label)
