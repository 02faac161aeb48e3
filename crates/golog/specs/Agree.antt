-- Own vocabulary: states that agree on a set of fluents, and configurations with the same remaining program in such states (document 02,
-- F-5). That transitions keep this, where what formulas say is decided by the set, is proved in proofs/Kept.antt; that it is where the set has
-- every fluent which they name, in proofs/Named.antt. Assumes nothing.
use Rattle.std.specs.Prelude.{ℕ, Bool, ◌≡◌, T, get_or, length}
use Rattle.golog.specs.declared.State.{State}
use Rattle.golog.specs.World.{World, holds}
use Rattle.golog.specs.Transitions.{Configuration}

-- the fluents of the set have the same values
abbrev pub SameAt : (set : ℕ → Bool) → State → State → Type 0
SameAt set s s' = (x : ℕ) → T (set x) → get_or s.values x 0 ≡ get_or s'.values x 0

-- and the states are alike otherwise
pub record Agree (set : ℕ → Bool) (s s' : State) : Type 0 where
  pub same : SameAt set s s'
  pub places : length s.values ≡ length s'.values
  pub runs : s.running ≡ s'.running

-- what every formula says is decided by the values of the set
abbrev pub Covers : (set : ℕ → Bool) → World → Type 0
Covers set W = (s s' : State) → SameAt set s s' → (q : ℕ) → holds W q s ≡ holds W q s'

-- the same remaining program, in states that agree
abbrev pub AgreeAt : (set : ℕ → Bool) → Configuration → Configuration → Type 0
AgreeAt set c d = (c.0 ≡ d.0) × Agree set c.1 d.1
