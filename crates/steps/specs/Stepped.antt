-- Own vocabulary: the k-th transition of a remaining program, laid out in words: what is asked and what is answered. Assumes nothing.
use Rattle.std.specs.Prelude.{◌≡◌, Bool, Result, Ok, Err, List, ℕ, ◌+◌, ◌*◌, ◌≤◌, ◌<◌, length}
use Rattle.records.specs.declared.Program.{Program}
use Rattle.height.specs.Height.{rise}
use Rattle.golog.specs.declared.State.{State}
use Rattle.golog.specs.World.{World}
use Rattle.remaining.specs.Rest.{Rest, nodes, high}
use Rattle.remaining.specs.Leaves.{RestTransition, leaf_of, rest_final, rest_transitions}
use Rattle.words.specs.Words.{At, Kept, Room}
use Rattle.leaves.specs.Tallies.{finals_of}
use Rattle.ends.specs.Ends.{most_levels, InTable}
use Rattle.steps.specs.Laid.{Sources, Counted, Built}
use Rattle.steps.specs.declared.Laid.{Laid}
use Rattle.steps.specs.declared.Passed.{Passed}

-- the tables are those of a state
pub record Tabled (W : World) (s : State) (v : Sources) (finals : List Bool) : Type 0 where
  pub counted : Counted W s v
  pub finals_are : finals ≡ finals_of W s v.records v.many

-- a remaining program stands at `from`, below `to`, and there is room for what any of its transitions leaves
pub record CanStep (v : Sources) (finals : List Bool) (w : List ℕ) («from» to : ℕ) : Type 0 where
  pub world : World
  pub state : State
  pub tabled : Tabled world state v finals
  pub rest : Rest
  pub at : At rest w «from»
  pub within : InTable v.records v.many rest
  pub below : «from» + 3 * nodes rest ≤ to
  pub room : Room w to (nodes rest + 2 * high v.records rest)

-- a transition that was made, or that there is none
abbrev pub Turn : Type 0
Turn = Result Laid Passed

-- Ok: the k-th of the transitions xs was laid out. Err: there is none; what is left of k after them, and whether it is final
abbrev pub Turned : (final : Bool) (xs : List RestTransition) (k to : ℕ) (w : List ℕ) → Turn → Type 0
Turned final xs k to w (Ok x) = Built xs k to x.entry x.size w
Turned final xs k to w (Err p) = (k ≡ length xs + p.k) × (p.done ≡ final)

-- record i is low enough, and there is room for what any of its transitions leaves
pub record CanStepRecord (v : Sources) (finals : List Bool) (w : List ℕ) (i to : ℕ) : Type 0 where
  pub world : World
  pub state : State
  pub tabled : Tabled world state v finals
  pub inside : i < v.many
  pub low : rise v.records i ≤ most_levels
  pub room : Room w to (1 + 2 * rise v.records i)

-- the answer r for record i, in every state that the tables are of: the words below `to` are kept; words from `to` on are left open but for
-- what stands there by `turned`, which is nothing where there is no k-th transition
pub record SteppedRecord (W : World) (s : State) (p : ℕ → Program) (i k to : ℕ) (w w' : List ℕ) (r : Turn) : Type 0 where
  pub turned : Turned (leaf_of W s p i).final (leaf_of W s p i).transitions k to w' r
  pub kept : Kept to w w'

abbrev pub StepsRecord : Sources → (finals : List Bool) (i k to : ℕ) (w w' : List ℕ) (r : Turn) → Type 0
StepsRecord v finals i k to w w' r = (W : World) (s : State) → Tabled W s v finals → SteppedRecord W s v.records i k to w w' r

-- the answer r for the remaining program g: the words below `to` are kept; words from `to` on are left open but for what stands there by
-- `turned`, which is nothing where there is no k-th transition
pub record Stepped (W : World) (s : State) (p : ℕ → Program) (g : Rest) (k to : ℕ) (w w' : List ℕ) (r : Turn) : Type 0 where
  pub turned : Turned (rest_final W s p g) (rest_transitions W s p g) k to w' r
  pub kept : Kept to w w'

-- in every state that the tables are of, for what stands at `from`
abbrev pub StepsRest : Sources → (finals : List Bool) («from» k to : ℕ) (w w' : List ℕ) (r : Turn) → Type 0
StepsRest v finals «from» k to w w' r =
    (W : World) (s : State) → Tabled W s v finals → (g : Rest) → At g w «from» → Stepped W s v.records g k to w w' r

-- a right part stands at `from`, below `to`, and there is room for a copy of it beside the n nodes that a left part left
pub record CanPutRight (tag «from» to n : ℕ) (w : List ℕ) : Type 0 where
  pub three : 3 ≤ tag
  pub right : Rest
  pub at : At right w «from»
  pub below : «from» + 3 * nodes right ≤ to
  pub room : Room w to (1 + n + nodes right)
