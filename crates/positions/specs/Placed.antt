-- Own vocabulary: the transition of a program record at a position, laid out in words: what is asked and what is answered. Assumes nothing.
use Rattle.std.specs.Prelude.{◌≡◌, ℕ, ◌+◌, ◌*◌}
use mathlib.Core.List.{List, Memᴰ}
use Rattle.height.specs.Height.{rise}
use Rattle.golog.specs.declared.State.{State}
use Rattle.golog.specs.World.{World}
use Rattle.remaining.specs.Rest.{nodes}
use Rattle.remaining.specs.Leaves.{RestTransition}
use Rattle.words.specs.Words.{At, Kept, Room}
use Rattle.steps.specs.Laid.{code_of}
use Rattle.positions.specs.Found.{Tables, spots_in, Surveyed, CanLook}

-- record i, read in e, has a transition at k in the state that it is looked at in, and there is room for what it leaves
pub record CanPlace (t : Tables) (w : List ℕ) (i e to k : ℕ) : Type 0 where
  pub look : CanLook t i e
  pub move : RestTransition
  pub there : Memᴰ (k, move) (spots_in look.world look.state t i e)
  pub room : Room w to (1 + 2 * rise t.records i)

-- the transition x: the code of its move, and what it leaves stands at `to` in so many nodes; the words below are kept, words from `to` on
-- are left open but for what stands there by `at`
pub record Placed (x : RestTransition) (to : ℕ) (w w' : List ℕ) (entry size : ℕ) : Type 0 where
  pub at : At x.1 w' to
  pub entry_is : entry ≡ code_of x.0
  pub size_is : size ≡ nodes x.1
  pub kept : Kept to w w'

-- in every state that the sets are of, the transition at k of record i, read in e
abbrev pub PlacesRecord : Tables → (i e k to : ℕ) (w w' : List ℕ) (entry size : ℕ) → Type 0
PlacesRecord t i e k to w w' entry size =
    (W : World) (s : State) → Surveyed W s t → (x : RestTransition) → Memᴰ (k, x) (spots_in W s t i e) → Placed x to w w' entry size
