-- Own vocabulary: the k-th transition of a program record, laid out in words: what is asked and what is answered. Assumes nothing.
use Rattle.std.specs.Prelude.{◌≡◌, Bool, cond, List, ℕ, ◌+◌, ◌*◌, ◌^◌, ◌≤◌, ◌<◌, eqb, get_or}
use Rattle.std.proofs.Math.Option.{Option, none, some}
use Rattle.std.proofs.Math.ListN.{get_elem?}
use Rattle.records.specs.declared.Program.{Program}
use Rattle.height.specs.Height.{rise}
use Rattle.golog.specs.declared.State.{State}
use Rattle.golog.specs.World.{World}
use Rattle.remaining.specs.Rest.{Rest, node, nodes, AllLower, Plain}
use Rattle.remaining.specs.Leaves.{RestTransition, own_move, wrap_right, leaf_of}
use Rattle.words.specs.Words.{At, Kept, Put, Room}
use Rattle.ends.specs.Ends.{most_levels}
use Rattle.leaves.specs.Tallies.{counts_of, Sees}
use Rattle.leaves.specs.Running as table
use Rattle.steps.specs.declared.Laid.{Laid}
use Rattle.steps.specs.declared.tables.Tables.{Tables}

-- the code of a transition that is no move (document 01: "A test is a transition but no move"), above every entry of a history
abbrev pub test_code : ℕ
test_code = 65536

-- an entry of a history, or that code
abbrev pub code_of : Option ℕ → ℕ
code_of none = test_code
code_of (some a) = a

-- the table that runs, with its number of records; the truths of the formulas; whether interrupts run; how many transitions each record has
pub record Sources : Type 0 where
  pub records : ℕ → Program
  pub many : ℕ
  pub truths : List Bool
  pub running : Bool
  pub counts : List ℕ

abbrev pub sources_of : table.Running → (running : Bool) (truths : List Bool) (counts : List ℕ) → Sources
sources_of p running truths counts = record {
  records = table.records p;
  many = table.size p;
  truths = truths;
  running = running;
  counts = counts;
}

abbrev pub seen_in : Tables → Sources
seen_in t = sources_of t.programs.now t.running t.truths.now t.counts.now

-- it is that of a state
pub record Counted (W : World) (s : State) (v : Sources) : Type 0 where
  pub can : ℕ → Bool
  pub sees : Sees W s v.records v.many v.truths can v.running
  pub lower : AllLower v.records
  pub plain : Plain v.records
  pub counts_are : v.counts ≡ counts_of W s v.records v.many

-- record i has a k-th transition, and there is room for what it leaves
pub record CanLay (v : Sources) (w : List ℕ) (i to k : ℕ) : Type 0 where
  pub world : World
  pub state : State
  pub counted : Counted world state v
  pub inside : i < v.many
  pub low : rise v.records i ≤ most_levels
  pub least : k < get_or v.counts i 0
  pub room : Room w to (1 + 2 * rise v.records i)

-- the k-th of the transitions xs: the code of its move, and what it leaves stands at `to` in so many nodes
pub record Built (xs : List RestTransition) (k to entry size : ℕ) (w : List ℕ) : Type 0 where
  pub move : Option ℕ
  pub rest : Rest
  pub nth : get_elem? xs k ≡ some (move, rest)
  pub at : At rest w to
  pub entry_is : entry ≡ code_of move
  pub size_is : size ≡ nodes rest

-- and the words below are kept; words from `to` on are left open but for what stands there by `built`
pub record Lays (xs : List RestTransition) (k to : ℕ) (w w' : List ℕ) (entry size : ℕ) : Type 0 where
  pub built : Built xs k to entry size w'
  pub kept : Kept to w w'

-- in every state that the view is of, the k-th transition of record i
abbrev pub LaysRecord : Sources → (i k to : ℕ) (w w' : List ℕ) (entry size : ℕ) → Type 0
LaysRecord v i k to w w' entry size = (W : World) (s : State) → Counted W s v → Lays (leaf_of W s v.records i).transitions k to w w' entry size

-- its a and b fit a word
pub record InWords (r : Program) : Type 0 where
  pub a : r.a < 2 ^ 32
  pub b : r.b < 2 ^ 32

-- where what a part leaves is laid: past the words that go before it, none where it stands alone
abbrev pub past : (alone : Bool) (words : ℕ) → ℕ
past alone words = cond alone 0 words

-- what stood at `at`, in n nodes, stands in the construct f, in n' nodes; words from `to` on are left open but for what stands there by
-- `wrapped`
pub record Wrapped (f : Rest → Rest) (at to n n' : ℕ) (w w' : List ℕ) : Type 0 where
  pub kept : Kept to w w'
  pub wrapped : (g : Rest) → At g w at → nodes g ≡ n → At (f g) w' to × (n' ≡ nodes (f g))

-- a record's own transition, which leaves nothing
pub record LaidOwn (r : Program) (to : ℕ) (w w' : List ℕ) (x : Laid) : Type 0 where
  pub put : Put to 0 0 1 w w'
  pub entry_is : x.entry ≡ code_of (own_move r)
  pub size_is : x.size ≡ 1

-- what was laid out at `at`, x, stands in the construct f
pub record WrappedLaid (f : Rest → Rest) (at to : ℕ) (w w' : List ℕ) (x y : Laid) : Type 0 where
  pub entry_is : y.entry ≡ x.entry
  pub wrapped : Wrapped f at to x.size y.size w w'

-- what a transition of a left part left, x, got a copy of the right part at `from` beside it
pub record GotRight (tag «from» to : ℕ) (w w' : List ℕ) (x r : Laid) : Type 0 where
  pub entry_is : r.entry ≡ x.entry
  pub wraps : (g : Rest) → At g w «from» → Wrapped (λ (l : Rest). node tag l g) (to + 3) to x.size r.size w w'

-- what a transition of a right part left, x, got the left part of n nodes at `from` beside it again, but in a sequence
pub record GotLeft (tag «from» to n : ℕ) (w w' : List ℕ) (x r : Laid) : Type 0 where
  pub entry_is : r.entry ≡ x.entry
  pub wraps : (l : Rest) → At l w «from» → nodes l ≡ n → Wrapped (wrap_right tag l) (to + past (eqb tag 3) (3 + 3 * n)) to x.size r.size w w'
