-- Own vocabulary: what the functions of the first plan ask and answer: plans of the fewest transitions, and how far a plan's history is that
-- of the first one. Assumes nothing.
use Rattle.std.specs.Prelude.{◌≡◌, ℕ, ◌≤◌, false, List, length, take, Option, Some, None}
use Rattle.runs.specs.Search.{Verdict, plan, nothing, more}
use Rattle.runs.specs.First.{NoneBelow}
use Rattle.runs.specs.Guide.{Guide, along, Obeys}
use Rattle.runs.specs.Growing.{SoFar, MeansFewest, Grown}
use Rattle.demands.specs.Decoded.{world_of, first_of, bound_of}
use Rattle.demands.specs.Planning.{Goes, Ends, RunOf}
use Rattle.search.specs.Outcome.{is_more}
use Rattle.search.specs.declared.Window.{Window}
use Rattle.search.specs.declared.Outcome.{Outcome}
use Rattle.search.specs.declared.Outcome.TheVariants.{Found, Nothing, More}
use Rattle.first.specs.declared.History.{History}

-- the entries of a history
abbrev pub history_of : History → List ℕ
history_of h = take h.n h.entries

-- they are among the 64 that there is room for: a run has no more transitions
pub record Within (h : History) : Type 0 where
  pub places : length h.entries ≡ 64
  pub few : h.n ≤ 64

-- the transitions of a plan
abbrev pub transition_count : Outcome → ℕ
transition_count (Found n t) = t
transition_count Nothing = 0
transition_count More = 0

-- the outcome says the verdict, and a plan's history stands in front of the trace
abbrev pub Holds : (trace : List ℕ) → Outcome → Verdict → Type 0
Holds trace o (plan h t) = (o ≡ Found (length h) t) × (take (length h) trace ≡ h)
Holds trace o nothing = o ≡ Nothing
Holds trace o more = o ≡ More

-- what was found beyond the bounds below `low`: a plan, or that no run goes on
pub record FoundSoFar (s : List ℕ) (low : ℕ) (trace : List ℕ) (o : Outcome) : Type 0 where
  pub verdict : Verdict
  pub holds : Holds trace o verdict
  pub means : SoFar (Goes (world_of s)) (Ends (world_of s)) low (bound_of s) (first_of s) verdict
  pub not_more : is_more o ≡ false

-- the same with plans of the fewest transitions
pub record FewestFound (s trace : List ℕ) (o : Outcome) : Type 0 where
  pub verdict : Verdict
  pub holds : Holds trace o verdict
  pub means : MeansFewest (Goes (world_of s)) (Ends (world_of s)) (bound_of s) (first_of s) verdict

-- t is within the bound, and no run of fewer transitions ends final
pub record CanSettle (s : List ℕ) (t : ℕ) : Type 0 where
  pub bounded : t ≤ bound_of s
  pub fewest : NoneBelow (Goes (world_of s)) (Ends (world_of s)) t (first_of s)

-- a plan of t transitions whose first i entries are those of the first plan
pub record Settled (s : List ℕ) (t i : ℕ) (h : History) : Type 0 where
  pub within : Within h
  pub grown : Grown (Goes (world_of s)) (Ends (world_of s)) t (first_of s) i (history_of h)

-- the first i entries of h, and then what the window has
abbrev pub asking : History → (i : ℕ) → Window → Guide
asking h i w = along (take i (history_of h)) w.low w.high

-- what came of asking for a plan within t transitions
abbrev pub Answers : (s : List ℕ) (t : ℕ) (h : History) (i : ℕ) (w : Window) → Option History → Type 0
Answers s t h i w (Some g) = Within g × ((u : ℕ) × (u ≤ t) × RunOf s (history_of g) u) × Obeys (asking h i w) (history_of g)
Answers s t h i w None = (u : ℕ) (g : List ℕ) → u ≤ t → RunOf s g u → ¬ Obeys (asking h i w) g
