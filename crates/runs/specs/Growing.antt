-- Own vocabulary: how the first plan is found with the bounded search alone: its number of transitions by deepening the bound, then its
-- history entry by entry. That this gives the first plan is proved in proofs/Deepening.antt and proofs/Growing.antt. Assumes nothing.
use Rattle.std.specs.Prelude.{ℕ, ◌≤◌, List, ◌++◌, length, take}
use Rattle.std.proofs.Math.Option.{Option}
use Rattle.runs.specs.Runs.{LongRun, NoneAtAll, NoneWithin}
use Rattle.runs.specs.Search.{Verdict, plan, nothing, more}
use Rattle.runs.specs.Order.{AtMost}
use Rattle.runs.specs.First.{FinalAt, NoneBelow}
use Rattle.runs.specs.Guide.{rank}

module _ {C : Type 0} (Trans : C → Option ℕ → C → Type 0) (Ends : C → Type 0) where
  -- a run of t transitions, at most k, with this history ends final, and none of fewer than `low` does
  pub record FoundFrom (low k : ℕ) (c : C) (h : List ℕ) (t : ℕ) : Type 0 where
    pub within : t ≤ k
    pub plan : FinalAt Trans Ends t c h
    pub none_below : NoneBelow Trans Ends low c

  -- what is known once the bounds below `low` are done: a plan that was found beyond them; or no run goes on; or some run goes on
  abbrev pub SoFar : (low k : ℕ) → C → Verdict → Type 0
  SoFar low k c (plan h t) = FoundFrom low k c h t
  SoFar low k c nothing = NoneAtAll Trans Ends k c
  SoFar low k c more = NoneBelow Trans Ends low c × LongRun Trans low c

  -- what a verdict whose plans have the fewest transitions says of runs of at most k transitions from c
  abbrev pub MeansFewest : (k : ℕ) → C → Verdict → Type 0
  MeansFewest k c (plan h t) = FoundFrom t k c h t
  MeansFewest k c nothing = NoneAtAll Trans Ends k c
  MeansFewest k c more = NoneWithin Trans Ends k c

  -- h is the history of a run of t transitions that ends final, and the first i of its entries are those of the first plan: nothing is
  -- smaller than these
  pub record Grown (t : ℕ) (c : C) (i : ℕ) (h : List ℕ) : Type 0 where
    pub plan : FinalAt Trans Ends t c h
    pub settled : (g : List ℕ) → FinalAt Trans Ends t c g → AtMost (take i h) g

  -- beside that, nothing of a rank below `low` follows these entries
  pub record Narrowed (t : ℕ) (c : C) (i low : ℕ) (h : List ℕ) : Type 0 where
    pub grown : Grown t c i h
    pub inside : i ≤ length h
    pub above : (r : List ℕ) → FinalAt Trans Ends t c (take i h ++ r) → low ≤ rank r
