-- To be believed: the first plan of any transition system (document 02, F-1): C, Trans and Ends as in Runs.antt. That there is one exactly
-- where some run within the bound ends final, and only one, is proved in proofs/Firsts.antt. Assumes nothing.
use Rattle.std.specs.Prelude.{ℕ, ◌≤◌, List}
use Rattle.std.proofs.Math.Option.{Option}
use Rattle.runs.specs.Runs.{Run}
use Rattle.runs.specs.Order.{AtMost}

module _ {C : Type 0} (Trans : C → Option ℕ → C → Type 0) (Ends : C → Type 0) where
  -- some run of exactly t transitions from c has the history h and ends final
  abbrev pub FinalAt : (t : ℕ) → C → (h : List ℕ) → Type 0
  FinalAt t c h = (d : C) × Run Trans t c h d × Ends d

  -- no run of fewer than t transitions ends final
  abbrev pub NoneBelow : (t : ℕ) → C → Type 0
  NoneBelow t c = (n : ℕ) (g : List ℕ) → FinalAt n c g → t ≤ n

  -- within k transitions from c, the plan with history h and t transitions is the first: "fewest transitions, and among those the history
  -- that is smaller .. t is that fewest number"
  pub record IsFirst (k : ℕ) (c : C) (h : List ℕ) (t : ℕ) : Type 0 where
    pub within : t ≤ k
    pub plan : FinalAt t c h
    pub fewest : NoneBelow t c
    pub smallest : (g : List ℕ) → FinalAt t c g → AtMost h g
