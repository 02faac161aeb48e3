-- What the table of truths says is what the formulas say: its first n places are the definition's own table, and the places after them
-- are not among the first n. Assumes nothing.
use Prim.Native.Nat.{ℕ}
use mathlib.Core.Path.{◌∙◌}
use mathlib.Core.Bool.{Bool, false}
use mathlib.Core.List.{List}
use lib.ListN.{drop, get_or-append}
use Rattle.records.specs.Table.{up_to}
use Rattle.records.proofs.Fills.{length_up}
use Rattle.golog.specs.declared.State.{State}
use Rattle.golog.specs.Decoded.{world}
use Rattle.golog.proofs.Truths.{holds_at}
use Rattle.state.specs.Truths.{truth_in, truths_of, AreTruths}

pub are_truths :
    (fluents formulas effects actions : List ℕ) (s : State) (n : ℕ) (old : List Bool)
    → AreTruths (world fluents formulas effects actions) s n (truths_of formulas s.values n old)
unfolding truths_of
are_truths fluents formulas effects actions s n old q h =
    get_or-append (up_to (truth_in formulas s.values) n) (drop n old) false q (rw length_up h) ∙ holds_at (world fluents formulas effects actions) s n q h
