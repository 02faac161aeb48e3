-- The program is asked by the tables of the depth. Assumes nothing.
use Rattle.std.proofs.Common.{ℕ, Bool, List, subst₂}
use Rattle.ends.specs.Ends.{Totalled}
use Rattle.engine.specs.Tables.{distances_in}
use Rattle.engine.proofs.total.Goals as goal

pub returns : goal.returns
returns c =
    λ g a.
    subst₂ (λ (l : List Bool) (k : List ℕ). Totalled l (distances_in c.args.numbers.now) k g c.total_rest.result) c.finals_at.ensures c.counts_at.ensures (c.total_rest.ensures g a)
