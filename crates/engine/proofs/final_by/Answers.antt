-- The record is asked with the two tables. Assumes nothing.
use Rattle.std.proofs.Common.{◌+◌, Bool, List, refl, ◌∙◌, ap₂}
use Rattle.kinds.specs.Programs.{final_by}
use Rattle.engine.proofs.Windows.{window_to}
use Rattle.engine.proofs.final_by.Goals as goal

pub returns : goal.returns
returns c =
    let a = c.args in
    let flags = a.flags.now in
    let o = a.from in
    c.final_by.ensures
    ∙ ap₂ (λ (x y : List Bool). final_by a.r x a.running y) (window_to o (o + 512) 512 flags refl) (window_to (o + 512) (o + 512 + 260) 260 flags refl)
