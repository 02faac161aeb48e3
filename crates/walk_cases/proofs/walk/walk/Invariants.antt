-- Frame d has room for as many transitions as are left of the bound. Assumes nothing.
use Rattle.std.proofs.Common.{◌≡◌, ℕ, ◌+◌, length}
use Rattle.golog.specs.Prog.{Prog}
use Rattle.demands.specs.Decoded.{bound_of}
use Rattle.engine.specs.Tables.{Prepared}
use Rattle.engine.specs.Frames.{Frame}
use Rattle.walk_cases.proofs.walk.walk.Given as goal

abbrev pub invariant-loop-d : goal.invariant-loop-d
invariant-loop-d g l =
    (length l.work ≡ length l.initial.work) × Prepared l.s l.flags l.numbers ×
    ((left : ℕ) × (l.d + left ≡ bound_of l.s) × (p : Prog) × Frame l.s left l.work l.d p)
