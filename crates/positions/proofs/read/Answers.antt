-- Field by field. Assumes nothing.
use mathlib.Core.Path.{sym, ◌∙◌, ap₂}
use Prim.Native.Nat.{ℕ}
use Rattle.kinds.proofs.ProgramKinds.{record_of}
use Rattle.golog.specs.Written.{program_read}
use Rattle.remaining.proofs.Written.{read_kind}
use Rattle.positions.proofs.read.Goals as goal

pub returns : goal.returns
returns c =
    let a = c.args in
    let q = program_read a.e a.span a.r in (
      ap₂ (λ (k x : ℕ). record_of k x c.read_b.result c.read_c.result) (sym (read_kind a.e a.span a.r)) c.read_a.ensures.0
          ∙ ap₂ (λ (x y : ℕ). record_of q.kind q.a x y) c.read_b.ensures.0 c.read_c.ensures,
      record { a = c.read_a.ensures.1; b = c.read_b.ensures.1 },
    )
