use Prim.Native.Nat.{ℕ}
use mathlib.Core.Bool.{false}
use lib.ListN.{get_or}
use Rattle.records.specs.Laid.{Laid}
use Rattle.machine.specs.Told.{mark_of}
use Rattle.machine.proofs.marks_of.Given as goal

abbrev pub invariant-loop-a : goal.invariant-loop-a
invariant-loop-a l = Laid 0 (λ (k : ℕ). mark_of (get_or l.performed k false) (get_or l.may k false)) l.initial.marks l.marks l.a
