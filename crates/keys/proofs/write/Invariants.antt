use Prim.Native.Nat.{ℕ, ◌+◌, ◌<◌}
use mathlib.Core.Path.{◌≡◌}
use mathlib.Core.Bool.{true}
use denote.Param.{number}
use lib.ListN.{get_or, length}
use Rattle.keys.specs.contracts.write.{WIDE-type}
use Rattle.keys.specs.Packed.{word_at, Whole}
use Rattle.keys.proofs.write.Given as goal

abbrev pub invariant-loop-k : goal.invariant-loop-k
invariant-loop-k g l =
    let wide = WIDE-type (number g.row.WIDE) in
    (length l.key ≡ length l.initial.key)
    × ((j : ℕ) → j < l.to → get_or l.key j 0 ≡ get_or l.initial.key j 0)
    × ((j : ℕ) → j < l.k → get_or l.key (l.to + j) 0 ≡ word_at wide l.work l.from l.n j)
    × (l.whole ≡ true → (j : ℕ) → j < l.k → Whole wide l.work l.from l.n j)
