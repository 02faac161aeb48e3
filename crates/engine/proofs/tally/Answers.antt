-- The counts are those of the state, by the law of Filling, and stand in the part kept for them. Assumes nothing.
use Rattle.std.proofs.Common.{◌≡◌, ℕ, ◌+◌, ◌-◌, ◌≤◌, length, ap, ◌∙◌, subst, arith}
use borrow.Rule.Slice.PartMut.{put_mid, same_len_mid}
use Rattle.engine.specs.Tables.{window, Only, counts_from, counts_at}
use Rattle.engine.proofs.Tables.{counts_long}
use Rattle.engine.proofs.Windows.{window_at, only_put, window_put}
use Rattle.engine.proofs.Judging.{tallyable, surveyed}
use Rattle.engine.proofs.tally.Goals as goal

pub tallies-requires : goal.tallies-requires
tallies-requires c =
    let J = c.requires in
    let d = c.args.d in
    let y = c.counts_from-first.result in
    let N = window_at y (counts_from d) (y + 260) 260 c.args.numbers.now c.counts_from-first.ensures.0 (omega arith) in
    rw (c.programs_of-p.ensures.running, c.actions.ensures.table, c.truths_at.ensures, c.finals_at.ensures)
    (record { places = ap length N ∙ counts_long J.prepared d; tallyable = tallyable c.args.s.now c.actions.ensures.accepted J })

pub returns : goal.returns
returns c =
    let J = c.requires in
    let d = c.args.d in
    let st = c.args.st in
    let s = c.args.s.now in
    let numbers = c.args.numbers.now in
    let y = c.counts_from-first.result in
    let ey = c.counts_from-first.ensures.0 in
    let N = window_at y (counts_from d) (y + 260) 260 numbers ey (omega arith) in
    let counts = c.tallies.new.counts in
    let long = c.tallies.ensures.places in
    let fits : y + 260 ≤ length numbers = omega (arith, c.counts_from-first.ensures.1, J.prepared.numbers_long) in
    let new = put_mid y (y + 260 - y) numbers counts in
    let K : Only (counts_from d) 260 numbers new = subst (λ (o : ℕ). Only o 260 numbers new) ey (only_put y (y + 260) 260 numbers counts (omega arith) fits long) in
    let e : counts_at d new ≡ counts = subst (λ (o : ℕ). window o 260 new ≡ counts) ey (window_put y (y + 260) 260 numbers counts (omega arith) fits long) in
    let counted = rw (c.programs_of-p.ensures.running, c.actions.ensures.table, c.truths_at.ensures, N, ← e) at c.tallies.ensures.counts in
    record {
      tables = surveyed s c.actions.ensures.accepted J new c.conflicted_at-conflicted.result (same_len_mid y (y + 260 - y) numbers counts c.tallies.auto.counts) K
          c.conflicted_at-conflicted.ensures counted;
      written = K;
    }
