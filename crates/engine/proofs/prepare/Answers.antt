-- The tables are those of the sheet's records, by the laws of Marking, Skipping, Measuring and Conflicting, and stand in the parts kept for them.
-- Assumes nothing.
use Rattle.std.proofs.Common.{ℕ, ◌≤◌, List, ◌++◌, length, get_or, drop, sym, ap, ◌∙◌, subst, arith, length-take-le, take_at, rules}
use lib.Seq.{length_front}
use borrow.Rule.Slice.PartMut.{put_mid, same_len_mid}
use Rattle.engine.specs.Tables.{counts_from, ListsMayConflict}
use Rattle.engine.proofs.Tables.{skips_kept, distances_kept}
use Rattle.engine.proofs.Windows.{window_at_long, only_front, only_put, window_behind, window_put, window_same}
use Rattle.engine.proofs.Judging.{prepared}
use Rattle.engine.proofs.prepare.Goals as goal

pub slice_bounds-copy_from_slice-end-2 : goal.slice_bounds-copy_from_slice-end-2
slice_bounds-copy_from_slice-end-2 c =
    sym (length-take-le 260 c.args.flags.now (omega (arith, c.requires.0)))

pub copy_from_slice-requires : goal.copy_from_slice-requires
copy_from_slice-requires c =
    let n = length-take-le 260 c.args.flags.now (omega (arith, c.requires.0)) in
    search rules

pub slice_bounds-copy_from_slice-end-5 : goal.slice_bounds-copy_from_slice-end-5
slice_bounds-copy_from_slice-end-5 c =
    sym (length-take-le 261 c.args.numbers.now (omega (arith, c.requires.1)))

pub copy_from_slice-requires-2 : goal.copy_from_slice-requires-2
copy_from_slice-requires-2 c =
    let n = length-take-le 261 c.args.numbers.now (omega (arith, c.requires.1)) in
    search rules

pub returns : goal.returns
returns c =
    let flags = c.args.flags.now in
    let numbers = c.args.numbers.now in
    let marks = c.copy_from_slice.new.self in
    let skips = c.copy_from_slice-2.new.self in
    let distances = c.copy_from_slice-3.new.self in
    let judged = c.copy_from_slice-4.new.self in
    let numbers₁ = skips ++ drop 261 numbers in
    let numbers₂ = put_mid 261 260 numbers₁ distances in
    let ml = c.copy_from_slice.ensures.len ∙ length-take-le 260 flags (omega (arith, c.requires.0)) in
    let sl = c.copy_from_slice-2.ensures.len ∙ length-take-le 261 numbers (omega (arith, c.requires.1)) in
    let nl = length_front numbers skips 261 c.copy_from_slice-2.ensures.len in
    let long : 521 ≤ length numbers₁ = omega (arith, nl, c.requires.1) in
    let dl = c.copy_from_slice-3.ensures.len ∙ window_at_long 261 521 260 numbers₁ (omega arith) long in
    let nl₂ = same_len_mid 261 260 numbers₁ distances c.copy_from_slice-3.ensures.len in
    let K = only_put 261 521 260 numbers₁ distances (omega arith) long dl in
    let long₂ : 586 ≤ length numbers₂ = omega (arith, nl, nl₂, c.requires.1) in
    let jl = c.copy_from_slice-4.ensures.len ∙ window_at_long 521 586 65 numbers₂ (omega arith) long₂ in
    let nl₃ = same_len_mid 521 65 numbers₂ judged c.copy_from_slice-4.ensures.len in
    let K₂ = only_put 521 586 65 numbers₂ judged (omega arith) long₂ jl in
    let runs = c.programs_of-p.ensures.running in
    prepared c.args.s.now c.programs_of-p.ensures.accepted c.bounds-endable.result
    (length_front flags marks 260 c.copy_from_slice.ensures.len ∙ c.requires.0)
    (nl₃ ∙ nl₂ ∙ nl ∙ c.requires.1)
    (take_at marks (drop 260 flags) 260 ml ∙ c.copy_from_slice.ensures.after)
    (rw runs at c.bounds-endable.ensures)
    (λ d i. ap (λ (x : List ℕ). get_or x i 0)
    (window_behind K₂ nl₃ (counts_from d) 260 (omega arith) ∙ window_behind K nl₂ (counts_from d) 260 (omega arith) ∙ window_behind (only_front 261 numbers skips sl) nl (counts_from d) 260
    (omega arith))
    ∙ window_same 0 (counts_from d) 260 numbers c.requires.2 i)
    (skips_kept (omega arith) K₂ ∙ skips_kept (omega arith) K ∙ take_at skips (drop 261 numbers) 261 sl ∙ c.copy_from_slice-2.ensures.after ∙ (rw runs at c.skips-skips.ensures))
    (distances_kept (omega arith) K₂ nl₃ (omega arith) ∙ window_put 261 521 260 numbers₁ distances (omega arith) long dl ∙ c.copy_from_slice-3.ensures.after ∙
    (rw runs at c.distances-distances.ensures))
    (subst (ListsMayConflict c.args.s.now)
    (sym (window_put 521 586 65 numbers₂ judged (omega arith) long₂ jl ∙ c.copy_from_slice-4.ensures.after)) c.may_conflict_of-listed.ensures)
