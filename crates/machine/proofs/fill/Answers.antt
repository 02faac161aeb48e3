-- The sets are filled in their part of the numbers, by what was told once; the rest stands. Assumes nothing.
use Prim.Native.Nat.{ℕ, ◌+◌, ◌-◌, ◌≤◌}
use mathlib.Core.Path.{◌≡◌, sym, ◌∙◌, ap, subst}
use native.Mathlib.Omega.{arith}
use lib.ListN.{length}
use borrow.Rule.Slice.PartMut.{put_mid, same_len_mid}
use Rattle.enabled.specs.Spans.{SpansKnown}
use Rattle.machine.specs.Tables.{window, Only, sets_from, sets_at, records_of, many_of}
use Rattle.machine.specs.Told.{SetsKnown}
use Rattle.machine.proofs.Windows.{window_at_long, only_put, window_put}
use Rattle.machine.proofs.Keeping.{told_kept}
use Rattle.machine.proofs.Surveying.{spans_known}
use Rattle.machine.proofs.fill.Goals as goal

pub fill_sets-requires-clause-spans_known : goal.fill_sets-requires-clause-spans_known
fill_sets-requires-clause-spans_known c =
    let v = c.args.v in
    subst (SpansKnown (records_of c.args.programs.now v) (many_of v)) (sym (c.spans_in-spans.ensures ∙ c.requires.told_2.spans_are)) (spans_known c.requires.ruled_tables.once)

pub returns : goal.returns
returns c =
    let R = c.requires.ruled_tables in
    let T = c.requires.told_2 in
    let numbers = c.args.numbers.now in
    let d = c.args.d in
    let x = c.sets_from-from.result in
    let ex = c.sets_from-from.ensures.0 in
    let fits : x + 8768 ≤ length numbers = omega (arith, c.sets_from-from.ensures.1, T.long) in
    let table = c.fill_sets.new.table in
    let long : length table ≡ 8768 = c.fill_sets.auto.table ∙ window_at_long x (x + 8768) 8768 numbers (omega arith) fits in
    let numbers' = put_mid x (x + 8768 - x) numbers table in
    let len = same_len_mid x (x + 8768 - x) numbers table c.fill_sets.auto.table in
    let K : Only (sets_from d) 8768 numbers numbers' =
    subst (λ (o : ℕ). Only o 8768 numbers numbers') ex (only_put x (x + 8768) 8768 numbers table (omega arith) fits long) in
    let same : sets_at d numbers' ≡ table = sym (ap (λ (o : ℕ). window o 8768 numbers') ex) ∙ window_put x (x + 8768) 8768 numbers table (omega arith) fits long in
    record {
      told = record {
        told = told_kept K len (omega arith) T;
        sets_known = subst (SetsKnown c.args.fluents.now c.args.formulas.now c.args.effects.now c.args.actions.now
            c.args.programs.now c.args.v c.args.s) (sym same) c.fill_sets.ensures;
      };
      written = K;
    }
