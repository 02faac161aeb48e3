-- Truths first, then the records that may be final, then those in doubt: the tables are those of the state. Assumes nothing.
use Rattle.std.proofs.Common.{◌≡◌, ℕ, ◌+◌, ◌-◌, ◌≤◌, Bool, true, List, length, get_or, sym, ap, ◌∙◌, subst, subst₂, arith, length-take-le}
use borrow.Rule.Slice.PartMut.{put_mid, same_len_mid}
use Rattle.leaves.specs.Endable.{FinalsKnown}
use Rattle.engine.specs.Tables.{window, Only, endable_in, truths_from, finals_from, truths_at, finals_at, extended_size_of}
use Rattle.sheet.proofs.Parts.{formulas_long}
use Rattle.sheet.proofs.Accepted.{laid}
use Rattle.sheet.proofs.Lower.{lower_formulas, plain_formulas}
use Rattle.demands.specs.Compact.{extended_records}
use Rattle.demands.proofs.Compact.{all_lower, all_plain}
use Rattle.engine.proofs.Tables.{truths_long, endable_kept}
use Rattle.engine.proofs.Windows.{window_at, window_at_long, only_in, only_then, only_put, only_copied, window_copied, window_put, window_before}
use Rattle.engine.proofs.Judging.{skips_by, truths_told, judged}
use Rattle.engine.proofs.judge.Goals as goal

pub fill_truths-requires : goal.fill_truths-requires
fill_truths-requires c =
    let O = c.programs_of-p.ensures.accepted in
    let s = c.args.s.now in
    let x = c.flags_from-from.result in
    let T = window_at x (truths_from c.args.d) (x + 512) 512 c.args.flags.now c.flags_from-from.ensures.0 (omega arith) in
    rw (c.formulas.ensures.table, c.found.ensures.found)
    (record {
      n_in_bounds = (formulas_long s _ (laid s O), omega (arith, (laid s O).q, ap length T, truths_long c.requires c.args.d));
      lower_formulas = (lower_formulas s O, plain_formulas s O);
    })

pub slice_bounds-mark_finals-end : goal.slice_bounds-mark_finals-end
slice_bounds-mark_finals-end c =
    sym (length-take-le 261 c.args.numbers.now (omega (arith, c.requires.numbers_long)))

pub mark_finals-requires : goal.mark_finals-requires
mark_finals-requires c =
    let P = c.requires in
    let s = c.args.s.now in
    let O = c.programs_of-p.ensures.accepted in
    let flags = c.args.flags.now in
    let x = c.flags_from-from.result in
    let fits : x + 772 ≤ length flags = omega (arith, c.flags_from-from.ensures.1, P.flags_long) in
    let said = c.fill_truths.new.truths in
    let long : length said ≡ 512 = c.fill_truths.auto.truths ∙ window_at_long x (x + 512) 512 flags (omega arith) (omega arith) in
    let first = only_put x (x + 512) 512 flags said (omega arith) (omega arith) long in
    let n₁ = same_len_mid x (x + 512 - x) flags said c.fill_truths.auto.truths in
    let copied = window_copied 260 (x + 512) (put_mid x (x + 512 - x) flags said) (omega (arith, n₁)) in
    let finals = ap (window (x + 512) 260) c.copy_within.ensures.after ∙ copied ∙ endable_kept (omega (arith, c.flags_from-from.ensures.0)) first in
    let n = c.copy_within.ensures.len ∙ n₁ in
    rw c.programs_of-p.ensures.running
    (record { places = omega (arith, n); all_lower = (all_lower s O, all_plain s O); skips = skips_by s O P _ finals })

pub returns : goal.returns
returns c =
    let O = c.programs_of-p.ensures.accepted in
    let P = c.requires in
    let d = c.args.d in
    let s = c.args.s.now in
    let st = c.args.st in
    let flags = c.args.flags.now in
    let x = c.flags_from-from.result in
    let ex = c.flags_from-from.ensures.0 in
    let fits : x + 772 ≤ length flags = omega (arith, c.flags_from-from.ensures.1, P.flags_long) in
    let said = c.fill_truths.new.truths in
    let long : length said ≡ 512 = c.fill_truths.auto.truths ∙ window_at_long x (x + 512) 512 flags (omega arith) (omega arith) in
    let flags₁ = put_mid x (x + 512 - x) flags said in
    let flags₂ = c.copy_within.new.self in
    let flags₃ = c.mark_finals.new.flags in
    let n₁ = same_len_mid x (x + 512 - x) flags said c.fill_truths.auto.truths in
    let n₂ = c.copy_within.ensures.len in
    let n₃ = c.mark_finals.auto.flags in
    let K₁ = only_put x (x + 512) 512 flags said (omega arith) (omega arith) long in
    let after = c.copy_within.ensures.after in
    let S : Only (x + 512) 260 flags₁ flags₂ = subst (Only (x + 512) 260 flags₁) (sym after) (only_copied 260 (x + 512) flags₁ (omega (arith, n₁))) in
    let copied = ap (window (x + 512) 260) after ∙ window_copied 260 (x + 512) flags₁ (omega (arith, n₁)) in
    let M = rw c.programs_of-p.ensures.running at c.mark_finals.ensures in
    let K : Only (truths_from d) 772 flags flags₃ =
    subst (λ (o : ℕ). Only o 772 flags flags₃) ex
    (only_then (only_in (omega arith) (omega arith) K₁) (only_then (only_in (omega arith) (omega arith) S) (only_in (omega arith) (omega arith) M.written))) in
    let finals : (l : List Bool) → window (x + 512) 260 l ≡ finals_at d l = λ l. let e : x + 512 ≡ finals_from d = omega arith in ap (λ (o : ℕ). window o 260 l) e in
    let truths : (l : List Bool) → window x 512 l ≡ truths_at d l = λ l. ap (λ (o : ℕ). window o 512 l) ex in
    let same = window_before M.written n₃ x 512 (omega arith) (omega (arith, n₁, n₂)) ∙ window_before S n₂ x 512 (omega arith) (omega (arith, n₁)) in
    let told = sym (truths flags₃) ∙ same ∙ window_put x (x + 512) 512 flags said (omega arith) (omega arith) long ∙ (rw (c.formulas.ensures.table, c.found.ensures.found) at c.fill_truths.ensures) in
    let before : endable_in flags₁ ≡ endable_in flags = endable_kept (omega arith) K₁ in
    record {
      tables = judged s O P st d flags₃ (n₃ ∙ n₂ ∙ n₁) K
          (truths_told s O st _ told)
          (subst₂ (λ (t f : List Bool). FinalsKnown (extended_records s) (extended_size_of s) t st.running f) (truths flags₃) (finals flags₃) M.finals)
          (λ i l. ap (λ (y : List Bool). get_or y i true) (sym (finals flags₃)) ∙ M.behind i l ∙ ap (λ (y : List Bool). get_or y i true) (copied ∙ before));
      written = K;
    }
