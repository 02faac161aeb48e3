-- The records in doubt are gone through upwards, by the law of Skipping: each turn puts what the record is, whatever state is seen so.
-- Assumes nothing.
use Rattle.std.proofs.Common.{◌+◌, ◌<◌, Bool, true, List, refl, ap, ◌∙◌, arith, length-set, get_or-set_other}
use Rattle.kinds.specs.Programs.{final_by}
use Rattle.leaves.specs.Running.{size}
use Rattle.leaves.specs.Endable.{FinalsKnown}
use Rattle.leaves.proofs.Skipping.{first, next}
use Rattle.engine.specs.Tables.{window}
use Rattle.engine.proofs.Windows.{window_long, window_before, window_set, only_same, only_then, only_set}
use Rattle.engine.proofs.mark_finals.Goals as goal

pub loop-i-init : goal.loop-i-init
loop-i-init c =
    let e = c.places-size.ensures.0 in
    let skip = c.value_in-i.ensures in
    (refl, refl, only_same _, λ a h. refl, λ W s can S. rw (skip, e) (first c.requires.skips))

pub loop-i-smaller : goal.loop-i-smaller
loop-i-smaller c =
    let e = c.places-size.ensures.0 in
    let skip = c.value_in-i-in-loop-i.ensures in
    let o = c.requires.skips.onward (c.loop-i.i + 1) (omega (arith, e)) in
    rw (skip, e) (omega (arith, o, e))

pub loop-i-preserved : goal.loop-i-preserved
loop-i-preserved c =
    let at = c.args.from in
    let e = c.places-size.ensures.0 in
    let skip = c.value_in-i-in-loop-i.ensures in
    let z = c.requires in
    let v = c.loop-i.invariant in
    let i = c.loop-i.i in
    let f = c.final_by-f.result in
    let flags = c.loop-i.flags in
    let finals = window (at + 512) 260 flags in
    let few : i < 260 = omega (arith, c.places-size.ensures.1) in
    let l : i < size c.args.p.now = omega (arith, e) in
    let long = window_long (at + 512) 260 flags (omega (arith, v.1)) in
    let same = window_before v.2 v.1 at 512 (omega arith) (omega arith) in
    let by = c.final_by-f.ensures ∙ ap (λ (truths : List Bool). final_by c.record-r.result truths c.args.running finals) same in
    rw v.0 (
      refl,
      length-set flags (at + 512 + i) f ∙ v.1,
      only_then v.2 (only_set flags _ f (omega arith) (omega arith)),
      λ a h. rw (window_set (at + 512) 260 flags i f few) (get_or-set_other finals i a f true (λ u. omega (arith, l)) ∙ v.3 a h),
      λ W s can S. rw (window_set (at + 512) 260 flags i f few, skip, e) (next z.skips z.all_lower.0 z.all_lower.1 (v.4 W s can S) l (S.each _ l) S.runs (omega (arith, long))
          (rw c.record-r.ensures.record at by)),
    )

pub returns-clause-finals : goal.returns-clause-finals
returns-clause-finals c =
    let v = c.loop-i.invariant in
    let at = c.args.from in
    let same = window_before v.2 v.1 at 512 (omega arith) (omega arith) in
    let D : FinalsKnown _ _ (window at 512 c.args.flags.now) _ (window (at + 512) 260 c.loop-i.flags) =
    λ W s can S i h. (v.4 W s can S).right i (omega (arith, c.places-size.ensures.0)) h in
    rw same D
