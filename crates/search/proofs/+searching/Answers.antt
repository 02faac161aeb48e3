-- A visit's transitions are gone through in listed order, the transitions left falling. The first one ahead is made, and what is reported from
-- where it leads is the report on it (Trying); what is known by now beside those still ahead is the verdict on all (Expanding). Assumes
-- nothing.
use mathlib.Core.Path.{sym, ◌∙◌}
use native.Mathlib.Omega.{arith}
use Rattle.search.proofs.Expanding.{begin, standing, onward, turned, not_out, going, all_tried, kept_back, passed, deeper, went, preserved, searched_as, seen}
use Rattle.search.proofs.Trying.{can, small, child}
use Rattle.search.proofs.+searching.Goals as goal

pub expand-loop-t-init : goal.expand-loop-t-init
expand-loop-t-init t c = let g = c.requires.0 in ((g, begin c.args.trace.now c.args.start.ran g), c.requires.1)

pub expand-refresh-requires-clause-by_index : goal.expand-refresh-requires-clause-by_index
expand-refresh-requires-clause-by_index t c = let I = c.loop-t.invariant.0 in (_, I.0.program, standing I.1)

pub expand-next-requires : goal.expand-next-requires
expand-next-requires t c =
    let I = c.loop-t.invariant.0 in
    let S = c.refresh.ensures.tables in
    (S, can (onward I.1 S))

pub expand-returns-in_default : goal.expand-returns-in_default
expand-returns-in_default t c =
    absurd (not_out c.loop-t.invariant.0.1 c.refresh.ensures.tables (rw c.in_default.is at c.next.ensures) c.is_spent.ensures c.loop-t-test.true)

pub expand-lets_pass-requires : goal.expand-lets_pass-requires
expand-lets_pass-requires t c =
    let T = turned c.loop-t.invariant.0.1 c.refresh.ensures.tables c.refresh.ensures.written (rw c.in-Some.is at c.next.ensures) c.is_spent.ensures c.loop-t-test.true in
    small (going T) T.first c.loop-t.cut

pub expand-search_from-o-requires : goal.expand-search_from-o-requires
expand-search_from-o-requires t c =
    let T = turned c.loop-t.invariant.0.1 c.refresh.ensures.tables c.refresh.ensures.written (rw c.in-Some.is at c.next.ensures) c.is_spent.ensures c.loop-t-test.true in
    let Y = c.follow-v.ensures in
    (omega (arith, c.decreases, Y.left_is, c.loop-t.invariant.0.0.some_left), (T.surveyed.prepared, (T.first.step.1.0, child (going T) T.first c.loop-t.cut Y), c.loop-t.invariant.1))

pub expand-note-requires : goal.expand-note-requires
expand-note-requires t c =
    let T = turned c.loop-t.invariant.0.1 c.refresh.ensures.tables c.refresh.ensures.written (rw c.in-Some.is at c.next.ensures) c.is_spent.ensures c.loop-t-test.true in
    let g = c.loop-t.invariant.0.0 in
    (omega (arith, g.ready.traced, g.some_left, c.search_from-o.auto.trace, c.loop-t.auto.trace), small (going T) T.first c.loop-t.cut)

pub expand-returns-then-note : goal.expand-returns-then-note
expand-returns-then-note t c =
    let T = turned c.loop-t.invariant.0.1 c.refresh.ensures.tables c.refresh.ensures.written (rw c.in-Some.is at c.next.ensures) c.is_spent.ensures c.loop-t-test.true in
    let F = c.search_from-o.ensures in
    let D = passed T (sym c.lets_pass.ensures ∙ c.if-lets_pass.true) c.follow-v.ensures F.answer F.tables F.untried c.note.ensures.trace in
    record { answer = D.plan (sym c.note.ensures.answer ∙ c.if-note.true); tables = D.preserves; index = F.index }

pub expand-loop-t-preserved-then-lets_pass : goal.expand-loop-t-preserved-then-lets_pass
expand-loop-t-preserved-then-lets_pass t c =
    let T = turned c.loop-t.invariant.0.1 c.refresh.ensures.tables c.refresh.ensures.written (rw c.in-Some.is at c.next.ensures) c.is_spent.ensures c.loop-t-test.true in
    let F = c.search_from-o.ensures in
    let D = passed T (sym c.lets_pass.ensures ∙ c.if-lets_pass.true) c.follow-v.ensures F.answer F.tables F.untried c.note.ensures.trace in
    ((c.loop-t.invariant.0.0, rw c.is_more-cut.ensures (D.on (sym c.note.ensures.answer ∙ c.if-note.false))), F.index)

pub expand-loop-t-preserved : goal.expand-loop-t-preserved
expand-loop-t-preserved t c =
    let T = turned c.loop-t.invariant.0.1 c.refresh.ensures.tables c.refresh.ensures.written (rw c.in-Some.is at c.next.ensures) c.is_spent.ensures c.loop-t-test.true in
    ((c.loop-t.invariant.0.0, kept_back T (sym c.lets_pass.ensures ∙ c.if-lets_pass.false)), c.loop-t.invariant.1)

pub expand-returns-clause-answer : goal.expand-returns-clause-answer
expand-returns-clause-answer t c =
    let L = c.loop-t.invariant.0.1 in all_tried L (sym (c.is_spent.ensures _ _ _ L.listed) ∙ c.loop-t-test.false) c.unfound-2.ensures

pub search_from-expand-o-requires : goal.search_from-expand-o-requires
search_from-expand-o-requires t c =
    let A = rw c.in-Ok.is at c.see.ensures in
    (omega (arith, c.decreases), (deeper c.args.trace.now A c.requires.1.1, c.requires.2))

pub search_from-remember-requires : goal.search_from-remember-requires
search_from-remember-requires t c =
    let A = rw c.in-Ok.is at c.see.ensures in
    (c.expand-o.ensures.index, searched_as c.args.trace.now A c.expand-o.ensures.answer c.expand-o.ensures.tables c.requires.1.1)

pub search_from-returns-in-Err-clause-answer : goal.search_from-returns-in-Err-clause-answer
search_from-returns-in-Err-clause-answer t c p R = let A = rw c.in-Err.is at c.see.ensures in A.says p R.visited c.args.trace.now

pub search_from-returns-in-Err-clause-tables : goal.search_from-returns-in-Err-clause-tables
search_from-returns-in-Err-clause-tables t c = seen c.see.ensures.prepared c.see.ensures.filled

pub search_from-returns-in-Ok-clause-answer : goal.search_from-returns-in-Ok-clause-answer
search_from-returns-in-Ok-clause-answer t c = let A = rw c.in-Ok.is at c.see.ensures in went c.args.trace.now A c.expand-o.ensures.answer c.expand-o.ensures.tables

pub search_from-returns-in-Ok-clause-tables : goal.search_from-returns-in-Ok-clause-tables
search_from-returns-in-Ok-clause-tables t c = let A = rw c.in-Ok.is at c.see.ensures in preserved c.args.trace.now A c.expand-o.ensures.answer c.expand-o.ensures.tables
