-- Down by counts, and on the way back up a construct around what was laid out; the record number falls (Laying.antt). Assumes nothing.
use mathlib.Core.Path.{sym, ◌∙◌}
use native.Mathlib.Omega.{arith}
use Rattle.steps.proofs.Laying.{is_record, of_parts, own_lays, a_falls, a_can, a_room, a_lays, b_falls, b_can, b_room, b_lays}
use Rattle.steps.proofs.+lay_record.Goals as goal

pub returns-then-has_own : goal.returns-then-has_own
returns-then-has_own t c W s C =
    let can = c.requires.can_lay in
    own_lays C (is_record can c.record-r.ensures.record) can.least (sym c.has_own.ensures ∙ c.if-has_own.true) can.room c.lay_own.ensures

pub lay_record-x-requires : goal.lay_record-x-requires
lay_record-x-requires t c =
    let can = c.requires.can_lay in
    let P = of_parts can c.record-r.ensures.record c.has_own.ensures c.if-has_own.false c.first_by-first.ensures.0 in
    let below = c.if-k-first.true in
    (omega (arith, a_falls can.counted P.of P below, c.decreases), a_can can.counted P.of P below can.room c.past_words.ensures.1)

pub wrap_a-requires-clause-room : goal.wrap_a-requires-clause-room
wrap_a-requires-clause-room t c =
    let can = c.requires.can_lay in
    let P = of_parts can c.record-r.ensures.record c.has_own.ensures c.if-has_own.false c.first_by-first.ensures.0 in
    a_room can.counted P.of P c.if-k-first.true can.room (c.lay_record-x.ensures _ _ can.counted)

pub returns-then-k-first : goal.returns-then-k-first
returns-then-k-first t c W s C =
    let can = c.requires.can_lay in
    let P = of_parts can c.record-r.ensures.record c.has_own.ensures c.if-has_own.false c.first_by-first.ensures.0 in
    a_lays C P.of P c.if-k-first.true c.tag_a.ensures c.past_words.ensures.0 (c.lay_record-x.ensures W s C) c.wrap_a.ensures

pub lay_record-x-requires-2 : goal.lay_record-x-requires-2
lay_record-x-requires-2 t c =
    let can = c.requires.can_lay in
    let P = of_parts can c.record-r.ensures.record c.has_own.ensures c.if-has_own.false c.first_by-first.ensures.0 in
    let above = c.if-k-first.false in (
      omega (arith, b_falls can.counted P.of P can.least above, c.decreases),
      b_can can.counted P.of P can.least above can.room c.past_words-2.ensures.1,
    )

pub wrap_b-requires-clause-room : goal.wrap_b-requires-clause-room
wrap_b-requires-clause-room t c =
    let can = c.requires.can_lay in
    let P = of_parts can c.record-r.ensures.record c.has_own.ensures c.if-has_own.false c.first_by-first.ensures.0 in
    b_room can.counted P.of P can.least c.if-k-first.false can.room (c.lay_record-x-2.ensures _ _ can.counted)

pub returns : goal.returns
returns t c W s C =
    let can = c.requires.can_lay in
    let P = of_parts can c.record-r.ensures.record c.has_own.ensures c.if-has_own.false c.first_by-first.ensures.0 in
    b_lays C P.of P can.least c.if-k-first.false c.tag_b.ensures c.past_words-2.ensures.0 (c.lay_record-x-2.ensures W s C)
    c.wrap_b.ensures
