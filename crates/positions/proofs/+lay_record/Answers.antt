-- Down by ways, and on the way back up a construct around what was laid out; the record number falls (Placing.antt). Assumes nothing.
use mathlib.Core.Path.{◌≡◌, refl, sym, ◌∙◌}
use mathlib.Core.Bool.{false}
use native.Mathlib.Omega.{arith}
use Rattle.kinds.specs.Programs.{has_own}
use Rattle.positions.proofs.Placing.{is_read, place_falls, first_leads, can_first, first_room, first_laid, second_goes, second_leads, can_second, second_room, second_laid, own_laid}
use Rattle.positions.proofs.+lay_record.Goals as goal

pub returns-then-has_own : goal.returns-then-has_own
returns-then-has_own t c =
    let C = c.requires in
    let is = is_read C.look c.ways-f.ensures.record_is c.value_in.ensures c.read-r.ensures.0 in
    own_laid C c.ways-f.ensures is (sym c.has_own.ensures ∙ c.if-has_own.true) c.lay_own.ensures

pub lay_record-x-requires : goal.lay_record-x-requires
lay_record-x-requires t c =
    let C = c.requires in
    let is = is_read C.look c.ways-f.ensures.record_is c.value_in.ensures c.read-r.ensures.0 in
    let other : has_own c.read-r.result.kind ≡ false = sym c.has_own.ensures ∙ c.if-has_own.false in
    let goes = c.in-Some.is in (
      omega (arith, place_falls C (first_leads C c.ways-f.ensures is other goes), c.decreases),
      can_first C c.ways-f.ensures is other goes _ c.past_words.ensures.1,
    )

pub wrap_a-requires-clause-room : goal.wrap_a-requires-clause-room
wrap_a-requires-clause-room t c =
    let C = c.requires in
    let is = is_read C.look c.ways-f.ensures.record_is c.value_in.ensures c.read-r.ensures.0 in
    let other : has_own c.read-r.result.kind ≡ false = sym c.has_own.ensures ∙ c.if-has_own.false in first_room C c.ways-f.ensures is other c.in-Some.is c.lay_record-x.ensures

pub returns-in-Some : goal.returns-in-Some
returns-in-Some t c =
    let C = c.requires in
    let is = is_read C.look c.ways-f.ensures.record_is c.value_in.ensures c.read-r.ensures.0 in
    let other : has_own c.read-r.result.kind ≡ false = sym c.has_own.ensures ∙ c.if-has_own.false in
    first_laid C c.ways-f.ensures is other c.in-Some.is c.lay_record-x.result c.lay_record-x.ensures c.tag_a.ensures
    c.past_words.ensures.0 refl
    c.reading_of.ensures.0 c.wrap_a.ensures

pub unwrap-w-requires : goal.unwrap-w-requires
unwrap-w-requires t c =
    let C = c.requires in
    let is = is_read C.look c.ways-f.ensures.record_is c.value_in.ensures c.read-r.ensures.0 in
    let other : has_own c.read-r.result.kind ≡ false = sym c.has_own.ensures ∙ c.if-has_own.false in
    second_goes C c.ways-f.ensures is other c.in_default.is

pub lay_record-x-requires-2 : goal.lay_record-x-requires-2
lay_record-x-requires-2 t c =
    let C = c.requires in
    let is = is_read C.look c.ways-f.ensures.record_is c.value_in.ensures c.read-r.ensures.0 in
    let other : has_own c.read-r.result.kind ≡ false = sym c.has_own.ensures ∙ c.if-has_own.false in
    let stays = c.in_default.is in (
      omega (arith, place_falls C (second_leads C c.ways-f.ensures is other stays c.unwrap-w.ensures), c.decreases),
      can_second C c.ways-f.ensures is other stays c.unwrap-w.ensures _ c.past_words-2.ensures.1,
    )

pub wrap_b-requires-clause-room : goal.wrap_b-requires-clause-room
wrap_b-requires-clause-room t c =
    let C = c.requires in
    let is = is_read C.look c.ways-f.ensures.record_is c.value_in.ensures c.read-r.ensures.0 in
    let other : has_own c.read-r.result.kind ≡ false = sym c.has_own.ensures ∙ c.if-has_own.false in
    second_room C c.ways-f.ensures is other c.in_default.is c.unwrap-w.ensures c.lay_record-x-2.ensures

pub returns : goal.returns
returns t c =
    let C = c.requires in
    let is = is_read C.look c.ways-f.ensures.record_is c.value_in.ensures c.read-r.ensures.0 in
    let other : has_own c.read-r.result.kind ≡ false = sym c.has_own.ensures ∙ c.if-has_own.false in
    second_laid C c.ways-f.ensures is other c.in_default.is c.unwrap-w.ensures c.lay_record-x-2.result c.lay_record-x-2.ensures c.tag_b.ensures
    c.past_words-2.ensures.0 refl c.wrap_b.ensures
