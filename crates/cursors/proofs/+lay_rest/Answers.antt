-- Straight down by the place, and on the way back up the other parts beside what is left (Laying.antt). The number of nodes falls. Assumes
-- nothing.
use native.Mathlib.Omega.{arith}
use Rattle.words.proofs.Standing.{leaf_at}
use Rattle.words.proofs.Reading.{holds_room}
use Rattle.cursors.proofs.Laying.{lay_stands, lay_construct, lay_parts, leaf_can, leaf_placed, lay_falls_left, lay_falls_right}
use Rattle.cursors.proofs.Laying.{can_left, left_end, left_placed, can_right, right_end, right_placed}
use Rattle.cursors.proofs.+lay_rest.Goals as goal

pub tag_at-tag-requires : goal.tag_at-tag-requires
tag_at-tag-requires t c = holds_room (lay_stands c.requires)

pub record_at-j-requires : goal.record_at-j-requires
record_at-j-requires t c = holds_room (lay_stands c.requires)

pub lay_record-requires : goal.lay_record-requires
lay_record-requires t c =
    let K = c.requires in
    leaf_can K (omega arith) (leaf_at _ _ _ c.tag_at-tag.ensures K.can.rest K.can.at c.if-tag-eq-LEAF.true) c.record_at-j.ensures

pub returns-then-tag-eq-LEAF : goal.returns-then-tag-eq-LEAF
returns-then-tag-eq-LEAF t c =
    let K = c.requires in
    leaf_placed K (omega arith) (leaf_at _ _ _ c.tag_at-tag.ensures K.can.rest K.can.at c.if-tag-eq-LEAF.true) c.record_at-j.ensures
    c.lay_record.ensures

pub size_at-n-requires : goal.size_at-n-requires
size_at-n-requires t c = (lay_construct c.requires c.tag_at-tag.ensures c.if-tag-eq-LEAF.false).left_room

pub lay_rest-x-requires : goal.lay_rest-x-requires
lay_rest-x-requires t c =
    let K = c.requires in
    let D = lay_parts K c.tag_at-tag.ensures c.if-tag-eq-LEAF.false c.size_at-n.ensures in
    (lay_falls_left K D c.decreases, can_left K D (omega arith) c.if-c-right.true)

pub put_right-requires : goal.put_right-requires
put_right-requires t c =
    let K = c.requires in
    let D = lay_parts K c.tag_at-tag.ensures c.if-tag-eq-LEAF.false c.size_at-n.ensures in
    left_end K D (omega arith) c.if-c-right.true c.lay_rest-x.ensures

pub returns-then-c-right : goal.returns-then-c-right
returns-then-c-right t c =
    let K = c.requires in
    let D = lay_parts K c.tag_at-tag.ensures c.if-tag-eq-LEAF.false c.size_at-n.ensures in
    left_placed K D (omega arith) c.if-c-right.true c.lay_rest-x.ensures c.put_right.ensures

pub lay_rest-x-requires-2 : goal.lay_rest-x-requires-2
lay_rest-x-requires-2 t c =
    let K = c.requires in
    let D = lay_parts K c.tag_at-tag.ensures c.if-tag-eq-LEAF.false c.size_at-n.ensures in
    (lay_falls_right K D c.decreases, can_right K D (omega (arith, c.if-c-right.false)) c.past_words.ensures.1)

pub put_left-requires : goal.put_left-requires
put_left-requires t c =
    let K = c.requires in
    let D = lay_parts K c.tag_at-tag.ensures c.if-tag-eq-LEAF.false c.size_at-n.ensures in
    right_end K D (omega (arith, c.if-c-right.false)) c.past_words.ensures.0 c.lay_rest-x-2.ensures

pub returns : goal.returns
returns t c =
    let K = c.requires in
    let D = lay_parts K c.tag_at-tag.ensures c.if-tag-eq-LEAF.false c.size_at-n.ensures in
    right_placed K D (omega (arith, c.if-c-right.false)) c.past_words.ensures.0 c.lay_rest-x-2.ensures c.put_left.ensures
