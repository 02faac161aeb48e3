-- Down to the left part, and after it, where it goes, to the right one; the number of nodes falls (Stepping.antt). Assumes nothing.
use Rattle.words.proofs.Standing.{gone_at, leaf_at}
use Rattle.words.proofs.Reading.{holds_room, construct}
use Rattle.steps.proofs.Stepping.{can_holds, whatever, gone_left, leaf_can, leaf_steps, split, left_can, left_falls, right_holds, right_can, right_falls}
use Rattle.steps.proofs.Stepping.{made_can, made_stepped, stays_stepped, goes_can, goes_made, goes_passed}
use Rattle.steps.proofs.+step_rest.Goals as goal

pub tag_at-tag-requires : goal.tag_at-tag-requires
tag_at-tag-requires t c = holds_room (can_holds c.requires.can_step)

pub returns-then-tag-eq-GONE : goal.returns-then-tag-eq-GONE
returns-then-tag-eq-GONE t c =
    let can = c.requires.can_step in
    gone_left can (gone_at _ _ _ c.tag_at-tag.ensures can.rest can.at c.if-tag-eq-GONE.true)

pub record_at-i-requires : goal.record_at-i-requires
record_at-i-requires t c = holds_room (can_holds c.requires.can_step)

pub step_record-requires : goal.step_record-requires
step_record-requires t c =
    let can = c.requires.can_step in
    let leaf = leaf_at _ _ _ c.tag_at-tag.ensures can.rest can.at c.if-tag-eq-LEAF.true in
    record { can_step_record = leaf_can can leaf c.record_at-i.ensures }

pub returns-then-tag-eq-LEAF : goal.returns-then-tag-eq-LEAF
returns-then-tag-eq-LEAF t c =
    let can = c.requires.can_step in
    let leaf = leaf_at _ _ _ c.tag_at-tag.ensures can.rest can.at c.if-tag-eq-LEAF.true in
    leaf_steps can leaf c.record_at-i.ensures c.step_record.ensures

pub size_at-n-requires : goal.size_at-n-requires
size_at-n-requires t c =
    (construct (can_holds c.requires.can_step) c.tag_at-tag.ensures c.if-tag-eq-GONE.false c.if-tag-eq-LEAF.false).left_room

pub step_rest-made-requires : goal.step_rest-made-requires
step_rest-made-requires t c =
    let X = split c.requires.can_step c.tag_at-tag.ensures c.if-tag-eq-GONE.false c.if-tag-eq-LEAF.false c.size_at-n.ensures in
    (left_falls X c.decreases, left_can X)

pub put_right-requires : goal.put_right-requires
put_right-requires t c =
    let X = split c.requires.can_step c.tag_at-tag.ensures c.if-tag-eq-GONE.false c.if-tag-eq-LEAF.false c.size_at-n.ensures in
    made_can X X.tabled c.step_rest-made.ensures c.in-Ok.is

pub returns-in-Ok : goal.returns-in-Ok
returns-in-Ok t c =
    let X = split c.requires.can_step c.tag_at-tag.ensures c.if-tag-eq-GONE.false c.if-tag-eq-LEAF.false c.size_at-n.ensures in
    whatever c.requires.can_step (λ W s T. made_stepped X T c.step_rest-made.ensures c.in-Ok.is c.put_right.ensures)

pub final_after-done-requires : goal.final_after-done-requires
final_after-done-requires t c =
    let X = split c.requires.can_step c.tag_at-tag.ensures c.if-tag-eq-GONE.false c.if-tag-eq-LEAF.false c.size_at-n.ensures in
    right_holds X c.step_rest-made.ensures

pub returns-then-not-goes_right : goal.returns-then-not-goes_right
returns-then-not-goes_right t c =
    let X = split c.requires.can_step c.tag_at-tag.ensures c.if-tag-eq-GONE.false c.if-tag-eq-LEAF.false c.size_at-n.ensures in
    whatever c.requires.can_step
    (λ W s T. stays_stepped X T c.step_rest-made.ensures c.in-Err.is c.goes_right.ensures c.if-not-goes_right.true c.final_after-done.ensures)

pub step_rest-u-requires : goal.step_rest-u-requires
step_rest-u-requires t c =
    let X = split c.requires.can_step c.tag_at-tag.ensures c.if-tag-eq-GONE.false c.if-tag-eq-LEAF.false c.size_at-n.ensures in
    let M = c.step_rest-made.ensures in
    (right_falls X M c.decreases, right_can X M c.past_words.ensures.1)

pub put_left-requires : goal.put_left-requires
put_left-requires t c =
    let X = split c.requires.can_step c.tag_at-tag.ensures c.if-tag-eq-GONE.false c.if-tag-eq-LEAF.false c.size_at-n.ensures in
    goes_can X X.tabled c.step_rest-made.ensures c.in-Err.is c.goes_right.ensures c.if-not-goes_right.false c.past_words.ensures.0 c.step_rest-u.ensures c.in-Ok-u.is

pub returns-in-Ok-u : goal.returns-in-Ok-u
returns-in-Ok-u t c =
    let X = split c.requires.can_step c.tag_at-tag.ensures c.if-tag-eq-GONE.false c.if-tag-eq-LEAF.false c.size_at-n.ensures in
    whatever c.requires.can_step
    (λ W s T. goes_made X T c.step_rest-made.ensures c.in-Err.is c.goes_right.ensures c.if-not-goes_right.false c.past_words.ensures.0 c.step_rest-u.ensures c.in-Ok-u.is c.put_left.ensures)

pub returns-in-Err-u : goal.returns-in-Err-u
returns-in-Err-u t c =
    let X = split c.requires.can_step c.tag_at-tag.ensures c.if-tag-eq-GONE.false c.if-tag-eq-LEAF.false c.size_at-n.ensures in
    whatever c.requires.can_step
    (λ W s T. goes_passed X T c.step_rest-made.ensures c.in-Err.is c.goes_right.ensures c.if-not-goes_right.false c.past_words.ensures.0 c.step_rest-u.ensures c.in-Err-u.is)
