-- Finality of the words is that of the remaining program that stands in them: by its outermost node, and of the parts by the same. The
-- number of nodes falls. Assumes nothing.
use Rattle.words.proofs.Standing.{gone_at, leaf_at}
use Rattle.words.proofs.Reading.{holds_room, Construct, construct, Sized, sized}
use Rattle.ends.proofs.Asking.{stands, at_parts, asked_leaf, asked_left, asked_right}
use Rattle.ends.proofs.Parts.{final_gone, final_leaf, final_second, final_first}
use Rattle.ends.proofs.+final_by.Goals as goal

pub tag_at-tag-requires : goal.tag_at-tag-requires
tag_at-tag-requires g t c = holds_room (stands c.requires)

pub returns-then-tag-eq-GONE : goal.returns-then-tag-eq-GONE
returns-then-tag-eq-GONE g t c finals r h a = final_gone _ (gone_at _ _ _ c.tag_at-tag.ensures r h c.if-tag-eq-GONE.true)

pub record_at-requires : goal.record_at-requires
record_at-requires g t c = holds_room (stands c.requires)

pub leaf-requires : goal.leaf-requires
leaf-requires g t c = asked_leaf c.requires c.tag_at-tag.ensures c.if-tag-eq-LEAF.true c.record_at.ensures

pub returns-then-tag-eq-LEAF : goal.returns-then-tag-eq-LEAF
returns-then-tag-eq-LEAF g t c finals r h a =
    let e = leaf_at _ _ _ c.tag_at-tag.ensures r h c.if-tag-eq-LEAF.true in
    final_leaf finals e c.record_at.ensures (asked_leaf (record { rest = r; at = h; leaves = a }) c.tag_at-tag.ensures c.if-tag-eq-LEAF.true c.record_at.ensures _ c.leaf.ensures)

pub size_at-left-requires : goal.size_at-left-requires
size_at-left-requires g t c =
    let L : Construct c.args.work.now c.args.at =
    construct (stands c.requires) c.tag_at-tag.ensures c.if-tag-eq-GONE.false c.if-tag-eq-LEAF.false in
    L.left_room

pub final_by-requires : goal.final_by-requires
final_by-requires g t c =
    let L : Construct c.args.work.now c.args.at =
    construct (stands c.requires) c.tag_at-tag.ensures c.if-tag-eq-GONE.false c.if-tag-eq-LEAF.false in
    let S : Sized c.args.work.now c.args.at c.tag_at-tag.result c.size_at-left.result =
    sized (stands c.requires) c.tag_at-tag.ensures c.if-tag-eq-GONE.false c.if-tag-eq-LEAF.false c.size_at-left.ensures in
    λ κs m. (L.left_less c.decreases, (m, asked_left c.requires S))

pub final_by-requires-then-final_by : goal.final_by-requires-then-final_by
final_by-requires-then-final_by g t c =
    let S : Sized c.args.work.now c.args.at c.tag_at-tag.result c.size_at-left.result =
    sized (stands c.requires) c.tag_at-tag.ensures c.if-tag-eq-GONE.false c.if-tag-eq-LEAF.false c.size_at-left.ensures in
    λ κs m. (S.right_less c.decreases, (m, asked_right c.requires S))

pub returns-then-final_by : goal.returns-then-final_by
returns-then-final_by g t c finals r h a =
    let S : Sized c.args.work.now c.args.at c.tag_at-tag.result c.size_at-left.result =
    sized (stands c.requires) c.tag_at-tag.ensures c.if-tag-eq-GONE.false c.if-tag-eq-LEAF.false c.size_at-left.ensures in
    let P = S.parts_of r h in
    let B = at_parts _ P.is a in
    final_second _ P.is (c.final_by.ensures finals P.l P.l_at B.0) c.if-final_by.true (c.final_by-then-final_by.ensures finals P.r P.r_at B.1)

pub returns : goal.returns
returns g t c finals r h a =
    let S : Sized c.args.work.now c.args.at c.tag_at-tag.result c.size_at-left.result =
    sized (stands c.requires) c.tag_at-tag.ensures c.if-tag-eq-GONE.false c.if-tag-eq-LEAF.false c.size_at-left.ensures in
    let P = S.parts_of r h in
    final_first _ P.is (c.final_by.ensures finals P.l P.l_at (at_parts _ P.is a).0) c.if-final_by.false
