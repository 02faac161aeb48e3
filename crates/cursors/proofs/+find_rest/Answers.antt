-- One pass: by the outermost node, and of the parts by the same (Pointing.antt). The number of nodes falls. Assumes nothing.
use mathlib.Core.Path.{refl, ◌∙◌}
use Rattle.words.proofs.Standing.{gone_at, leaf_at}
use Rattle.words.proofs.Reading.{holds_room, construct, sized}
use Rattle.cursors.proofs.Ending.{final_is}
use Rattle.cursors.proofs.Pointing.{left_there, right_stays, right_there, neither_there, gone_points, leaf_points}
use Rattle.cursors.proofs.Pointing.{point_stands, point_inside, point_look, point_left, point_right, point_end}
use Rattle.cursors.proofs.+find_rest.Goals as goal

pub tag_at-tag-requires : goal.tag_at-tag-requires
tag_at-tag-requires t c = holds_room (point_stands c.requires)

pub returns-then-tag-eq-GONE : goal.returns-then-tag-eq-GONE
returns-then-tag-eq-GONE t c W s Q g h = gone_points W s _ _ _ (gone_at _ _ _ c.tag_at-tag.ensures g h c.if-tag-eq-GONE.true)

pub record_at-n-requires : goal.record_at-n-requires
record_at-n-requires t c = holds_room (point_stands c.requires)

pub find_leaf-requires : goal.find_leaf-requires
find_leaf-requires t c =
    let K = c.requires in
    point_look K (leaf_at _ _ _ c.tag_at-tag.ensures K.rest K.at c.if-tag-eq-LEAF.true) c.record_at-n.ensures

pub returns-then-tag-eq-LEAF : goal.returns-then-tag-eq-LEAF
returns-then-tag-eq-LEAF t c W s Q g h = leaf_points _ _ _ c.find_leaf.ensures Q (leaf_at _ _ _ c.tag_at-tag.ensures g h c.if-tag-eq-LEAF.true)
    c.record_at-n.ensures

pub size_at-requires : goal.size_at-requires
size_at-requires t c =
    let L = construct (point_stands c.requires) c.tag_at-tag.ensures c.if-tag-eq-GONE.false c.if-tag-eq-LEAF.false in
    L.left_room

pub find_rest-requires : goal.find_rest-requires
find_rest-requires t c =
    let Z = sized (point_stands c.requires) c.tag_at-tag.ensures c.if-tag-eq-GONE.false c.if-tag-eq-LEAF.false c.size_at.ensures in
    let L = construct (point_stands c.requires) c.tag_at-tag.ensures c.if-tag-eq-GONE.false c.if-tag-eq-LEAF.false in
    let K = c.requires in
    (L.left_less c.decreases, point_left K (Z.parts_of K.rest K.at))

pub returns-in-Ok : goal.returns-in-Ok
returns-in-Ok t c W s Q g h =
    let Z = sized (point_stands c.requires) c.tag_at-tag.ensures c.if-tag-eq-GONE.false c.if-tag-eq-LEAF.false c.size_at.ensures in
    let D = Z.parts_of g h in
    left_there D W s _ _ (c.in-Ok.ensures W s Q D.l D.l_at)

pub final_rest-requires : goal.final_rest-requires
final_rest-requires t c =
    let Z = sized (point_stands c.requires) c.tag_at-tag.ensures c.if-tag-eq-GONE.false c.if-tag-eq-LEAF.false c.size_at.ensures in
    let K = c.requires in
    point_end (point_right K (Z.parts_of K.rest K.at))

pub returns-then-x : goal.returns-then-x
returns-then-x t c W s Q g h =
    let Z = sized (point_stands c.requires) c.tag_at-tag.ensures c.if-tag-eq-GONE.false c.if-tag-eq-LEAF.false c.size_at.ensures in
    let D = Z.parts_of g h in
    let K = c.requires in
    let same = final_is Q D.r (point_inside (point_right K (Z.parts_of K.rest K.at)) D.r D.r_at) in
    right_stays D W s _ _ (c.in-Err.ensures W s Q D.l D.l_at) c.goes_right.ensures c.if-not-goes_right.true (rw c.if-x.true (c.final_rest.ensures D.r D.r_at ∙ same))

pub returns-else-x : goal.returns-else-x
returns-else-x t c W s Q g h =
    let Z = sized (point_stands c.requires) c.tag_at-tag.ensures c.if-tag-eq-GONE.false c.if-tag-eq-LEAF.false c.size_at.ensures in
    let D = Z.parts_of g h in
    right_stays D W s _ _ (c.in-Err.ensures W s Q D.l D.l_at) c.goes_right.ensures c.if-not-goes_right.true (rw c.if-x.false refl)

pub find_rest-requires-2 : goal.find_rest-requires-2
find_rest-requires-2 t c =
    let Z = sized (point_stands c.requires) c.tag_at-tag.ensures c.if-tag-eq-GONE.false c.if-tag-eq-LEAF.false c.size_at.ensures in
    let K = c.requires in
    (Z.right_less c.decreases, point_right K (Z.parts_of K.rest K.at))

pub returns-in-Ok-find_rest : goal.returns-in-Ok-find_rest
returns-in-Ok-find_rest t c W s Q g h =
    let Z = sized (point_stands c.requires) c.tag_at-tag.ensures c.if-tag-eq-GONE.false c.if-tag-eq-LEAF.false c.size_at.ensures in
    let D = Z.parts_of g h in
    right_there D W s _ _ (c.in-Err.ensures W s Q D.l D.l_at) c.goes_right.ensures c.if-not-goes_right.false (c.in-Ok-find_rest.ensures W s Q D.r D.r_at)

pub returns : goal.returns
returns t c W s Q g h =
    let Z = sized (point_stands c.requires) c.tag_at-tag.ensures c.if-tag-eq-GONE.false c.if-tag-eq-LEAF.false c.size_at.ensures in
    let D = Z.parts_of g h in
    neither_there D W s _ _ (c.in-Err.ensures W s Q D.l D.l_at) c.goes_right.ensures c.if-not-goes_right.false (c.in-Err-find_rest.ensures W s Q D.r D.r_at)
