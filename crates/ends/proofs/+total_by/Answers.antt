-- By the outermost node, and of the parts by the same; the number of nodes falls. A number of a table fits a word, so the sum over the
-- nodes of a frame fits. Assumes nothing.
use mathlib.Core.Path.{◌≡◌, ap, sym, subst, ◌∙◌}
use Rattle.remaining.specs.Rest.{Rest, leaf}
use native.Mathlib.Omega.{arith}
use Rattle.words.proofs.Standing.{gone_at, leaf_at, at_room}
use Rattle.words.proofs.Reading.{holds_room, Construct, construct, Sized, sized}
use Rattle.ends.specs.Ends.{Totalled, Told}
use Rattle.ends.proofs.Asking.{stands, each_leaf, at_parts, asked_leaf, asked_left, asked_right}
use Rattle.ends.proofs.Parts.{total_gone, totals_few, total_node}
use Rattle.ends.proofs.+total_by.Goals as goal

pub tag_at-tag-requires : goal.tag_at-tag-requires
tag_at-tag-requires g t c = let (f, d, n, A) = c.requires.told in holds_room (stands A)

pub returns-then-tag-eq-GONE : goal.returns-then-tag-eq-GONE
returns-then-tag-eq-GONE g t c f d n r h a = total_gone f d n (gone_at _ _ _ c.tag_at-tag.ensures r h c.if-tag-eq-GONE.true)

pub record_at-requires : goal.record_at-requires
record_at-requires g t c = let (f, d, n, A) = c.requires.told in holds_room (stands A)

pub leaf-requires : goal.leaf-requires
leaf-requires g t c = let (f, d, n, A) = c.requires.told in (asked_leaf A c.tag_at-tag.ensures c.if-tag-eq-LEAF.true c.record_at.ensures).0

pub returns-then-tag-eq-LEAF : goal.returns-then-tag-eq-LEAF
returns-then-tag-eq-LEAF g t c f d n r h a =
    let e : leaf c.record_at.result ≡ r = ap leaf c.record_at.ensures ∙ sym (leaf_at _ _ _ c.tag_at-tag.ensures r h c.if-tag-eq-LEAF.true) in
    let told : Told f d n _ c.record_at.result =
    asked_leaf (record { rest = r; at = h; leaves = a }) c.tag_at-tag.ensures c.if-tag-eq-LEAF.true c.record_at.ensures in
    subst (λ (x : Rest). Totalled f d n x c.leaf.result) e (told c.leaf.result c.leaf.ensures)

pub size_at-left-requires : goal.size_at-left-requires
size_at-left-requires g t c =
    let (f, d, n, A) = c.requires.told in
    let L : Construct c.args.work.now c.args.at = construct (stands A) c.tag_at-tag.ensures c.if-tag-eq-GONE.false c.if-tag-eq-LEAF.false in
    L.left_room

pub total_by-l-requires : goal.total_by-l-requires
total_by-l-requires g t c =
    let (f, d, n, A) = c.requires.told in
    let L : Construct c.args.work.now c.args.at = construct (stands A) c.tag_at-tag.ensures c.if-tag-eq-GONE.false c.if-tag-eq-LEAF.false in
    let S : Sized c.args.work.now c.args.at c.tag_at-tag.result c.size_at-left.result =
    sized (stands A) c.tag_at-tag.ensures c.if-tag-eq-GONE.false c.if-tag-eq-LEAF.false c.size_at-left.ensures in
    λ κs m. (L.left_less c.decreases, (m, ((f, d, n, asked_left A S), c.requires.work_len_bound)))

pub total_by-r-requires : goal.total_by-r-requires
total_by-r-requires g t c =
    let (f, d, n, A) = c.requires.told in
    let S : Sized c.args.work.now c.args.at c.tag_at-tag.result c.size_at-left.result =
    sized (stands A) c.tag_at-tag.ensures c.if-tag-eq-GONE.false c.if-tag-eq-LEAF.false c.size_at-left.ensures in
    λ κs m. (S.right_less c.decreases, (m, ((f, d, n, asked_right A S), c.requires.work_len_bound)))

pub join_totals-requires : goal.join_totals-requires
join_totals-requires g t c =
    let (f, d, n, A) = c.requires.told in
    let S : Sized c.args.work.now c.args.at c.tag_at-tag.result c.size_at-left.result =
    sized (stands A) c.tag_at-tag.ensures c.if-tag-eq-GONE.false c.if-tag-eq-LEAF.false c.size_at-left.ensures in
    let P = S.parts_of A.rest A.at in
    let B = at_parts _ P.is (each_leaf (λ i p. p.1) A.rest A.leaves) in
    totals_few f d n P.is (c.total_by-l.ensures f d n P.l P.l_at B.0) (c.total_by-r.ensures f d n P.r P.r_at B.1)
    (omega (arith, at_room A.rest _ _ A.at, c.requires.work_len_bound))

pub returns : goal.returns
returns g t c f d n r h a =
    let (f', d', n', A) = c.requires.told in
    let S : Sized c.args.work.now c.args.at c.tag_at-tag.result c.size_at-left.result =
    sized (stands A) c.tag_at-tag.ensures c.if-tag-eq-GONE.false c.if-tag-eq-LEAF.false c.size_at-left.ensures in
    let P = S.parts_of r h in
    let B = at_parts _ P.is a in
    subst (Totalled f d n r) (sym c.join_totals.ensures)
    (total_node f d n P.is (c.total_by-l.ensures f d n P.l P.l_at B.0) (c.total_by-r.ensures f d n P.r P.r_at B.1))
