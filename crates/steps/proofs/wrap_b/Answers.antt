-- Right of part a in a construct of the record's tag, or as it stands where that is 0. Assumes nothing.
use mathlib.Core.Path.{refl}
use native.Mathlib.Omega.{arith}
use Rattle.kinds.proofs.Constructs.{construct_b}
use Rattle.steps.proofs.Wrapping.{beside_b}
use Rattle.steps.proofs.wrap_b.Goals as goal

pub put_leaf_left-requires : goal.put_leaf_left-requires
put_leaf_left-requires c =
    record {
      room = c.requires.room;
      three = construct_b _ c.tag_b-tag.ensures c.if-tag-eq0.false;
      fits = omega (arith, c.requires.in_words.a);
    }

pub returns : goal.returns
returns c = record { entry_is = refl; wrapped = beside_b _ _ _ _ _ c.tag_b-tag.ensures c.if-tag-eq0.false c.put_leaf_left.ensures }
