-- Left of its sibling in a construct of the record's tag, or as it stands where that is 0. Assumes nothing.
use mathlib.Core.Path.{refl}
use Prim.Native.Nat.{◌^◌}
use native.Mathlib.Omega.{arith}
use Rattle.kinds.specs.Programs.{loops}
use Rattle.kinds.proofs.Constructs.{construct_a}
use Rattle.steps.proofs.Wrapping.{beside_a, choice_few}
use Rattle.steps.proofs.wrap_a.Goals as goal

pub put_leaf_right-requires : goal.put_leaf_right-requires
put_leaf_right-requires c =
    let r = c.args.r in
    record {
      room = c.requires.room;
      three = construct_a _ c.tag_a-tag.ensures c.if-tag-eq0.false;
      fits = omega (arith, c.sibling.ensures, choice_few (loops r.kind) _ r.b (2 ^ 32) c.requires.i_bound (omega (arith, c.requires.in_words.b)));
    }

pub returns : goal.returns
returns c = record { entry_is = refl; wrapped = beside_a _ _ _ _ _ c.tag_a-tag.ensures c.if-tag-eq0.false c.sibling.ensures c.put_leaf_right.ensures }
