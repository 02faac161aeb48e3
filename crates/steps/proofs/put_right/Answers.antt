-- The right part is copied by its size, which is read where it stands (Wrapping.antt). Assumes nothing.
use mathlib.Core.Path.{refl}
use Rattle.words.proofs.Reading.{holds_room}
use Rattle.steps.proofs.Wrapping.{right_stands, copy_can, beside_right}
use Rattle.steps.proofs.put_right.Goals as goal

pub size_at-m-requires : goal.size_at-m-requires
size_at-m-requires c = holds_room (right_stands c.requires)

pub put_copy_right-requires : goal.put_copy_right-requires
put_copy_right-requires c = copy_can c.requires c.size_at-m.ensures

pub returns : goal.returns
returns c = record { entry_is = refl; wraps = beside_right c.requires c.size_at-m.ensures c.put_copy_right.ensures }
