-- The part was made the same as the table, and the rest stands. Assumes nothing.
use Prim.Native.Nat.{◌+◌, ◌-◌}
use mathlib.Core.Path.{◌∙◌}
use native.Mathlib.Omega.{arith}
use lib.ListN.{length}
use borrow.Rule.Slice.PartMut.{same_len_mid}
use Rattle.machine.proofs.Windows.{window_at_long, only_put, window_put}
use Rattle.machine.proofs.put_numbers.Goals as goal

pub returns : goal.returns
returns c =
    let numbers = c.args.numbers.now in
    let o = c.args.at in
    let n = length c.args.«from».now in
    let new = c.copy_from_slice.new.self in
    let long = c.copy_from_slice.auto.self ∙ window_at_long o (o + n) n numbers (omega arith) c.requires in
    record {
      len = same_len_mid o (o + n - o) numbers new c.copy_from_slice.auto.self;
      here = window_put o (o + n) n numbers new (omega arith) c.requires long ∙ c.copy_from_slice.ensures.after;
      only = only_put o (o + n) n numbers new (omega arith) c.requires long;
    }
