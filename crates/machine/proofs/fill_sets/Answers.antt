-- Truths, then where actions are possible, then the records, by the law of Filling. Assumes nothing.
use native.Mathlib.Omega.{arith}
use Rattle.machine.proofs.Filling.{records_allowed, filled_known}
use Rattle.machine.proofs.fill_sets.Goals as goal

pub fill-requires-2 : goal.fill-requires-2
fill-requires-2 c = rw c.new-p.ensures (record {
  room = omega (arith, c.fill.ensures.len, c.fill_possible.ensures.len, c.requires.ruled_tables.1);
  ruled = records_allowed c.requires.ruled_tables.0.once;
  spans_known = c.requires.spans_known;
})

pub returns : goal.returns
returns c =
    filled_known c.requires.ruled_tables.0 c.requires.marks_len.1 c.args.s c.fill.ensures c.fill_possible.ensures (rw c.new-p.ensures at c.fill-2.ensures)
