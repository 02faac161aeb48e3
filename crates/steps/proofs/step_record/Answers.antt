-- By the record's count: its k-th transition, or what is left of k. Assumes nothing.
use Rattle.steps.proofs.Stepping.{record_can, record_none, record_made}
use Rattle.steps.proofs.step_record.Goals as goal

pub lay_record-x-requires : goal.lay_record-x-requires
lay_record-x-requires c = record {
  can_lay = record_can c.requires.can_step_record c.value_in-count.ensures c.if-k-count.true;
}

pub returns-then-k-count : goal.returns-then-k-count
returns-then-k-count c = record_made _ c.lay_record-x.ensures

pub returns : goal.returns
returns c = record_none c.requires.can_step_record c.value_in-count.ensures c.if-k-count.false c.value_in.ensures
