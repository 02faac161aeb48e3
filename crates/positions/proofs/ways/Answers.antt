-- By whether it chooses a value (Finding.antt). Assumes nothing.
use mathlib.Core.Path.{◌≡◌, sym, ◌∙◌, ap, subst}
use mathlib.Core.Bool.{true, false}
use Rattle.kinds.specs.Programs.{picks, has_own}
use Rattle.records.specs.declared.Program.{Program}
use Rattle.records.specs.Records.{TwoBytes}
use Rattle.positions.proofs.Finding.{span_is, parts_record, can_fork, can_choose, forked_parts, forked_values}
use Rattle.positions.proofs.ways.Goals as goal

pub fork_values-requires-clause-can_fork : goal.fork_values-requires-clause-can_fork
fork_values-requires-clause-can_fork c =
    let C = c.requires in
    let is = c.record-r.ensures.record in
    let d = c.value_in-d.ensures in
    can_fork C is d

pub fork_values-requires-clause-n_bound : goal.fork_values-requires-clause-n_bound
fork_values-requires-clause-n_bound c =
    let C = c.requires in
    let is = c.record-r.ensures.record in
    let p : picks c.record-r.result.kind ≡ true = sym c.picks.ensures ∙ c.if-picks.true in
    let n = c.value_in-n.ensures ∙ span_is C is p in
    can_choose C is p n

pub returns-then-picks : goal.returns-then-picks
returns-then-picks c =
    let C = c.requires in
    let is = c.record-r.ensures.record in
    let d = c.value_in-d.ensures in
    let p : picks c.record-r.result.kind ≡ true = sym c.picks.ensures ∙ c.if-picks.true in
    let n = c.value_in-n.ensures ∙ span_is C is p in
    record {
      record_is = c.fork_values.ensures.record_is ∙ is;
      fields = subst TwoBytes (sym c.fork_values.ensures.record_is) c.record-r.ensures.fields;
      forked =
          λ o. forked_values C is d n p c.fork_values.ensures;
    }

pub fork_parts-requires : goal.fork_parts-requires
fork_parts-requires c =
    let C = c.requires in
    let is = c.record-r.ensures.record in
    let d = c.value_in-d.ensures in
    can_fork C is d

pub returns : goal.returns
returns c =
    let C = c.requires in
    let is = c.record-r.ensures.record in
    let d = c.value_in-d.ensures in
    let p : picks c.record-r.result.kind ≡ false = sym c.picks.ensures ∙ c.if-picks.false in
    let same = parts_record c.fork_parts.ensures in
    record {
      record_is = same ∙ is;
      fields = subst TwoBytes (sym same) c.record-r.ensures.fields;
      forked =
          λ o. forked_parts C is d p (sym (ap (λ (r : Program). has_own r.kind) same) ∙ o) c.fork_parts.ensures;
    }
