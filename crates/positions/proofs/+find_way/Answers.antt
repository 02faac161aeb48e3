-- Down by ways; the record number falls, and a way that does not go ends at once (Finding.antt). Assumes nothing.
use mathlib.Core.Path.{sym, ◌∙◌, ap}
use native.Mathlib.Omega.{arith}
use Rattle.kinds.specs.Programs.{has_own}
use Rattle.records.specs.declared.Program.{Program}
use Rattle.positions.proofs.Finding.{way_falls, way_can, way_fits, rank_falls, rank_is, finds_idle, finds_own, by_first, by_second}
use Rattle.positions.proofs.+find_way.Goals as goal

pub enabled_in-requires : goal.enabled_in-requires
enabled_in-requires t c =
    let can = c.requires _ c.in_ok-w.was in
    (can.look.surveyed.prepared.long, omega (arith, can.look.inside, can.look.surveyed.prepared.few), can.look.small)

pub returns-then-not-enabled_in : goal.returns-then-not-enabled_in
returns-then-not-enabled_in t c W s Q =
    let can = c.requires _ c.in_ok-w.was in
    finds_idle Q c.in_ok-w.was can.look.inside can.look.small (sym c.enabled_in.ensures ∙ c.if-not-enabled_in.true)

pub returns-then-has_own : goal.returns-then-has_own
returns-then-has_own t c W s Q =
    let can = c.requires _ c.in_ok-w.was in
    finds_own Q c.in_ok-w.was can.look.inside can.look.small (sym c.enabled_in.ensures ∙ c.if-not-enabled_in.false)
    (sym (ap (λ (r : Program). has_own r.kind) c.ways-f.ensures.record_is) ∙ sym c.has_own.ensures ∙ c.if-has_own.true)
    ∙ sym c.then_some.ensures

pub find_way-requires : goal.find_way-requires
find_way-requires t c =
    let can = c.requires _ c.in_ok-w.was in
    let F = c.ways-f.ensures.forked (sym c.has_own.ensures ∙ c.if-has_own.false) in (
      omega (arith, rank_falls c.in_ok-w.w.i c.ways-f.result.first (λ x g. way_falls can (F.first x g)), rank_is c.in_ok-w.was, c.decreases),
      λ x g. way_can can (F.first x g),
    )

pub overflow_add-result : goal.overflow_add-result
overflow_add-result t c =
    let can = c.requires _ c.in_ok-w.was in
    let F = c.ways-f.ensures.forked (sym c.has_own.ensures ∙ c.if-has_own.false) in
    omega (arith, way_fits can (by_first can.look.surveyed c.in_ok-w.was (F.forks _ _ can.look.surveyed) (c.find_way.ensures _ _ can.look.surveyed ∙ c.in-Some.is)))

pub find_way-requires-2 : goal.find_way-requires-2
find_way-requires-2 t c =
    let can = c.requires _ c.in_ok-w.was in
    let F = c.ways-f.ensures.forked (sym c.has_own.ensures ∙ c.if-has_own.false) in (
      omega (arith, rank_falls c.in_ok-w.w.i c.ways-f.result.second (λ x g. way_falls can (F.second x g)), rank_is c.in_ok-w.was, c.decreases),
      λ x g. way_can can (F.second x g),
    )

pub overflow_add-result-2 : goal.overflow_add-result-2
overflow_add-result-2 t c =
    let can = c.requires _ c.in_ok-w.was in
    let F = c.ways-f.ensures.forked (sym c.has_own.ensures ∙ c.if-has_own.false) in
    omega (
      arith,
      way_fits can
          (by_second can.look.surveyed c.in_ok-w.was (F.forks _ _ can.look.surveyed) (c.find_way.ensures _ _ can.look.surveyed ∙ c.in_default.is)
          (c.find_way-2.ensures _ _ can.look.surveyed ∙ c.in_ok-at.was)),
    )
