-- The thirteen worked cases, the further rows, those of F-1 and F-2 and the edges, each list by one computation. Assumes nothing.
use mathlib.Core.List.{flatten}
use mathlib.Core.Path.{refl}
use Rattle.records.specs.Records.{fluent_at, formula_at, effect_at, action_at, program_at}
use Rattle.records.specs.Lowest.{lowest_from, lowest}
use Rattle.records.specs.Table.{up_to, entry_of}
use Rattle.kinds.specs.Truth.{truth_of}
use Rattle.kinds.specs.Programs.{field_a, field_b, field_c, program_ok, links}
use Rattle.kinds.specs.Names.{names_of}
use Rattle.named.specs.Named.{names, conditions_name, action_names, table_names}
use Rattle.kinds.specs.Formulas.{field_x, formula_ok}
use Rattle.kinds.specs.Formulas.{field_a as formulaA, field_b as formulaB}
use Rattle.rules.specs.Rules.{fluent_ok, effect_ok, action_ok}
use Rattle.height.specs.Height.{height_over, height_at, rise, interrupts}
use Rattle.height.specs.Work.{levels}
use Rattle.sheet.specs.Trailer.{trailer_in, limits_ok, distance_ok}
use Rattle.sheet.specs.Layout.{layout_in, layout_of}
use Rattle.sheet.specs.Check.{refused_at, tables_checked, height_checked, trailer_checked, check_of}
use Rattle.records.specs.Some.{some_from}
use Rattle.records.specs.Mask.{mask_of}
use Rattle.golog.specs.World.{holds, conflicting, straying, possible_by, given, each, changed, perform_by}
use Rattle.golog.specs.Prog.{construct, program_of}
use Rattle.golog.specs.Transitions.{final, transitions}
use Rattle.demands.specs.Planning.{verdict_of, accepts_of, plan_of, replay_of}
use Rattle.demands.specs.Cases.{All, rows, further, firsts, conflicts, named, edges}

-- opens what the rows compute with: records, their rules, height, check, formulas and effects, programs and their steps, plan and replay
computing : Unit {0}
unfolding
    flatten fluent_at formula_at effect_at action_at program_at lowest_from lowest up_to entry_of
    field_x formulaA formulaB formula_ok field_a field_b field_c program_ok links
    fluent_ok effect_ok action_ok height_over height_at rise interrupts levels
    trailer_in limits_ok distance_ok layout_in layout_of refused_at tables_checked height_checked trailer_checked check_of
    mask_of names_of names conditions_name action_names table_names truth_of holds some_from conflicting straying possible_by given each changed perform_by construct program_of final transitions
    verdict_of accepts_of plan_of replay_of
computing = tt

pub all_cases : All rows
unfolding computing
all_cases = (refl, (refl, ((refl, refl), (refl, ((refl, refl), (refl, ((refl, refl, refl, refl), (refl, (refl, (refl, (refl, (refl, ((refl, refl), tt)))))))))))))

pub all_further : All further
unfolding computing
all_further = ((refl, refl, refl, refl, refl, refl, refl), ((refl, refl, refl, refl, refl, refl), ((refl, refl, refl, refl, refl, refl), ((refl, refl, refl, refl, refl, refl), tt))))

pub all_firsts : All firsts
unfolding computing
all_firsts = (refl, (refl, (refl, (refl, (refl, tt)))))

pub all_conflicts : All conflicts
unfolding computing
all_conflicts = (refl, ((refl, refl, refl), (refl, (refl, ((refl, refl), ((refl, refl), tt))))))

pub all_named : All named
unfolding computing
all_named =
    ((refl, refl, refl, refl, refl, refl, refl, refl), ((refl, refl, refl), ((refl, refl), ((refl, refl, refl, refl, refl), ((refl, refl), tt)))))

pub all_edges : All edges
unfolding computing
all_edges = ((refl, refl), ((refl, refl), ((refl, refl), tt)))
