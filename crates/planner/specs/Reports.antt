-- Own vocabulary: a search's outcome as an answer: document 01's numbers 13 and 14. Assumes nothing.
use Rattle.std.specs.Prelude.{Result, Err}
use Rattle.sheet.specs.Check.{refusal_of}
use Rattle.sheet.specs.declared.Refusal.{Refusal}
use Rattle.search.specs.declared.Outcome.{Outcome}
use Rattle.search.specs.declared.Outcome.TheVariants as outcome
use Rattle.planner.specs.declared.Planned.{Planned}
use Rattle.planner.specs.Answers.{planned}

abbrev pub planned_as : Outcome → Result Planned Refusal
planned_as (outcome.Found n t) = planned n t
planned_as outcome.Nothing = Err (refusal_of 13 0)
planned_as outcome.More = Err (refusal_of 14 0)
