-- To be believed: document 01's number, place and values of the answers of planning, replay and `sizes`, case by case: number 0 where there
-- is none, and "beside it every other result is 0". Assumes nothing.
use Rattle.std.specs.Prelude.{ℕ, Bool, true, false, Result, Ok, Err}
use Rattle.sheet.specs.declared.Refusal.{Refusal}
use Rattle.planner.specs.declared.Planned.{Planned}
use Rattle.planner.specs.declared.Size.{Size}

-- planning: n moves and t transitions
abbrev pub plan_number : Result Planned Refusal → ℕ
plan_number (Ok x) = 0
plan_number (Err why) = why.number

abbrev pub plan_place : Result Planned Refusal → ℕ
plan_place (Ok x) = 0
plan_place (Err why) = why.place

abbrev pub plan_moves : Result Planned Refusal → ℕ
plan_moves (Ok x) = x.n
plan_moves (Err why) = 0

abbrev pub plan_transitions : Result Planned Refusal → ℕ
plan_transitions (Ok x) = x.t
plan_transitions (Err why) = 0

-- replay: 1 for yes, 0 for no
abbrev pub reply_number : Result Bool Refusal → ℕ
reply_number (Ok accepted) = 0
reply_number (Err why) = why.number

abbrev pub reply_place : Result Bool Refusal → ℕ
reply_place (Ok accepted) = 0
reply_place (Err why) = why.place

abbrev pub reply_yes : Result Bool Refusal → ℕ
reply_yes (Ok true) = 1
reply_yes (Ok false) = 0
reply_yes (Err why) = 0

-- sizes: F and D
abbrev pub sizes_number : Result Size Refusal → ℕ
sizes_number (Ok x) = 0
sizes_number (Err why) = why.number

abbrev pub sizes_place : Result Size Refusal → ℕ
sizes_place (Ok x) = 0
sizes_place (Err why) = why.place

abbrev pub sizes_fluents : Result Size Refusal → ℕ
sizes_fluents (Ok x) = x.fluents
sizes_fluents (Err why) = 0

abbrev pub sizes_bound : Result Size Refusal → ℕ
sizes_bound (Ok x) = x.bound
sizes_bound (Err why) = 0
