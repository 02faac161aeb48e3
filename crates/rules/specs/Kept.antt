-- To be believed: the rule that a record of each table keeps, in the words of document 01 ("The sheet, read from its end"); those of a
-- formula and of a program record, which go by kind, are in kinds/specs/Rules.antt. nf, nq, ne, na are the numbers of fluents, formulas,
-- effects and actions. That the tests of Rules.antt decide these rules is proved in proofs/Kept.antt. Assumes nothing.
use Rattle.std.specs.Prelude.{List, ℕ, ◌+◌, ◌≤◌, ◌<◌}
use Rattle.records.specs.Records.{fluent_at, formula_at, effect_at, action_at, program_at}
use Rattle.records.specs.declared.Fluent.{Fluent}
use Rattle.records.specs.declared.Effect.{Effect}
use Rattle.records.specs.declared.Action.{Action}
use Rattle.kinds.specs.Rules.{FormulaRule, ProgramRule}

-- "domain size 1 to 16; initial value below it"
abbrev pub FluentRule : Fluent → Type 0
FluentRule r = (1 ≤ r.size) × (r.size ≤ 16) × (r.initial < r.size)

-- "condition formula (u16), fluent (byte), value (byte, inside the domain)"; size is the domain size of the fluent
abbrev pub EffectRule : (nf nq size : ℕ) → Effect → Type 0
EffectRule nf nq size r = (r.condition < nq) × (r.fluent < nf) × (r.value < size)

-- "precondition formula, first effect, number of effects (u16 each). The range ends at or before E; with no effects, first may equal E"
abbrev pub ActionRule : (nq ne : ℕ) → Action → Type 0
ActionRule nq ne r = (r.precondition < nq) × (r.first + r.count ≤ ne)

-- record i of a table keeps its rule
abbrev pub FluentKept : List ℕ → ℕ → Type 0
FluentKept t i = FluentRule (fluent_at t i)

abbrev pub FormulaKept : (fluents : List ℕ) (nf : ℕ) → List ℕ → ℕ → Type 0
FormulaKept fluents nf t i = FormulaRule nf (fluent_at fluents (formula_at t i).x).size i (formula_at t i)

abbrev pub EffectKept : (fluents : List ℕ) (nf nq : ℕ) → List ℕ → ℕ → Type 0
EffectKept fluents nf nq t i = EffectRule nf nq (fluent_at fluents (effect_at t i).fluent).size (effect_at t i)

abbrev pub ActionKept : (nq ne : ℕ) → List ℕ → ℕ → Type 0
ActionKept nq ne t i = ActionRule nq ne (action_at t i)

abbrev pub ProgramKept : (nq na : ℕ) → List ℕ → ℕ → Type 0
ProgramKept nq na t i = ProgramRule nq na i (program_at t i)
