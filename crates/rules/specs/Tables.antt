-- Own vocabulary: whether record i of a table keeps its rule, as a test that computes. Assumes nothing.
use Rattle.std.specs.Prelude.{ℕ, Bool, List}
use Rattle.records.specs.Records.{fluent_at, formula_at, effect_at, action_at, program_at}
use Rattle.kinds.specs.Programs.{program_ok}
use Rattle.kinds.specs.Formulas.{formula_ok}
use Rattle.rules.specs.Rules.{fluent_ok, effect_ok, action_ok}

abbrev pub fluents_ok : List ℕ → ℕ → Bool
fluents_ok t i = fluent_ok (fluent_at t i)

abbrev pub formulas_ok : (fluents : List ℕ) (nf : ℕ) → List ℕ → ℕ → Bool
formulas_ok fluents nf t i = formula_ok nf (fluent_at fluents (formula_at t i).x).size i (formula_at t i)

abbrev pub effects_ok : (fluents : List ℕ) (nf nq : ℕ) → List ℕ → ℕ → Bool
effects_ok fluents nf nq t i = effect_ok nf nq (fluent_at fluents (effect_at t i).fluent).size (effect_at t i)

abbrev pub actions_ok : (nq ne : ℕ) → List ℕ → ℕ → Bool
actions_ok nq ne t i = action_ok nq ne (action_at t i)

abbrev pub programs_ok : (nq na : ℕ) → List ℕ → ℕ → Bool
programs_ok nq na t i = program_ok nq na i (program_at t i)
