-- Own vocabulary: the rule that a fluent, an effect and an action keeps, as a test that computes (document 01, "The sheet, read from its
-- end"); those of formulas and program records, which go by kind, are in kinds. nf, nq, ne are the numbers of fluents, formulas and
-- effects. That they decide the rules as they are meant (Kept.antt) is proved in proofs/Kept.antt. Assumes nothing.
use Rattle.std.specs.Prelude.{ℕ, ◌+◌, Bool, ◌&&◌, leb, ltb}
use Rattle.records.specs.declared.Fluent.{Fluent}
use Rattle.records.specs.declared.Effect.{Effect}
use Rattle.records.specs.declared.Action.{Action}

-- domain size 1 to 16; initial value below it
unfoldable pub fluent_ok : Fluent → Bool
fluent_ok r = leb 1 r.size && leb r.size 16 && ltb r.initial r.size

-- size is the domain size of the effect's fluent
unfoldable pub effect_ok : (nf nq size : ℕ) → Effect → Bool
effect_ok nf nq size r = ltb r.condition nq && ltb r.fluent nf && ltb r.value size

-- the range ends at or before the number of effects
unfoldable pub action_ok : (nq ne : ℕ) → Action → Bool
action_ok nq ne r = ltb r.precondition nq && leb (r.first + r.count) ne
