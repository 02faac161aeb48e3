-- The value of an effect is a byte of the table. Assumes nothing.
use Rattle.std.proofs.Common.{◌+◌, ◌*◌, rules}
use Rattle.records.specs.Records.{effect_at}
use Rattle.state.proofs.new_values.Goals as goal

pub new_values-requires-clause-asked : goal.new_values-requires-clause-asked
unfolding effect_at
new_values-requires-clause-asked c = record { condition = λ i f l. search rules; value = λ i f l κs p e r. c.type_inv.effects (4 * i + 3) }
