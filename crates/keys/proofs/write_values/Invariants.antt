use Rattle.keys.specs.Packed.{WrittenValues}
use Rattle.keys.proofs.write_values.Given as goal

abbrev pub invariant-loop-k : goal.invariant-loop-k
invariant-loop-k l = WrittenValues l.values l.k l.initial.key l.key
