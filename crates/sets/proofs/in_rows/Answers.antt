-- Rows 2 k and 2 k + 1 are full or empty by those bits of the values. Assumes nothing.
use Prim.Native.Nat.{ℕ, ◌+◌, ◌*◌, ◌/◌, ◌%◌, ◌^◌}
use mathlib.Core.Path.{ap, ◌∙◌}
use native.Mathlib.Omega.{arith}
use borrow.Author.Rules.{rules}
use Rattle.records.specs.Mask.{has_bit}
use Rattle.sets.proofs.Bits.{bit_pair}
use Rattle.sets.proofs.Members.{has_words}
use Rattle.sets.proofs.in_rows.Goals as goal

pub returns : goal.returns
returns c =
    has_words _ _ (λ (k : ℕ). (c.args.values / 2 ^ (2 * k) % 2 + c.args.values / 2 ^ (2 * k) / 2 % 2 * 65536) * 65535) (λ k r q h. search rules) c.from_fn.ensures.items
    (λ e l. bit_pair c.args.values (2 * (e / 32)) (e % 32) (omega arith) ∙ ap (has_bit c.args.values) (omega arith))
