-- Each row is full or empty by its bit v, which is that of the environment with v in placeholder 0. Assumes nothing.
use Prim.Native.Nat.{ℕ, ◌*◌, ◌/◌, ◌%◌, ◌^◌}
use mathlib.Core.Path.{◌∙◌}
use native.Mathlib.Omega.{arith}
use borrow.Author.Rules.{rules}
use lib.Bits.{bit_and}
use lib.ListN.{get_or}
use Rattle.sets.proofs.Bits.{bit_column}
use Rattle.sets.proofs.Members.{has_words, put_column}
use Rattle.sets.proofs.given_column.Goals as goal

pub returns : goal.returns
returns c =
    has_words _ _ (λ (k : ℕ). bit_and (get_or c.args.x k 0 / 2 ^ c.args.v) 65537 * 65535) (λ k r q h. search rules) c.from_fn.ensures.items
    (λ e l. bit_column (get_or c.args.x (e / 32) 0) c.args.v (e % 32) (omega arith) ∙ put_column c.args.x e c.args.v c.requires)
