-- Each row is full or empty by whether it has a bit, which is one of the environments with some value in placeholder 0. Assumes nothing.
use Prim.Native.Nat.{ℕ, ◌+◌, ◌*◌, ◌/◌, ◌%◌}
use mathlib.Core.Path.{◌∙◌}
use native.Mathlib.Omega.{arith}
use borrow.Author.Rules.{rules}
use lib.ListN.{get_or}
use Rattle.sets.proofs.Values.{bit_column_any, some_columns}
use Rattle.sets.proofs.Members.{has_words}
use Rattle.sets.proofs.some_column.Goals as goal

pub returns : goal.returns
returns c =
    has_words _ _ (λ (k : ℕ). ((get_or c.args.x k 0 % 65536 + 65535) / 65536 + (get_or c.args.x k 0 / 65536 + 65535) / 65536 * 65536) * 65535) (λ k r q h. search rules) c.from_fn.ensures.items
    (λ e l. bit_column_any (get_or c.args.x (e / 32) 0) (e % 32) (search rules) (omega arith) ∙ some_columns c.args.x e)
