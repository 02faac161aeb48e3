-- A bit of an or is that of either. Assumes nothing.
use Prim.Native.Nat.{ℕ, ◌%◌}
use borrow.Author.Rules.{rules}
use lib.Bits.{bit_or}
use lib.ListN.{get_or}
use Rattle.sets.specs.Sets.{member}
use Rattle.sets.proofs.Bits.{bit_or_lem}
use Rattle.sets.proofs.Members.{has_words}
use Rattle.sets.proofs.either.Goals as goal

pub returns : goal.returns
unfolding member
returns c =
    has_words _ _ (λ (k : ℕ). bit_or (get_or c.args.x k 0) (get_or c.args.y k 0)) (λ k r q h. search rules) c.from_fn.ensures.items
    (λ e l. bit_or_lem _ _ (e % 32))
