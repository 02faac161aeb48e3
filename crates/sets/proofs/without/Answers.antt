-- Of y the complement, whose bits are the others, since a word fits. Assumes nothing.
use Prim.Native.Nat.{ℕ, ◌-◌, ◌%◌, ◌^◌}
use borrow.Author.Rules.{rules}
use native.Mathlib.Omega.{arith}
use lib.Bits.{bit_and}
use lib.ListN.{get_or}
use Rattle.sets.specs.Sets.{member}
use Rattle.sets.proofs.Bits.{bit_without}
use Rattle.sets.proofs.Members.{has_words}
use Rattle.sets.proofs.without.Goals as goal

pub returns : goal.returns
unfolding member
returns c =
    has_words _ _ (λ (k : ℕ). bit_and (get_or c.args.x k 0) (2 ^ 32 - 1 - get_or c.args.y k 0)) (λ k r q h. search rules) c.from_fn.ensures.items
    (λ e l. bit_without _ _ (e % 32) (search rules) (omega arith))
