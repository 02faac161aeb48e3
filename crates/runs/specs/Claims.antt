-- Own vocabulary: what an index of explored configurations claims of one (document 02, F-4), and when that answers for a visit to it. A
-- claim speaks of the configuration and of what its guide asks, and of nothing else: it stays true from one bound to the next, and where
-- nothing is asked from one history to the next. Its laws are in proofs/Claims.antt, what it says of runs among them. Assumes nothing.
use Rattle.std.specs.Prelude.{ℕ, Bool, true, false, ◌&&◌, ◌||◌, List, ◌≡◌, leb, eqb}
use Rattle.std.proofs.Math.Option.{Option}
use Rattle.runs.specs.Search.{nothing, more, is_plan}
use Rattle.runs.specs.Guide.{Guide}
use Rattle.runs.specs.Bounded.{verdict_within}

module _ {C : Type 0} (transitions : C → List (Option ℕ × C)) (final : C → Bool) where
  -- no run of at most `left` transitions ends final; and of runs of one more: with flag 1 there is some, with flag 2 none, else nothing is
  -- known
  pub record Claim (left flag : ℕ) (c : C × Guide) : Type 0 where
    pub none_ends : is_plan (verdict_within transitions final left c) ≡ false
    pub goes_on : flag ≡ 1 → verdict_within transitions final left c ≡ more
    pub is_over : flag ≡ 2 → verdict_within transitions final left c ≡ nothing

-- the flag of a configuration that was explored without a plan: had the bound run out in some run before, and has it now?
abbrev pub claim_flag : (before after : Bool) → ℕ
claim_flag true after = 0
claim_flag false true = 1
claim_flag false false = 2

-- may a configuration be passed over with k transitions left, the bound having run out before or not? With no more left than when it was
-- explored, where only a plan matters or some run goes on. And where none went on: with no fewer left, or where only a plan matters
abbrev pub serves : (cut : Bool) (k left flag : ℕ) → Bool
serves cut k left flag = (leb k left && (cut || eqb flag 1)) || (eqb flag 2 && (cut || leb left k))
