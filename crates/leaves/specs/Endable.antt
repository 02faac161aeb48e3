-- Own vocabulary: which records may be final in some state, and which are in every one: what can be told without looking at one, so that
-- only the others are looked at in each. Assumes nothing.
use Rattle.std.specs.Prelude.{ℕ, ◌+◌, ◌-◌, ◌≤◌, ◌<◌, ◌≡◌, Bool, true, false, not, ◌&&◌, List, ◌++◌, get_or, replicate}
use Rattle.records.specs.declared.Program.{Program}
use Rattle.records.specs.Table.{up_to}
use Rattle.records.specs.Lowest.{lowest_from}
use Rattle.kinds.specs.Programs.{final_bound_by}
use Rattle.golog.specs.declared.State.{State}
use Rattle.golog.specs.World.{World}
use Rattle.remaining.specs.Extended.{most_records}
use Rattle.remaining.specs.Leaves.{leaf_of}
use Rattle.remaining.specs.Rest.{AllLower, Plain}
use Rattle.leaves.specs.Tallies.{Sees, ReadsActions}

-- of the first m records of p, each that is final in some state is marked
abbrev pub Endable : (p : ℕ → Program) (m : ℕ) (endable : List Bool) → Type 0
Endable p m endable = (W : World) (s : State) (i : ℕ) → i < m → (leaf_of W s p i).final ≡ true → get_or endable i true ≡ true

-- of the first m records of p, each that is marked is final in every state
abbrev pub Sure : (p : ℕ → Program) (m : ℕ) (sure : List Bool) → Type 0
Sure p m sure = (W : World) (s : State) (i : ℕ) → i < m → get_or sure i true ≡ true → (leaf_of W s p i).final ≡ true

-- record i of the table p, given the lower ones
abbrev pub final_bound_at : (most : Bool) (p : ℕ → Program) → ℕ → (lower : List Bool) → Bool
final_bound_at most p i lower = final_bound_by (p i) most lower

-- the table of the first m records of p, and in the places after them what nil is. With `most` it is `Endable`, without it is `Sure`
-- (proofs/Marking.antt)
unfoldable pub final_bounds_of : (most : Bool) (p : ℕ → Program) (m : ℕ) → List Bool
final_bounds_of most p m = up_to (final_bound_at most p) m ++ replicate (most_records - m) true

-- record i is as final as `endable` says, in every state
abbrev pub Settled : (p : ℕ → Program) (endable : List Bool) (i : ℕ) → Type 0
Settled p endable i = (W : World) (s : State) → (leaf_of W s p i).final ≡ get_or endable i true

-- from record i on, those up to skips[i] are settled, of the first m
pub record Skips (p : ℕ → Program) (m : ℕ) (endable : List Bool) (skips : List ℕ) : Type 0 where
  pub onward : (i : ℕ) → i ≤ m → i ≤ get_or skips i m
  pub settled : (i a : ℕ) → i ≤ a → a < get_or skips i m → a < m → Settled p endable a

-- whether the finality of record i depends on the state: in some it may be final, and not in every one
abbrev pub doubt_by : (endable sure : List Bool) (i : ℕ) → Bool
doubt_by endable sure i = get_or endable i true && not (get_or sure i true)

-- from record i on, the first of the m records whose finality depends on the state, or m
abbrev pub skip_from : (endable sure : List Bool) (m i : ℕ) → ℕ
skip_from endable sure m i = lowest_from (λ (a : ℕ). not (doubt_by endable sure a)) i (m - i)

-- so for each of the first m records of p, and m in the places after them. Where `endable` is `Endable`, these are `Skips`
-- (proofs/Skipping.antt)
unfoldable pub skips_of : (p : ℕ → Program) (m : ℕ) (endable : List Bool) → List ℕ
skips_of p m endable = up_to (λ (i : ℕ) (lower : List ℕ). skip_from endable (final_bounds_of false p m) m i) m ++ replicate (most_records + 1 - m) m

-- the table says of each of the first m records whether it is final in the state s; places after them are left open
abbrev pub AreFinal : World → State → (p : ℕ → Program) (m : ℕ) (finals : List Bool) → Type 0
AreFinal W s p m finals = (i : ℕ) → i < m → get_or finals i true ≡ (leaf_of W s p i).final

-- so of every state that `truths`, some `can` and `running` say
abbrev pub FinalsKnown : (p : ℕ → Program) (m : ℕ) (truths : List Bool) (running : Bool) (finals : List Bool) → Type 0
FinalsKnown p m truths running finals = (W : World) (s : State) (can : ℕ → Bool) → Sees W s p m truths can running → AreFinal W s p m finals

-- what is asked before transitions are counted: records name lower ones and actions of the table and choose no value, and which are final
-- is known
pub record Tallyable (p : ℕ → Program) (m : ℕ) (actions : List ℕ) (truths : List Bool) (running : Bool) (finals : List Bool) : Type 0 where
  pub lower : AllLower p
  pub plain : Plain p
  pub acts_known : ReadsActions actions p
  pub finals_known : FinalsKnown p m truths running finals
