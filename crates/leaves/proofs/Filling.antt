-- The table holds the counts of the records below i, and which are final is known, so what is put for record i is its count: by the one
-- shape of all kinds, which reads the parts that the kind has, cut at the cap as they were. Assumes nothing.
use mathlib.Core.Path.{◌≡◌, sym, ◌∙◌, ap}
use mathlib.Core.Bool.{Bool, true}
use mathlib.Core.List.{List}
use Prim.Native.Nat.{ℕ, ◌+◌, ◌<◌, min}
use native.Mathlib.Omega.{arith}
use lib.ListN.{length, get_or, set}
use Rattle.records.specs.declared.Program.{Program}
use Rattle.records.specs.Table.{up_to}
use Rattle.records.proofs.Fills.{Refilled, refill_at, refill_more, up_at}
use Rattle.kinds.specs.Programs.{count_by}
use Rattle.kinds.proofs.Counting.{count_same, count_capped}
use Rattle.golog.specs.declared.State.{State}
use Rattle.golog.specs.World.{World}
use Rattle.remaining.specs.Leaves.{Leaf, nil_leaf, leaf_at, leaf_of}
use Rattle.remaining.specs.Rest.{AllLower, Plain}
use Rattle.remaining.proofs.Counts.{leaf_count}
use Rattle.remaining.proofs.Entries.{lower_a, lower_b}
use Rattle.leaves.specs.Tallies.{cap, capped_count, SeesRecord}
use Rattle.leaves.specs.Endable.{AreFinal}

module _ (W : World) (s : State) (p : ℕ → Program) (low : AllLower p) (plain : Plain p) {m : ℕ} (finals : List Bool) (F : AreFinal W s p m finals)
    {old counts : List ℕ} {i : ℕ} (B : Refilled (leaf_at W s p) capped_count old counts i) (l : i < m)
    {truths : List Bool} {can : ℕ → Bool} {running : Bool} (S : SeesRecord W s truths can (p i)) (e : s.running ≡ running) where
  part_in : (a : ℕ) → a < i → let A = get_or (up_to (leaf_at W s p) i) a nil_leaf in (get_or finals a true ≡ A.final) × (get_or counts a 0 ≡ capped_count A)
  unfolding leaf_of
  part_in a h = (F a (omega arith) ∙ ap (λ (y : Leaf). y.final) (sym (up_at nil_leaf (leaf_at W s p) i a h)), refill_at (leaf_at W s p) capped_count B nil_leaf a h)

  count_right : min cap (count_by (p i) (can (p i).a) truths running finals counts) ≡ capped_count (leaf_at W s p i (up_to (leaf_at W s p) i))
  unfolding count_by
  count_right =
      rw (← e, plain i)
      (ap (min cap)
      (count_same (p i).kind s.running S.act S.test S.condition (λ t. part_in (p i).a (lower_a p low i t)) (λ t. (part_in (p i).b (lower_b p low i t)).1))
      ∙ sym (count_capped cap _ _ _ _ _ _ _ _ (omega arith))
      ∙ ap (min cap) (sym (leaf_count W s (p i) i _ _)))

  pub next : i < length old → {k : ℕ} → k ≡ min cap (count_by (p i) (can (p i).a) truths running finals counts) → Refilled (leaf_at W s p) capped_count old (set counts i k) (i + 1)
  next h ek = refill_more (leaf_at W s p) capped_count B h (ek ∙ count_right)
