-- No record is nearer to its end than the table says: kind by kind, where its parts are not, and a distance that is cut off is less.
-- Assumes nothing.
use mathlib.Core.Path.{◌≡◌, ◌∙◌}
use mathlib.Core.List.{List}
use Prim.Native.Nat.{ℕ, ◌-◌, ◌≤◌, ◌<◌}
use native.Mathlib.Omega.{arith}
use lib.ListN.{get_or}
use Rattle.records.specs.declared.Program.{Program}
use Rattle.records.specs.Table.{up_to, entry_of}
use Rattle.records.proofs.Fills.{default_at, up_at}
use Rattle.kinds.specs.Programs.{distance_by}
use Rattle.golog.specs.Prog.{program_of}
use Rattle.golog.specs.Distance.{distance}
use Rattle.golog.proofs.Distance.{construct_near}
use Rattle.remaining.specs.Rest.{AllLower, Plain}
use Rattle.remaining.proofs.Entries.{entry_rule, lower_a, lower_b, chosen, program_step}
use Rattle.leaves.specs.Distances.{Distances, distance_at, distances_of}

-- a record reads the lower ones through their distances alone
pub distance_same : (r : Program) (l m : List ℕ) → ((a : ℕ) → get_or l a 0 ≡ get_or m a 0) → distance_by r l ≡ distance_by r m
unfolding distance_by
distance_same r l m h = rw (h r.a, h r.b)

module _ (p : ℕ → Program) (m : ℕ) where
  distances_at : (i : ℕ) → i < m → get_or (distances_of p m) i 0 ≡ entry_of 0 (distance_at p) i
  unfolding distances_of
  distances_at i l = default_at 0 (up_to (distance_at p) m) (260 - m) i ∙ up_at 0 (distance_at p) m i l

  pub distances_below : AllLower p → Plain p → Distances p m (distances_of p m)
  unfolding distance_by
  distances_below low plain i l = rw (distances_at i l) (entry_rule 0 (distance_at p) (λ (a d : ℕ). d ≤ distance (program_of p a)) made i)
    where
      made : (a : ℕ) (lower : List ℕ) → ((k : ℕ) → k < a → get_or lower k 0 ≤ distance (program_of p k)) → distance_at p a lower ≤ distance (program_of p a)
      made a lower h =
          rw (program_step p low a)
          (omega (
            arith,
            construct_near (p a).kind (p a).a (p a).b (p a).c _ _ (chosen (program_of p) (p a)) _ _ (λ t. h (p a).a (lower_a p low a t))
                (λ t. h (p a).b (lower_b p low a t))
                (λ t. absurd (rw (plain a) at t)),
          ))
