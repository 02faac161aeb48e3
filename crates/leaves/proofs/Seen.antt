-- What the truths of a state and its possible actions tell of the records of the sheet, they tell of the table that runs. Assumes nothing.
use mathlib.Core.Path.{◌≡◌, refl, ◌∙◌, ap}
use mathlib.Core.Bool.{Bool, true, false}
use mathlib.Core.List.{List}
use Prim.Native.Nat.{ℕ, zero, suc, ◌-◌, ◌<◌}
use native.Mathlib.Decide.{dec_lt}
use native.Mathlib.Omega.{arith}
use lib.Dec.{T}
use lib.ListN.{get_or}
use Rattle.records.specs.declared.Program.{Program}
use Rattle.kinds.specs.Programs.{field_a, field_c}
use Rattle.golog.specs.declared.State.{State}
use Rattle.golog.specs.World.{World, special, possible_by}
use Rattle.remaining.specs.Extended.{empty, virtual, extended}
use Rattle.remaining.proofs.Started.{table_below, table_above}
use Rattle.leaves.specs.Tallies.{SeesRecord, Sees}

module _ (W : World) (s : State) (truths : List Bool) (can : ℕ → Bool) (always : (a : ℕ) → T (special a) → can a ≡ true) where
  -- start and stop can always go
  virtual_seen : (b : Bool) (n k : ℕ) → SeesRecord W s truths can (get_or (virtual b n) k empty)
  unfolding possible_by field_a field_c
  virtual_seen true n zero = record { condition = λ t. absurd t; test = λ t. absurd t; act = λ t. always _ tt }
  virtual_seen true n (suc zero) = record { condition = λ t. absurd t; test = λ t. absurd t; act = λ t. always _ tt }
  virtual_seen true n (suc (suc zero)) = record { condition = λ t. absurd t; test = λ t. absurd t; act = λ t. absurd t }
  virtual_seen true n (suc (suc (suc zero))) = record { condition = λ t. absurd t; test = λ t. absurd t; act = λ t. absurd t }
  virtual_seen true n (suc (suc (suc (suc k)))) = record { condition = λ t. absurd t; test = λ t. absurd t; act = λ t. absurd t }
  virtual_seen false n k = record { condition = λ t. absurd t; test = λ t. absurd t; act = λ t. absurd t }

  -- so what is seen of the records of the sheet is seen of the table that runs
  pub table_seen : (b : Bool) (p : ℕ → Program) (n m : ℕ) → ((i : ℕ) → i < n → SeesRecord W s truths can (p i)) →
      Sees W s (extended b p n) m truths can s.running
  table_seen b p n m seen = record { runs = refl; each = λ i l. go i (dec_lt i n) }
    where
      go : (i : ℕ) → Dec (i < n) → SeesRecord W s truths can (extended b p n i)
      go i (yes l) = rw (table_below b p n i l) (seen i l)
      go i (no l) =
          let e : extended b p n i ≡ get_or (virtual b n) (i - n) empty = ap (extended b p n) (omega arith) ∙ table_above b p n (i - n) in
          rw e (virtual_seen b n (i - n))
