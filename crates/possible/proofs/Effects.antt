-- The value that a value byte means; and the table of effects with the values that they give in an environment has these effects, as
-- closures read them. Assumes nothing.
use Prim.Native.Nat.{ℕ, ◌+◌, ◌-◌, ◌*◌, ◌%◌, ◌≤◌, ◌<◌}
use mathlib.Core.Path.{◌≡◌, refl, sym, ap, ◌∙◌}
use mathlib.Core.Bool.{Bool, cond}
use mathlib.Core.List.{List}
use native.Mathlib.Omega.{arith}
use native.Mathlib.Nat.{zero-add}
use native.Mathlib.Decide.{dec_lt}
use borrow.Author.Tests.{eq-eqb, ne_eqb, lt-ltb, le-ltb}
use lib.Dec.{eqb}
use lib.ListN.{length, get_or}
use Rattle.records.specs.declared.Effect.{Effect}
use Rattle.records.specs.Records.{effect_at}
use Rattle.records.specs.Placeholders.{look, environments}
use Rattle.records.proofs.Placeholders.{look_small}
use Rattle.golog.specs.Written.{resolved}
use Rattle.golog.proofs.Moves.{each_at}
use Rattle.state.specs.Reads.{Reads}
use Rattle.possible.specs.Written.{said_at, resolved_effect, resolved_table}

-- a value byte below 16 is the value, any other means a placeholder
pub resolved_value : (e v : ℕ) → v < 16 → resolved e v ≡ v
resolved_value e v l = rw (lt-ltb v 16 l) refl

pub resolved_placeholder : (e v : ℕ) → 16 ≤ v → resolved e v ≡ look e (v - 16)
resolved_placeholder e v l = rw (le-ltb v 16 l) refl

pub resolved_fits : (e v : ℕ) → e < environments → resolved e v < 16
resolved_fits e v small =
    elim (dec_lt v 16) [
      | yes l ↦ rw (resolved_value e v l) l
      | no l ↦ rw (resolved_placeholder e v (omega arith)) (look_small e small (v - 16))
    ]

module _ (e : ℕ) (effects : List ℕ) where
  byte_at : (k : ℕ) → k < length effects → get_or (resolved_table e effects) k 0 ≡ cond (eqb (k % 4) 3) (resolved e (get_or effects k 0)) (get_or effects k 0)
  unfolding resolved_table
  byte_at k l = each_at _ 0 effects k l ∙ rw (zero-add k) refl

  kept_byte : (k : ℕ) → k < length effects → ¬ (k % 4 ≡ 3) → get_or (resolved_table e effects) k 0 ≡ get_or effects k 0
  kept_byte k l n = byte_at k l ∙ rw (ne_eqb (k % 4) 3 n) refl

  value_byte : (k : ℕ) → k < length effects → k % 4 ≡ 3 → get_or (resolved_table e effects) k 0 ≡ resolved e (get_or effects k 0)
  value_byte k l z = byte_at k l ∙ rw (eq-eqb (k % 4) 3 z) refl

  pub resolved_at : (i : ℕ) → 4 * i + 4 ≤ length effects → effect_at (resolved_table e effects) i ≡ resolved_effect e (effect_at effects i)
  unfolding effect_at
  resolved_at i h =
      rw (
        kept_byte (4 * i) (omega arith) (λ z. omega arith),
        kept_byte (4 * i + 1) (omega arith) (λ z. omega arith),
        kept_byte (4 * i + 2) (omega arith) (λ z. omega arith),
        value_byte (4 * i + 3) (omega arith) (omega arith),
      )
      refl

  -- so closures read them that answer what holds in e and the values that are meant there
  pub reads_in :
      (table : List ℕ) {first count : ℕ} {holds : ℕ → Bool → Type 0} {meant : ℕ → ℕ → Type 0} → 4 * (first + count) ≤ length effects
      → ((q : ℕ) (b : Bool) → holds q b → b ≡ said_at table e q) → ((v w : ℕ) → meant v w → w ≡ resolved e v)
      → Reads holds meant (said_at table e) effects (resolved_table e effects) first count
  reads_in table long said value = record {
    condition = λ i l h b k. said _ b k ∙ ap (λ (r : Effect). said_at table e r.condition) (sym (resolved_at i (omega arith)));
    value = λ i l h w k. value _ w k ∙ ap (λ (r : Effect). r.value) (sym (resolved_at i (omega arith)));
    fluent = λ i l h. ap (λ (r : Effect). r.fluent) (sym (resolved_at i (omega arith)));
  }
