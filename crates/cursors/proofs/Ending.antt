-- The sets of a state say of a remaining program whether it is final, whether it has a transition, and with the distances how far it is from
-- its end at least: a leaf's number is that of its record and its environment, for which they say it (crate `ends`). Assumes nothing.
use mathlib.Core.Path.{◌≡◌, refl, sym, ◌∙◌, ap, subst}
use mathlib.Core.Bool.{Bool, true, false, not, cond}
use mathlib.Core.List.{List, Memᴰ}
use Prim.Native.Nat.{ℕ, suc, ◌+◌, ◌/◌, ◌%◌, ◌^◌, ◌≤◌, ◌<◌}
use native.Mathlib.Omega.{arith}
use mir.Val.{bool_byte}
use lib.Dec.{eqb}
use lib.ListN.{get_or}
use Rattle.records.specs.Placeholders.{read_in, environment_of}
use Rattle.records.proofs.Placeholders.{environment_small, reading_whole}
use Rattle.records.proofs.Fills.{up_at, entry_is}
use Rattle.sets.specs.Sets.{member, set_at}
use Rattle.golog.specs.declared.State.{State}
use Rattle.golog.specs.World.{World}
use Rattle.golog.specs.Prog.{program_of}
use Rattle.golog.specs.Distance.{distance}
use Rattle.golog.specs.Transitions.{is_none}
use Rattle.golog.specs.Written.{written_records}
use Rattle.remaining.specs.Rest.{Rest, leaf, node, unfolded, largest}
use Rattle.remaining.specs.Leaves.{RestTransition, leaf_of, rest_final, rest_transitions}
use Rattle.remaining.proofs.Written.{written_lower}
use Rattle.words.specs.Words.{At}
use Rattle.words.proofs.Standing.{at_unique}
use Rattle.ends.specs.Ends.{Leaves, Asked}
use Rattle.ends.proofs.Asking.{leaves_below}
use Rattle.ends.specs.Ends.{final_by_table, count_by_table, soon_by_table, Totalled}
use Rattle.ends.specs.declared.Totals.{Totals}
use Rattle.ends.proofs.Tabled.{Closed, final_over, none_over}
use Rattle.ends.proofs.Endings.{soon_over}
use Rattle.positions.specs.Found.{Tables, digits_in, Surveyed}
use Rattle.cursors.specs.Ended.{readings, finals_in, counts_in, distances_in, DistancesOf, CanEnd}
use Rattle.cursors.specs.Going.{Inside}

-- at a reading's place stands what is said of the record and the environment
pub readings_at : {A : Type 0} (F : ℕ → ℕ → A) (z : A) (n : ℕ) → n < 66560 → get_or (readings F) n z ≡ F (read_in n) (environment_of n)
unfolding readings
readings_at {A} F z n l =
    let f : ℕ → List A → A = λ (n : ℕ) (lower : List A). F (read_in n) (environment_of n) in
    up_at z f 66560 n l ∙ entry_is z f n

-- a flag counts 1 where it is set
pub as_count : (b : Bool) → (bool_byte b ≡ cond b 1 0) × (bool_byte b < 2 ^ 32)
as_count true = (refl, omega arith)
as_count false = (refl, omega arith)

-- so of a record and an environment that were looked up
pub final_reading : (sets : List ℕ) {x : Bool} {n : ℕ} → n < 66560 → x ≡ member (set_at sets (512 + n / 256)) (n % 256) → x ≡ get_or (finals_in sets) n true
final_reading sets {x} {n} l e = e ∙ sym (readings_at (λ (i e : ℕ). member (set_at sets (512 + i)) e) true n l)

pub count_reading : (sets : List ℕ) {c : ℕ} {b : Bool} {n : ℕ} → n < 66560 → c ≡ cond b 1 0
    → b ≡ member (set_at sets (772 + n / 256)) (n % 256) → c ≡ get_or (counts_in sets) n 0
count_reading sets {c} {b} {n} l e q =
    e ∙ ap (λ (b : Bool). cond b 1 0) q ∙ sym (readings_at (λ (i e : ℕ). cond (member (set_at sets (772 + i)) e) 1 0) 0 n l)

pub far_reading : (distances : List ℕ) {d : ℕ} {n : ℕ} → n < 66560 → d ≡ get_or distances (n / 256) 0 → d ≡ get_or (distances_in distances) n 0
far_reading distances {d} {n} l e = e ∙ sym (readings_at (λ (i e : ℕ). get_or distances i 0) 0 n l)

-- what is so of each leaf that there can be is so of those of what stands there
module _ {sets w : List ℕ} {i : ℕ} (K : CanEnd sets w i) {P : ℕ → Type 0} where
  pub end_asked : ((n : ℕ) → n < 66560 → P n) → Asked P w i
  end_asked f = record { rest = K.rest; at = K.at; leaves = leaves_below 66560 f K.rest K.number }

  pub end_leaves : (g : Rest) → At g w i → ((n : ℕ) → n < 66560 → P n) → Leaves P g
  end_leaves g h f = subst (Leaves P) (at_unique K.rest g w i K.at h) (leaves_below 66560 f K.rest K.number)

-- parts of remaining programs of a table
module _ {t : Tables} where
  pub inside_left : {tag : ℕ} {l r : Rest} → Inside t (node tag l r) → Inside t l
  unfolding largest
  inside_left H = record { number = omega (arith, H.number); low = omega (arith, H.low) }

  pub inside_right : {tag : ℕ} {l r : Rest} → Inside t (node tag l r) → Inside t r
  unfolding largest
  inside_right H = record { number = omega (arith, H.number); low = omega (arith, H.low) }

  pub inside_leaf : {n : ℕ} → Inside t (leaf n) → read_in n < t.many
  unfolding largest
  inside_leaf H = omega (arith, H.number)

  pub inside_low : {n : ℕ} → Inside t (leaf n) → digits_in t (read_in n) ≤ 16
  unfolding largest
  inside_low H = H.low

  inside_closed : Closed (Inside t)
  inside_closed = record { left = λ tag l r H. inside_left H; right = λ tag l r H. inside_right H }

none_if : (b : Bool) → eqb (cond (not b) 1 0) 0 ≡ b
none_if true = refl
none_if false = refl

module _ {W : World} {s : State} {t : Tables} (Q : Surveyed W s t) where
  reading_few : {n : ℕ} → Inside t (leaf n) → n < 66560
  unfolding largest
  reading_few H = omega (arith, H.number, Q.prepared.few)

  leaf_final : (n : ℕ) → Inside t (leaf n) → get_or (finals_in t.sets) n true ≡ (leaf_of W s (written_records t.records) n).final
  leaf_final n H =
      readings_at (λ (i e : ℕ). member (set_at t.sets (512 + i)) e) true n (reading_few H)
      ∙ (Q.finals (read_in n) (inside_leaf H)).each (environment_of n) (environment_small n)
      ∙ ap (λ (j : ℕ). (leaf_of W s (written_records t.records) j).final) (reading_whole n)

  leaf_none : (n : ℕ) → Inside t (leaf n) → eqb (get_or (counts_in t.sets) n 0) 0 ≡ is_none (leaf_of W s (written_records t.records) n).transitions
  leaf_none n H =
      ap (λ (c : ℕ). eqb c 0)
      (readings_at (λ (i e : ℕ). cond (member (set_at t.sets (772 + i)) e) 1 0) 0 n (reading_few H)
      ∙ ap (λ (b : Bool). cond b 1 0) ((Q.enabled (read_in n) (inside_leaf H)).each (environment_of n) (environment_small n)
      ∙ ap (λ (j : ℕ). not (is_none (leaf_of W s (written_records t.records) j).transitions)) (reading_whole n)))
      ∙ none_if (is_none (leaf_of W s (written_records t.records) n).transitions)

  -- it is final by the sets where it is, and has a transition by them where it has one
  pub final_is : (g : Rest) → Inside t g → final_by_table (finals_in t.sets) g ≡ rest_final W s (written_records t.records) g
  final_is = final_over (Inside t) inside_closed W s (written_records t.records) (finals_in t.sets) leaf_final

  pub none_is : (g : Rest) → Inside t g → eqb (count_by_table (finals_in t.sets) (counts_in t.sets) g) 0 ≡ is_none (rest_transitions W s (written_records t.records) g)
  none_is = none_over (Inside t) inside_closed W s (written_records t.records) (finals_in t.sets) leaf_final (counts_in t.sets) leaf_none

  -- no transition leaves what is nearer to its end, where no record is nearer than the table says
  module _ (distances : List ℕ) (D : DistancesOf t distances) where
    leaf_far : (n : ℕ) → Inside t (leaf n) → get_or (distances_in distances) n 0 ≤ distance (program_of (written_records t.records) n)
    leaf_far n H =
        let same = readings_at (λ (i e : ℕ). get_or distances i 0) 0 n (reading_few H) in
        let whole = ap (λ (j : ℕ). distance (program_of (written_records t.records) j)) (reading_whole n) in
        omega (arith, D (read_in n) (environment_of n) (inside_leaf H) (environment_small n))

    pub soon_is : (g : Rest) → Inside t g → (x : RestTransition) → Memᴰ x (rest_transitions W s (written_records t.records) g)
        → soon_by_table (finals_in t.sets) (distances_in distances) (counts_in t.sets) g ≤ suc (distance (unfolded (written_records t.records) x.1))
    soon_is =
        soon_over (Inside t) inside_closed (written_records t.records) (distances_in distances) leaf_far W (written_lower t.records Q.prepared.spread.linked) s
        (finals_in t.sets) leaf_final (counts_in t.sets) leaf_none

  -- so of totals
  module _ (distances : List ℕ) {g : Rest} {r : Totals} (H : Inside t g) (T : Totalled (finals_in t.sets) (distances_in distances) (counts_in t.sets) g r) where
    pub totals_done : r.done ≡ rest_final W s (written_records t.records) g
    totals_done = T.done_is ∙ final_is g H

    pub totals_none : eqb r.count 0 ≡ is_none (rest_transitions W s (written_records t.records) g)
    totals_none = ap (λ (n : ℕ). eqb n 0) T.count_is ∙ none_is g H

    pub totals_soon : DistancesOf t distances → (x : RestTransition) → Memᴰ x (rest_transitions W s (written_records t.records) g)
        → r.soon ≤ suc (distance (unfolded (written_records t.records) x.1))
    totals_soon D x m = omega (arith, T.soon_is, soon_is distances D g H x m)
