-- What a world written out has under a record's number in an environment; and that its actions are possible, and change values, as the tables say
-- there, where `table` has what the formulas say. Assumes nothing.
use Prim.Native.Nat.{ℕ, ◌+◌, ◌*◌, ◌/◌, ◌%◌, ◌<◌}
use mathlib.Core.Path.{◌≡◌, refl, sym, ap, ap₂, ◌∙◌}
use mathlib.Core.Bool.{not, ◌&&◌}
use mathlib.Core.List.{List}
use native.Mathlib.Omega.{arith}
use borrow.Author.Tests.{le-ltb}
use Rattle.records.specs.declared.Effect.{Effect}
use Rattle.records.specs.declared.Action.{Action}
use Rattle.records.specs.Records.{formula_at, effect_at, action_at}
use Rattle.records.specs.Placeholders.{reading, environments}
use Rattle.records.proofs.Placeholders.{read_in_lem, environment_of_lem}
use Rattle.golog.specs.declared.State.{State}
use Rattle.golog.specs.World.{World, conflicting, straying, possible_by, says_in, possible, changed, perform_by, perform}
use Rattle.golog.specs.Written.{formula_read, effect_read, action_read, entry_in, written_world}
use Rattle.golog.specs.Decoded.{world}
use Rattle.golog.proofs.Moves.{length_each, changed_at}
use Rattle.truths.specs.Held.{AllHold}
use Rattle.state.specs.Ranges.{ConditionsBelow}
use Rattle.state.proofs.Performed.{changed_all}
use Rattle.possible.specs.Written.{Written, size_in, said_at, resolved_table, conflicting_in, straying_in}
use Rattle.possible.specs.Possible.{ReadableRange, Readable, AsksBelow, PerformableEntry}
use Rattle.possible.proofs.Effects.{resolved_at}
use Rattle.possible.proofs.Numbered.{AllAlike, conflicting_numbered, straying_numbered, given_numbered}

-- the tables' own world, written out
pub world_written : (fluents formulas effects actions : List ℕ) → Written fluents formulas effects actions (written_world (world fluents formulas effects actions))
world_written fluents formulas effects actions = record { size_is = λ x. refl; formula_is = λ n. refl; effect_is = λ n. refl; action_is = λ n. refl }

module _ {fluents formulas effects actions : List ℕ} {W : World} (is : Written fluents formulas effects actions W) where
  pub effect_written : (e a : ℕ) → a < 512 → W.effect (512 * e + a) ≡ effect_read e (effect_at effects a)
  effect_written e a l =
      let environment : (512 * e + a) / 512 ≡ e = omega arith in
      let record_of : (512 * e + a) % 512 ≡ a = omega arith in
      is.effect_is (512 * e + a) ∙ ap₂ (λ (d b : ℕ). effect_read d (effect_at effects b)) environment record_of

  action_written : (e a : ℕ) → a < 64 → W.action (a + 64 * e) ≡ action_read e (action_at actions a)
  action_written e a l =
      let environment : (a + 64 * e) / 64 ≡ e = omega arith in
      let record_of : (a + 64 * e) % 64 ≡ a = omega arith in
      is.action_is (a + 64 * e) ∙ ap₂ (λ (d b : ℕ). action_read d (action_at actions b)) environment record_of

  pub formula_written : (e q : ℕ) → e < environments → W.formula (reading q e) ≡ formula_read e (formula_at formulas q)
  formula_written e q small = is.formula_is (reading q e) ∙ ap₂ (λ (d b : ℕ). formula_read d (formula_at formulas b)) (environment_of_lem e small q) (read_in_lem e small q)

  -- where `table` has what the formulas say
  module _ (table : List ℕ) (s : State) {n : ℕ} (holds : AllHold W s n table) (e : ℕ) (small : e < environments) where
    said_at_lem : (q : ℕ) → q < n → says_in W s (reading q e) ≡ said_at table e q
    said_at_lem q l = sym ((holds q l).each e small)

    -- the range of an action
    module _ (r : Action) {m : ℕ} (range : ReadableRange effects table m r.first r.count) (low : ConditionsBelow effects n r.first r.count) where
      alike : AllAlike (says_in W s) (said_at table e) W.effect (effect_at (resolved_table e effects)) (512 * e) r.first r.count
      alike a (l, h) =
          let d = effect_written e a (omega (arith, range.few)) in
          let z = sym (resolved_at e effects a (omega (arith, range.long))) in
          record {
            condition =
                ap (λ (x : Effect). says_in W s x.condition) d
                ∙ said_at_lem (effect_at effects a).condition (low a l h)
                ∙ ap (λ (x : Effect). said_at table e x.condition) z;
            fluent = ap (λ (x : Effect). x.fluent) d ∙ ap (λ (x : Effect). x.fluent) z;
            value = ap (λ (x : Effect). x.value) d ∙ ap (λ (x : Effect). x.value) z;
          }

      pub conflicting_written : conflicting (says_in W s) W.effect (512 * e + r.first) r.count ≡ conflicting_in effects table r.first r.count e
      conflicting_written = conflicting_numbered _ _ _ _ (512 * e) r.first r.count alike

      straying_written : straying (says_in W s) W.size W.effect (512 * e + r.first) r.count ≡ straying_in fluents effects table r.first r.count e
      straying_written = straying_numbered _ _ _ _ (512 * e) W.size (size_in fluents) is.size_is r.first r.count alike

      changed_written :
          (values : List ℕ)
          → changed (said_at table e) (effect_at (resolved_table e effects)) r values ≡ changed (says_in W s) W.effect (action_read e r) values
      unfolding changed
      changed_written values =
          sym (changed_all (said_at table e) (resolved_table e effects) r values (length_each _ 0 values)
          (λ x l. changed_at (says_in W s) W.effect (action_read e r) values x l ∙ given_numbered _ _ _ _ (512 * e) x _ r.count r.first alike))

    -- an action of the table
    pub possible_written :
        {a : ℕ} {r : Action} → r ≡ action_at actions a → Readable fluents effects actions table a → AsksBelow effects actions n a
        → possible W (entry_in a e) s
        ≡ (said_at table e r.precondition && (not (conflicting_in effects table r.first r.count e) && not (straying_in fluents effects table r.first r.count e)))
    unfolding possible_by
    possible_written {a} z readable low =
        let d = action_at actions a in
        let l = readable.action in
        rw (
          z,
          le-ltb 65533 a (omega arith),
          le-ltb 65533 (a + 64 * e) (omega arith),
          action_written e a l,
          said_at_lem d.precondition low.precondition,
          conflicting_written d readable.range low.conditions,
          straying_written d readable.range low.conditions,
        )
        refl

  -- the state after a move of the table
  pub performed_written :
      (table : List ℕ) (s : State) {n : ℕ} → AllHold W s n table → {m entry : ℕ} → PerformableEntry effects actions table m entry
      → ConditionsBelow effects n (action_at actions (entry % 64)).first (action_at actions (entry % 64)).count
      → {r : Action} {new : List ℕ} → r ≡ action_at actions (entry % 64)
      → new ≡ changed (said_at table (entry / 64)) (effect_at (resolved_table (entry / 64) effects)) r s.values
      → record { values = new; running = s.running } ≡ perform W entry s
  unfolding perform_by
  performed_written table s holds {m} {entry} can low {r} {new} z given =
      let few = can.environment in
      let values_are : new ≡ changed (says_in W s) W.effect (W.action entry) s.values =
      given
      ∙ ap (λ (x : Action). changed (said_at table (entry / 64)) (effect_at (resolved_table (entry / 64) effects)) x s.values) z
      ∙ changed_written table s holds (entry / 64) (omega arith) (action_at actions (entry % 64)) can.range low s.values
      ∙ ap (λ (x : Action). changed (says_in W s) W.effect x s.values) (sym (is.action_is entry)) in
      rw (le-ltb 65533 entry (omega arith)) (λ i. record { values = values_are i; running = s.running })
