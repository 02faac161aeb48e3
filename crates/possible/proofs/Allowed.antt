-- The environments in which an action is possible are those in which its precondition holds, less those in which its effects stray or
-- contradict each other. Assumes nothing.
use Prim.Native.Nat.{ℕ}
use mathlib.Core.Path.{◌≡◌, refl, sym, ◌∙◌}
use mathlib.Core.Bool.{Bool, true, false, not, ◌&&◌}
use mathlib.Core.List.{List}
use Rattle.records.specs.declared.Action.{Action}
use Rattle.records.specs.Records.{action_at}
use Rattle.sets.specs.Sets.{member, Has, set_at}
use Rattle.sets.proofs.Members.{has_by}
use Rattle.possible.specs.Written.{said_at, conflicting_in, straying_in}
use Rattle.possible.specs.Possible.{Readable, PossibleSet}
use Rattle.possible.proofs.Worlds.{conflicting_written, possible_written}

taken_out : (m c o : Bool) → ((m && not o) && not c) ≡ (m && (not c && not o))
taken_out false c o = refl
taken_out true true true = refl
taken_out true true false = refl
taken_out true false true = refl
taken_out true false false = refl

none_taken : (m c o : Bool) → c ≡ false → (m && not o) ≡ (m && (not c && not o))
none_taken m c o z = rw z refl

module _ (fluents effects actions table : List ℕ) {a : ℕ} (readable : Readable fluents effects actions table a) {r : Action} (z : r ≡ action_at actions a)
    {held left : List ℕ} (h : held ≡ set_at table r.precondition)
    (L : Has (λ (e : ℕ). member held e && not (straying_in fluents effects table r.first r.count e)) left) where
  pub set_compared :
      (compared : Bool) {set : List ℕ} → Has (λ (e : ℕ). member left e && not (conflicting_in effects table r.first r.count e)) set
      → PossibleSet fluents effects actions table a compared set
  set_compared compared S formulas W s n is low holds never =
      has_by S (λ e small.
      let conflict = conflicting_in effects table r.first r.count e in
      let outside = straying_in fluents effects table r.first r.count e in
      rw (L.each e small, h) (taken_out (said_at table e r.precondition) conflict outside) ∙ sym (possible_written is table s holds e small z readable low))

  pub set_uncompared : PossibleSet fluents effects actions table a false left
  set_uncompared formulas W s n is low holds never =
      has_by L (λ e small.
      let conflict = conflicting_in effects table r.first r.count e in
      let outside = straying_in fluents effects table r.first r.count e in
      let none : conflict ≡ false =
      rw z (sym (conflicting_written is table s holds e small (action_at actions a) readable.range low.conditions) ∙ never refl e small) in
      rw h (none_taken (said_at table e r.precondition) conflict outside none) ∙ sym (possible_written is table s holds e small z readable low))
