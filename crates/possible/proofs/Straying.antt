-- The laws of taking out environments in which effects that hold give values outside their fluents' domains: of one effect those in which it holds
-- and its placeholder has reached the size, of a range one effect after the other. Assumes nothing.
use Prim.Native.Nat.{ℕ, ◌+◌, ◌*◌, ◌≤◌, ◌<◌}
use mathlib.Core.Path.{◌≡◌, refl, sym, ap, ap₂, ◌∙◌}
use mathlib.Core.Bool.{Bool, true, false, not, ◌&&◌, ◌||◌, and-true, and-false}
use mathlib.Core.List.{List}
use mathlib.Core.Logic.{⊎_elim}
use native.Mathlib.Numerals.{add-one}
use native.Mathlib.Omega.{arith}
use borrow.Author.Tests.{lt-ltb}
use lib.ListN.{length}
use Rattle.records.specs.declared.Effect.{Effect}
use Rattle.records.specs.Records.{effect_at}
use Rattle.records.specs.Some.{some_from}
use Rattle.records.proofs.Some.{some_more}
use Rattle.sets.specs.Sets.{member, Has}
use Rattle.sets.proofs.Members.{has_by}
use Rattle.golog.specs.World.{strays, straying}
use Rattle.golog.specs.Written.{resolved}
use Rattle.possible.specs.Written.{size_in, said_at, resolved_effect, resolved_table, strays_in, straying_in}
use Rattle.possible.specs.Possible.{GivesValue}
use Rattle.possible.proofs.Effects.{resolved_value, resolved_at}

module _ (fluents table : List ℕ) (r : Effect) where
  -- where every value that it gives lies in the domain, all environments stay
  all_stay :
      {set : List ℕ} → length set ≡ 8 → ((e : ℕ) → e < 256 → resolved e r.value < size_in fluents r.fluent)
      → Has (λ (e : ℕ). member set e && not (strays_in fluents table r e)) set
  all_stay {set} long inside = record {
    len = long;
    each = λ e l. sym (rw (lt-ltb (resolved e r.value) (size_in fluents r.fluent) (inside e l), and-false, and-true) refl);
  }

  -- so they do where its byte is a value
  pub value_stays : GivesValue fluents r → {set : List ℕ} → length set ≡ 8 → r.value < 16 → Has (λ (e : ℕ). member set e && not (strays_in fluents table r e)) set
  value_stays gives long l =
      all_stay long (λ e small. rw (resolved_value e r.value l) (⊎_elim (λ k. k) (⊎_elim (λ z. absurd (omega arith)) (λ z. absurd (omega arith))) gives.byte))

-- one effect more
both_out : (m p q : Bool) → (m && not p && not q) ≡ (m && not (p || q))
both_out false p q = refl
both_out true true q = refl
both_out true false q = refl

module _ (fluents effects table set : List ℕ) (first : ℕ) where
  -- those are left in which none of the first k effects of a range strays
  pub record StayingIn (k : ℕ) (left : List ℕ) : Type 0 where
    pub has : Has (λ (e : ℕ). member set e && not (straying_in fluents effects table first k e)) left

  pub staying_none : length set ≡ 8 → StayingIn 0 set
  unfolding straying some_from
  staying_none long = record { has = record { len = long; each = λ e l. sym (and-true (member set e)) } }

  pub staying_more :
      {k : ℕ} {left less : List ℕ} (d : Effect) → StayingIn k left → d ≡ effect_at effects (first + k) → 4 * (first + k) + 4 ≤ length effects
      → Has (λ (e : ℕ). member left e && not (strays_in fluents table d e)) less → StayingIn (k + 1) less
  unfolding straying
  staying_more {k} {left} d S z long L = record { has = has_by L more }
    where
      more : (e : ℕ) → e < 256 → (member left e && not (strays_in fluents table d e)) ≡ (member set e && not (straying_in fluents effects table first (k + 1) e))
      more e small =
          let strays-at : Effect → Bool = strays (said_at table e) (size_in fluents) in
          let here = ap (resolved_effect e) z ∙ sym (resolved_at e effects (first + k) long) in
          let with_it = some_more (λ (a : ℕ). strays-at (effect_at (resolved_table e effects) a)) k first in
          ap₂ (λ (m b : Bool). m && not b) (S.has.each e small) (ap strays-at here)
          ∙ both_out (member set e) (straying_in fluents effects table first k e) (strays-at (effect_at (resolved_table e effects) (first + k)))
          ∙ ap (λ (b : Bool). member set e && not b) (sym with_it)
          ∙ ap (λ (j : ℕ). member set e && not (straying_in fluents effects table first j e)) (sym (add-one k))
