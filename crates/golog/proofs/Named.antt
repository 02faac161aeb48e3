-- What a formula says depends only on the fluents that it names: by strong induction, it asks for fluents that it names itself, or reads
-- lower formulas, whose fluents it names too. So an action is as possible where what its precondition and the conditions of its range name
-- is the same. Assumes nothing.
use Prim.Native.Nat.{ℕ, zero, suc, ◌<◌}
use native.Mathlib.Decide.{dec_lt}
use native.Mathlib.Nat.{not-suc-le-zero}
use native.Mathlib.Omega.{arith}
use mathlib.Core.Bool.{Bool, false}
use mathlib.Core.Logic.{inl, inr}
use mathlib.Core.Path.{◌≡◌, sym, ◌∙◌}
use lib.Dec.{T}
use lib.ListN.{get_or, get_or-eq_default}
use Rattle.records.specs.Some.{InRange}
use Rattle.records.proofs.Fills.{length_up}
use Rattle.records.proofs.Some.{some_iff}
use Rattle.kinds.specs.Formulas.{is_plain, Asks, Reads}
use Rattle.kinds.proofs.Truth.{truth_depends}
use Rattle.named.specs.Named.{names, conditions_name, action_names}
use Rattle.named.proofs.Below.{names_asked, names_read}
use Rattle.runs.proofs.Tests.{or_iff}
use Rattle.golog.specs.declared.State.{State}
use Rattle.golog.specs.World.{World, truths, holds, says_in, possible_by, possible}
use Rattle.golog.specs.Agree.{SameAt}
use Rattle.golog.proofs.Tests.{same}
use Rattle.golog.proofs.Truths.{holds_at, holds_is}
use Rattle.golog.proofs.Possible.{conflict_same, stray_same}

-- N has of each formula the fluents that it asks for, and those of each lower formula that it reads
pub record Names (W : World) (N : ℕ → ℕ → Bool) : Type 0 where
  pub asked : (q x : ℕ) → Asks (W.formula q) x → T (N q x)
  pub read : (q j x : ℕ) → Reads (W.formula q) j → j < q → T (N j x) → T (N q x)

module _ (W : World) (N : ℕ → ℕ → Bool) (named : Names W N) (s s' : State) where
  -- a formula below n, by those below it
  below : (n q : ℕ) → q < n → SameAt (N q) s s' → holds W q s ≡ holds W q s'
  below zero q l g = absurd (not-suc-le-zero l)
  below (suc n) q l g =
      rw (holds_is W s q, holds_is W s' q)
      (truth_depends (W.formula q) s.values s'.values (truths W s.values q) (truths W s'.values q)
      (λ x k. g x (named.asked q x k)) (λ j k. go j (dec_lt j q) (below n j) k))
    where
      -- lower formula j, and none from q on
      go :
          (j : ℕ) → Dec (j < q) → (j < n → SameAt (N j) s s' → holds W j s ≡ holds W j s') → Reads (W.formula q) j
          → get_or (truths W s.values q) j false ≡ get_or (truths W s'.values q) j false
      go j (yes m) rec k = rw (holds_at W s q j m, holds_at W s' q j m) (rec (omega arith) (λ x t. g x (named.read q j x k m t)))
      go j (no m) rec k =
          get_or-eq_default (truths W s.values q) false (rw length_up (omega arith))
          ∙ sym (get_or-eq_default (truths W s'.values q) false (rw length_up (omega arith)))

  -- a formula says the same where the fluents that it names have the same values
  pub holds_same : (q : ℕ) → SameAt (N q) s s' → holds W q s ≡ holds W q s'
  holds_same q g = below (suc q) q (omega arith) g

  -- and an action is as possible where those that its precondition and the conditions of its effects name have
  pub possible_same :
      (a : ℕ) → SameAt (N (W.action a).precondition) s s'
      → ((e : ℕ) → InRange (W.action a).first (W.action a).count e → SameAt (N (W.effect e).condition) s s')
      → possible W a s ≡ possible W a s'
  unfolding possible_by
  possible_same a g h =
      let r = W.action a in
      let conditions : (e : ℕ) → InRange r.first r.count e → says_in W s (W.effect e).condition ≡ says_in W s' (W.effect e).condition =
      λ e m. holds_same (W.effect e).condition (h e m) in
      rw (
        holds_same r.precondition g,
        conflict_same W.effect (says_in W s) (says_in W s') r.first r.count conditions,
        stray_same W.effect (says_in W s) (says_in W s') r.first r.count W.size conditions,
      )

-- where no formula has placeholders, these are the fluents that it names
module _ (W : World) (plain : (q : ℕ) → T (is_plain (W.formula q).kind)) where
  by_names : Names W (names W.formula)
  by_names = record { asked = names_asked W.formula; read = λ q j x. names_read W.formula q j x (plain q) }

  module _ (s s' : State) where
    pub holds_named : (q : ℕ) → SameAt (names W.formula q) s s' → holds W q s ≡ holds W q s'
    holds_named = holds_same W (names W.formula) by_names s s'

    pub possible_named : (a : ℕ) → SameAt (action_names W.formula W.effect (W.action a)) s s' → possible W a s ≡ possible W a s'
    unfolding action_names conditions_name
    possible_named a g =
        let r = W.action a in
        let first = names W.formula r.precondition in
        let later = conditions_name W.formula W.effect r.first r.count in
        possible_same W (names W.formula) by_names s s' a
        (λ x t. g x ((or_iff (first x) (later x) (same _) (same _)).1 (inl t)))
        (λ e m x t. g x ((or_iff (first x) (later x) (same _) (same _)).1 (inr ((some_iff _ (λ i. same _) r.count r.first).1 (e, m, t)))))
