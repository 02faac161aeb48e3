-- The laws of performing an action. A search through the effects keeps what is still to come equal to what the whole range gives; values
-- are changed place by place; and what is asked of the formulas is no more than the conditions of the range. Assumes nothing.
use Prim.Native.Nat.{ℕ, zero, suc, ◌+◌, ◌-◌, ◌≤◌, ◌<◌}
use mathlib.Core.Path.{◌≡◌, refl, sym, ap, ◌∙◌}
use mathlib.Core.Bool.{Bool, true, false}
use mathlib.Core.List.{List, [], ◌∷◌}
use native.Mathlib.Numerals.{add-one}
use native.Mathlib.Omega.{arith}
use native.Mathlib.Decide.{dec_lt}
use borrow.Author.Tests.{ne_eqb, lt-ltb}
use lib.Dec.{eqb}
use lib.Seq.{ext_get_or}
use lib.ListN.{get_or, length}
use Rattle.records.specs.declared.Effect.{Effect}
use Rattle.records.specs.declared.Action.{Action}
use Rattle.records.specs.Records.{effect_at, action_at}
use Rattle.records.specs.Some.{InRange}
use Rattle.golog.specs.declared.State.{State}
use Rattle.golog.specs.World.{start, possible_by, changes, given, each, changed, perform_by}
use Rattle.golog.proofs.Possible.{conflict_same, stray_same}
use Rattle.golog.proofs.Moves.{given_none, given_here, given_later, length_each, changed_at}
use Rattle.state.specs.Ranges.{Names, ConditionsBelow}

module _ (says : ℕ → Bool) (effects : List ℕ) (x old : ℕ) where
  -- the effects before number i change nothing
  pub record Passed (first count value i : ℕ) : Type 0 where
    pub «from» : first ≤ i
    pub to : i ≤ first + count
    pub kept : value ≡ old
    pub same : given says (effect_at effects) x old i (first + count - i) ≡ given says (effect_at effects) x old first count

  pub passed_none : (first count : ℕ) → Passed first count old first
  passed_none first count = record { «from» = omega arith; to = omega arith; kept = refl; same = ap (given says (effect_at effects) x old first) (omega arith) }

  module _ {first count value i : ℕ} (p : Passed first count value i) where
    left : i < first + count → first + count - i ≡ suc (first + count - (i + 1))
    left l = omega arith

    -- effect i is e, and the flag says whether it changes the fluent
    module _ (l : i < first + count) {e : Effect} (r : e ≡ effect_at effects i) {flag : Bool} (f : flag ≡ changes says e x) where
      pub passed_more : flag ≡ false → Passed first count value (i + 1)
      passed_more t = record {
        «from» = omega arith;
        to = omega arith;
        kept = p.kept;
        same =
            ap (λ (j : ℕ). given says (effect_at effects) x old j (first + count - (i + 1))) (add-one i)
            ∙ sym (given_later says (effect_at effects) x old i (first + count - (i + 1)) (ap (λ (e : Effect). changes says e x) (sym r) ∙ sym f ∙ t))
            ∙ ap (given says (effect_at effects) x old i) (sym (left l))
            ∙ p.same;
      }

      pub passed_found : flag ≡ true → e.value ≡ given says (effect_at effects) x old first count
      passed_found t =
          ap (λ (e : Effect). e.value) r
          ∙ sym (given_here says (effect_at effects) x old i (first + count - (i + 1)) (ap (λ (e : Effect). changes says e x) (sym r) ∙ sym f ∙ t))
          ∙ ap (given says (effect_at effects) x old i) (sym (left l))
          ∙ p.same

    pub passed_all : first + count ≤ i → value ≡ given says (effect_at effects) x old first count
    passed_all l = p.kept ∙ sym (given_none says (effect_at effects) x old i) ∙ ap (given says (effect_at effects) x old i) (omega arith) ∙ p.same

each_same : (f g : ℕ → ℕ → ℕ) → ((x v : ℕ) → f x v ≡ g x v) → (x : ℕ) (l : List ℕ) → each f x l ≡ each g x l
unfolding each
each_same f g h x [] = refl
each_same f g h x (v ∷ l) = rw (h x v, each_same f g h (suc x) l)

-- no effect names a fluent from n on, so that its value stays
pub given_stays :
    (says : ℕ → Bool) (effects : List ℕ) (n x old k first : ℕ) → Names effects n first k → n ≤ x
    → given says (effect_at effects) x old first k ≡ old
unfolding given
given_stays says effects n x old zero first h l = refl
given_stays says effects n x old (suc k) first h l =
    let other : eqb (effect_at effects first).fluent x ≡ false = ne_eqb _ x (λ (e : (effect_at effects first).fluent ≡ x). omega (arith, h first (omega arith) (omega arith))) in
    rw (other, given) (given_stays says effects n x old k (suc first) (λ i a b. h i (omega arith) (omega arith)) l)

-- values each of which is what the range gives are those after all its effects
pub changed_all :
    (says : ℕ → Bool) (effects : List ℕ) (r : Action) (values : List ℕ) {new : List ℕ}
    → length new ≡ length values
    → ((x : ℕ) → x < length values → get_or new x 0 ≡ given says (effect_at effects) x (get_or values x 0) r.first r.count)
    → new ≡ changed says (effect_at effects) r values
unfolding changed
changed_all says effects r values {new} long each-is =
    ext_get_or 0 new _ (long ∙ sym (length_each _ 0 values))
    (λ x l. each-is x (omega (arith, long)) ∙ sym (changed_at says (effect_at effects) r values x (omega (arith, long))))

-- where formulas say the same of an action's precondition and of the conditions of its range, it is as possible, and performing it leads to
-- the same state
module _ (effects actions : List ℕ) (says said : ℕ → Bool) (n : ℕ) (same : (q : ℕ) → q < n → says q ≡ said q) where
  given_same : (x old k i : ℕ) → ConditionsBelow effects n i k → given says (effect_at effects) x old i k ≡ given said (effect_at effects) x old i k
  unfolding given
  given_same x old zero i h = refl
  given_same x old (suc k) i h =
      rw (same (effect_at effects i).condition (h i (omega arith) (omega arith)), given_same x old k (suc i) (λ j a b. h j (omega arith) (omega arith)))

  pub possible_same :
      (size : ℕ → ℕ) (a : ℕ) → (action_at actions a).precondition < n → ConditionsBelow effects n (action_at actions a).first (action_at actions a).count
      → possible_by says size (effect_at effects) (action_at actions) a ≡ possible_by said size (effect_at effects) (action_at actions) a
  unfolding possible_by
  possible_same size a l h =
      let r = action_at actions a in
      let conditions : (i : ℕ) → InRange r.first r.count i → says (effect_at effects i).condition ≡ said (effect_at effects i).condition = λ i (f, t). same _ (h i f t) in
      rw (
        same r.precondition l,
        conflict_same (effect_at effects) says said r.first r.count conditions,
        stray_same (effect_at effects) says said r.first r.count size conditions,
      )

  pub perform_same : (a : ℕ) (s : State) → (a < start → ConditionsBelow effects n (action_at actions a).first (action_at actions a).count) →
      perform_by says (effect_at effects) (action_at actions) a s ≡ perform_by said (effect_at effects) (action_at actions) a s
  unfolding perform_by changed
  perform_same a s h = go (dec_lt a start)
    where
      go : Dec (a < start) → perform_by says (effect_at effects) (action_at actions) a s ≡ perform_by said (effect_at effects) (action_at actions) a s
      go (yes l) = rw (each_same _ _ (λ x v. given_same x v (action_at actions a).count (action_at actions a).first (h l)) 0 s.values)
      go (no l) = rw (lt-ltb 65533 a (omega arith))
