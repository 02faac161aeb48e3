-- An action is possible exactly when its precondition holds, no two holding effects of its range give one fluent different values (document
-- 02, F-2), and none gives a value outside its fluent's domain (F-6): each test computed decides its line of the statement. Assumes nothing.
use mathlib.Core.Path.{◌≡◌, sym, subst}
use mathlib.Core.Bool.{Bool, false, not, ◌&&◌}
use mathlib.Core.Logic.{◌↔◌}
use Prim.Native.Nat.{ℕ, ◌<◌}
use lib.Dec.{T, eqb, ltb}
use Rattle.records.specs.declared.Effect.{Effect}
use Rattle.records.specs.Some.{InRange}
use Rattle.records.proofs.Some.{some_iff, some_same}
use Rattle.records.proofs.Truth.{is_false}
use Rattle.runs.proofs.Tests.{and_iff, or_iff, eqb_iff, ltb_iff}
use Rattle.golog.specs.declared.State.{State}
use Rattle.golog.specs.World.{World, special, holds, contradict, conflicting, straying, sound, possible_by, says_in, possible}
use Rattle.golog.specs.Possible.{Contradict, Conflict, Outside, Possible}
use Rattle.golog.proofs.Tests.{same, not_iff}

contradict_iff : (says : ℕ → Bool) (d e : Effect) → T (contradict says d e) ↔ Contradict says d e
contradict_iff says d e =
    let hold = and_iff (says d.condition) (says e.condition) (same _) (same _) in
    let differ = not_iff (eqb d.value e.value) (eqb_iff d.value e.value) in
    and_iff (says d.condition && says e.condition) (eqb d.fluent e.fluent && not (eqb d.value e.value)) hold
    (and_iff (eqb d.fluent e.fluent) (not (eqb d.value e.value)) (eqb_iff d.fluent e.fluent) differ)

pub conflicting_exactly : (says : ℕ → Bool) (effect : ℕ → Effect) (i k : ℕ) → T (conflicting says effect i k) ↔ Conflict says effect i k
unfolding conflicting
conflicting_exactly says effect i k = some_iff _ (λ a. some_iff _ (λ b. contradict_iff says (effect a) (effect b)) k i) k i

pub straying_exactly : (says : ℕ → Bool) (size : ℕ → ℕ) (effect : ℕ → Effect) (i k : ℕ) → T (straying says size effect i k) ↔ Outside says size effect i k
unfolding straying
straying_exactly says size effect i k =
    some_iff _
    (λ a.
    and_iff (says (effect a).condition) (not (ltb (effect a).value (size (effect a).fluent))) (same _)
    (not_iff (ltb (effect a).value (size (effect a).fluent)) (ltb_iff (effect a).value (size (effect a).fluent))))
    k i

-- where each value lies in its fluent's domain, none strays
pub inside_none :
    (says : ℕ → Bool) (size : ℕ → ℕ) (effect : ℕ → Effect) (i k : ℕ) → ((a : ℕ) → InRange i k a → (effect a).value < size (effect a).fluent)
    → straying says size effect i k ≡ false
inside_none says size effect i k inside =
    is_false _ (λ e. let (a, m, (t, out)) = (straying_exactly says size effect i k).0 (subst T (sym e) tt) in out (inside a m))

pub possible_exactly : (W : World) (a : ℕ) (s : State) → T (possible W a s) ↔ Possible W a s
unfolding possible_by
possible_exactly W a s =
    let r = W.action a in
    let conflict = conflicting (says_in W s) W.effect r.first r.count in
    let outside = straying (says_in W s) W.size W.effect r.first r.count in
    or_iff (special a) (holds W r.precondition s && sound (says_in W s) W.size W.effect r) (same _)
    (and_iff (holds W r.precondition s) (not conflict && not outside) (same _)
    (and_iff (not conflict) (not outside) (not_iff conflict (conflicting_exactly (says_in W s) W.effect r.first r.count))
    (not_iff outside (straying_exactly (says_in W s) W.size W.effect r.first r.count))))

-- what is asked of the formulas is no more than the conditions of the range: where these say the same, it conflicts alike
module _ (effect : ℕ → Effect) (says said : ℕ → Bool) (i k : ℕ) where
  pub conflict_same : ((a : ℕ) → InRange i k a → says (effect a).condition ≡ said (effect a).condition) → conflicting says effect i k ≡ conflicting said effect i k
  unfolding conflicting
  conflict_same same = some_same _ _ k i (λ a l. some_same _ _ k i (λ b m. rw (same a l, same b m)))

  -- and strays alike
  pub stray_same :
      (size : ℕ → ℕ) → ((a : ℕ) → InRange i k a → says (effect a).condition ≡ said (effect a).condition)
      → straying says size effect i k ≡ straying said size effect i k
  unfolding straying
  stray_same size same = some_same _ _ k i (λ a l. rw (same a l))
