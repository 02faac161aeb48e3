-- Performing an action by document 01's words, "Moves": of each fluent, the first effect of the range that names it and whose condition
-- holds in the old values gives the new value, and without one the value stays. Assumes nothing.
use mathlib.Core.Path.{◌≡◌, refl, ◌∙◌, ap}
use mathlib.Core.Bool.{Bool, true, false}
use mathlib.Core.List.{List, [], ◌∷◌}
use Prim.Native.Nat.{ℕ, zero, suc, ◌+◌, ◌<◌}
use native.Mathlib.Nat.{not-suc-le-zero}
use native.Mathlib.Omega.{arith}
use borrow.Author.Tests.{le-ltb}
use lib.ListN.{length, get_or}
use Rattle.records.specs.declared.Effect.{Effect}
use Rattle.records.specs.declared.Action.{Action}
use Rattle.golog.specs.declared.State.{State}
use Rattle.golog.specs.World.{World, start, says_in, changes, given, each, changed, perform_by, perform}

module _ (says : ℕ → Bool) (effect : ℕ → Effect) (x old : ℕ) where
  pub given_none : (i : ℕ) → given says effect x old i 0 ≡ old
  unfolding given
  given_none i = refl

  pub given_here : (i k : ℕ) → changes says (effect i) x ≡ true → given says effect x old i (suc k) ≡ (effect i).value
  unfolding given
  given_here i k e = simp e

  pub given_later : (i k : ℕ) → changes says (effect i) x ≡ false → given says effect x old i (suc k) ≡ given says effect x old (suc i) k
  unfolding given
  given_later i k e = simp e

  -- the first that names the fluent and holds gives the value
  pub first_gives :
      (j i k : ℕ)
      → j < k
      → ((l : ℕ) → l < j → changes says (effect (i + l)) x ≡ false)
      → changes says (effect (i + j)) x ≡ true
      → given says effect x old i k ≡ (effect (i + j)).value
  first_gives j i zero h before here = absurd (not-suc-le-zero h)
  first_gives zero i (suc k) h before here =
      given_here i k (ap (λ (n : ℕ). changes says (effect n) x) (omega arith) ∙ here) ∙ ap (λ (n : ℕ). (effect n).value) (omega arith)
  first_gives (suc j) i (suc k) h before here =
      given_later i k (ap (λ (n : ℕ). changes says (effect n) x) (omega arith) ∙ before 0 (omega arith))
      ∙ first_gives j (suc i) k (omega arith) (λ l m. ap (λ (n : ℕ). changes says (effect n) x) (omega arith) ∙ before (suc l) (omega arith))
      (ap (λ (n : ℕ). changes says (effect n) x) (omega arith) ∙ here)
      ∙ ap (λ (n : ℕ). (effect n).value) (omega arith)

  -- without one the value stays
  pub none_gives : (k i : ℕ) → ((l : ℕ) → l < k → changes says (effect (i + l)) x ≡ false) → given says effect x old i k ≡ old
  none_gives zero i none = given_none i
  none_gives (suc k) i none =
      given_later i k (ap (λ (n : ℕ). changes says (effect n) x) (omega arith) ∙ none 0 (omega arith))
      ∙ none_gives k (suc i) (λ l m. ap (λ (n : ℕ). changes says (effect n) x) (omega arith) ∙ none (suc l) (omega arith))

-- as many values
pub length_each : (f : ℕ → ℕ → ℕ) (x : ℕ) (v : List ℕ) → length (each f x v) ≡ length v
unfolding each
length_each f x [] = refl
length_each f x (y ∷ v) = ap suc (length_each f (suc x) v)

pub each_at : (f : ℕ → ℕ → ℕ) (x : ℕ) (v : List ℕ) (i : ℕ) → i < length v → get_or (each f x v) i 0 ≡ f (x + i) (get_or v i 0)
unfolding each
each_at f x [] i h = absurd (omega arith)
each_at f x (y ∷ v) zero h = ap (λ (n : ℕ). f n y) (omega arith)
each_at f x (y ∷ v) (suc i) h = each_at f (suc x) v i (omega arith) ∙ ap (λ (n : ℕ). f n (get_or v i 0)) (omega arith)

-- every place of the new values is judged in the old ones
pub changed_at :
    (says : ℕ → Bool) (effect : ℕ → Effect) (r : Action) (values : List ℕ) (x : ℕ)
    → x < length values
    → get_or (changed says effect r values) x 0 ≡ given says effect x (get_or values x 0) r.first r.count
unfolding changed
changed_at says effect r values x h =
    each_at (λ (y old : ℕ). given says effect y old r.first r.count) 0 values x h
    ∙ ap (λ (y : ℕ). given says effect y (get_or values x 0) r.first r.count) (omega arith)

-- and so are the values after an action of the table
pub performed_at :
    (W : World) (a : ℕ) (s : State) (x : ℕ)
    → a < start
    → x < length s.values
    → get_or (perform W a s).values x 0 ≡ given (says_in W s) W.effect x (get_or s.values x 0) (W.action a).first (W.action a).count
unfolding perform_by
performed_at W a s x l h = rw (le-ltb 65533 a (omega arith)) (changed_at (says_in W s) W.effect (W.action a) s.values x h)
