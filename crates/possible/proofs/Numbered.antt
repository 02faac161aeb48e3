-- The same effects under other numbers: where those from number m + i on and those from number i on are alike, they contradict each other,
-- stray and change values alike. Assumes nothing.
use Prim.Native.Nat.{ℕ, zero, suc, ◌+◌}
use mathlib.Core.Path.{◌≡◌, refl, ap, ◌∙◌}
use mathlib.Core.Bool.{Bool, ◌||◌}
use native.Mathlib.Omega.{arith}
use Rattle.records.specs.declared.Effect.{Effect}
use Rattle.records.specs.Some.{InRange, some_from}
use Rattle.records.proofs.Some.{some_same}
use Rattle.golog.specs.World.{conflicting, straying, given}

some_moved : (f : ℕ → Bool) (m k i : ℕ) → some_from f (m + i) k ≡ some_from (λ (a : ℕ). f (m + a)) i k
unfolding some_from
some_moved f m zero i = refl
some_moved f m (suc k) i =
    let next : suc (m + i) ≡ m + suc i = omega arith in
    ap (λ (b : Bool). f (m + i) || b) (ap (λ (j : ℕ). some_from f j k) next ∙ some_moved f m k (suc i))

some_numbered : (f g : ℕ → Bool) (m k i : ℕ) → ((a : ℕ) → InRange i k a → f (m + a) ≡ g a) → some_from f (m + i) k ≡ some_from g i k
some_numbered f g m k i same = some_moved f m k i ∙ some_same _ g k i same

-- what the formulas say of their conditions is the same, and they give the same fluent the same value
pub record Alike (says said : ℕ → Bool) (d e : Effect) : Type 0 where
  pub condition : says d.condition ≡ said e.condition
  pub fluent : d.fluent ≡ e.fluent
  pub value : d.value ≡ e.value

module _ (says said : ℕ → Bool) (effect effect' : ℕ → Effect) (m : ℕ) where
  abbrev pub AllAlike : (i k : ℕ) → Type 0
  AllAlike i k = (a : ℕ) → InRange i k a → Alike says said (effect (m + a)) (effect' a)

  pub conflicting_numbered : (i k : ℕ) → AllAlike i k → conflicting says effect (m + i) k ≡ conflicting said effect' i k
  unfolding conflicting
  conflicting_numbered i k alike =
      some_numbered _ _ m k i
      (λ a l. some_numbered _ _ m k i
      (λ b n. let d = alike a l in let e = alike b n in rw (d.condition, e.condition, d.fluent, e.fluent, d.value, e.value)))

  pub straying_numbered :
      (size size' : ℕ → ℕ) → ((x : ℕ) → size x ≡ size' x) → (i k : ℕ) → AllAlike i k
      → straying says size effect (m + i) k ≡ straying said size' effect' i k
  unfolding straying
  straying_numbered size size' same i k alike =
      some_numbered _ _ m k i (λ a l. let d = alike a l in rw (d.condition, d.fluent, d.value, same (effect' a).fluent))

  pub given_numbered : (x old k i : ℕ) → AllAlike i k → given says effect x old (m + i) k ≡ given said effect' x old i k
  unfolding given
  given_numbered x old zero i alike = refl
  given_numbered x old (suc k) i alike =
      let d = alike i (omega arith, omega arith) in
      let next : suc (m + i) ≡ m + suc i = omega arith in
      let later : given says effect x old (suc (m + i)) k ≡ given said effect' x old (suc i) k =
      ap (λ (j : ℕ). given says effect x old j k) next ∙ given_numbered x old k (suc i) (λ a (l, n). alike a (omega arith, omega arith)) in
      rw (d.condition, d.fluent, d.value, later)
