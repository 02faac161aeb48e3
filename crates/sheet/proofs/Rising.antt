-- Causes in rising order and the tests that ask for them go down side by side, one line after the other: the answer is the least
-- number whose cause holds, with its place. One law for every line. Assumes nothing.
use mathlib.Core.Path.{◌≡◌, refl, sym, ◌∙◌, ap₂, subst}
use mathlib.Core.Bool.{Bool, true, false, cond, false≢true}
use mathlib.Core.Logic.{◌⊎◌, inl, inr, ⊎_elim, ◌↔◌}
use Prim.Native.Nat.{ℕ, ◌≤◌, ◌<◌}
use native.Mathlib.Decide.{dec_lt}
use native.Mathlib.Omega.{arith}
use borrow.Author.Tests.{ltb-true, lt-ltb}
use lib.Dec.{ltb}
use Rattle.records.specs.Lowest.{lowest, LowestFaulty}
use Rattle.records.proofs.Lowest.{lowest_exactly}
use Rattle.sheet.specs.Check.{refused, Checked, accepted_with}
use Rattle.std.specs.Prelude.{Ok, Err}

-- the answer that causes C give: the least number that has one, with its only place
abbrev pub By : (ℕ → ℕ → Type 0) → Checked → Type 0
By C (Ok a) = (k p : ℕ) → ¬ C k p
By C (Err r) = C r.number r.place × ((j q : ℕ) → j < r.number → ¬ C j q) × ((q : ℕ) → C r.number q → q ≡ r.place)

-- it is the only one
module _ (C : ℕ → ℕ → Type 0) where
  pub first_answered : (k p : ℕ) (x : Checked) → By C x → C k p × ((j q : ℕ) → j < k → ¬ C j q) → x ≡ refused k p
  first_answered k p (Ok a) none (c, least) = absurd (none k p c)
  first_answered k p (Err r) (d, lower, one) (c, least) = go (dec_lt r.number k) (dec_lt k r.number)
    where
      go : Dec (r.number < k) → Dec (k < r.number) → Err r ≡ refused k p
      go (yes l) h = absurd (least _ _ l d)
      go (no l) (yes h) = absurd (lower k p h c)
      go (no l) (no h) = let e : k ≡ r.number = omega arith in ap₂ refused (sym e) (sym (one p (subst (λ (m : ℕ). C m p) e c)))

  pub none_accepted : (x : Checked) → By C x → ((k p : ℕ) → ¬ C k p) → (w u : ℕ) × (x ≡ accepted_with w u)
  none_accepted (Ok a) none off = (a.words, a.names, refl)
  none_accepted (Err r) (d, lower, one) off = absurd (off _ _ d)

-- causes that do not hold, before others
pub wider : (L C : ℕ → ℕ → Type 0) → ((k p : ℕ) → ¬ L k p) → (x : Checked) → By C x → By (λ k p. L k p ⊎ C k p) x
wider L C off (Ok a) none = λ k p. ⊎_elim (off k p) (none k p)
wider L C off (Err r) (c, least, one) = (inr c, λ j q l. ⊎_elim (off j q) (least j q l), λ q. ⊎_elim (λ c. absurd (off _ q c)) (one q))

-- a number that is given by the first causes, before others of higher numbers
pub sooner : (L C : ℕ → ℕ → Type 0) (m k p : ℕ) → k ≤ m → ((j q : ℕ) → C j q → m < j) → By L (refused k p) → By (λ k p. L k p ⊎ C k p) (refused k p)
sooner L C m k p h above (c, least, one) = (
  inl c,
  λ j q l. ⊎_elim (least j q l) (λ d. omega (arith, above j q d)),
  λ q. ⊎_elim (one q) (λ d. absurd (omega (arith, above k q d))),
)

-- C are causes of numbers above m, and the answer x is by them where G is known
pub record Told (m : ℕ) (G : Type 0) (C : ℕ → ℕ → Type 0) (x : Checked) : Type 0 where
  pub above : (k p : ℕ) → C k p → m < k
  pub by : G → By C x

-- L is the cause of number m, and where G is known the test b decides it, at place i
pub record Decided (G : Type 0) (m i : ℕ) (b : Bool) (L : ℕ → ℕ → Type 0) : Type 0 where
  pub number : (k p : ℕ) → L k p → k ≡ m
  pub true_holds : G → b ≡ true → L m i
  pub holds_true : G → (k p : ℕ) → L k p → (b ≡ true) × (p ≡ i)

module _ {G : Type 0} {m i : ℕ} {b : Bool} {L : ℕ → ℕ → Type 0} (d : Decided G m i b L) where
  never : G → b ≡ false → (k p : ℕ) → ¬ L k p
  never g e k p h = false≢true (sym e ∙ (d.holds_true g k p h).0)

  -- the last line
  pub last : (l : ℕ) → l < m → (w u : ℕ) → Told l G L (cond b (refused m i) (accepted_with w u))
  last l h w u = record { above = λ k p c. omega (arith, d.number k p c); by = λ g. go g b refl }
    where
      go : G → (c : Bool) → b ≡ c → By L (cond c (refused m i) (accepted_with w u))
      go g true e = (d.true_holds g e, λ j q l c. omega (arith, d.number j q c), λ q c. (d.holds_true g m q c).1)
      go g false e = never g e

  -- a line, and those below it, for which H is known
  pub then :
      (l : ℕ) {H : Type 0} {C : ℕ → ℕ → Type 0} {x : Checked}
      → l < m → (G → b ≡ false → H) → Told m H C x → Told l G (λ k p. L k p ⊎ C k p) (cond b (refused m i) x)
  then l {H} {C} {x} h more rest = record {
    above = λ k p. ⊎_elim (λ c. omega (arith, d.number k p c)) (λ c. omega (arith, rest.above k p c));
    by = λ g. go g b refl;
  }
    where
      go : G → (c : Bool) → b ≡ c → By (λ k p. L k p ⊎ C k p) (cond c (refused m i) x)
      go g true e = (
        inl (d.true_holds g e),
        λ j q l. ⊎_elim (λ c. omega (arith, d.number j q c)) (λ c. omega (arith, rest.above j q c)),
        λ q. ⊎_elim (λ c. (d.holds_true g m q c).1) (λ c. absurd (omega (arith, rest.above m q c))),
      )
      go g false e = wider L C (never g e) x (rest.by (more g e))

-- a cause whose place is 0
pub unplaced : {G X : Type 0} (m : ℕ) (b : Bool) → (G → (b ≡ true) ↔ X) → Decided G m 0 b (λ k p. (k ≡ m) × (p ≡ 0) × X)
unplaced m b f = record {
  number = λ k p c. c.0;
  true_holds = λ g e. (refl, refl, (f g).0 e);
  holds_true = λ g k p c. ((f g).1 c.2, c.1);
}

-- a cause whose place is the lowest faulty record
pub lowest_placed :
    {G : Type 0} {Rule : ℕ → Type 0} (m : ℕ) (ok : ℕ → Bool) (n : ℕ) → ((i : ℕ) → (ok i ≡ true) ↔ Rule i)
    → Decided G m (lowest ok n) (ltb (lowest ok n) n) (λ k p. (k ≡ m) × LowestFaulty Rule n p)
lowest_placed {Rule = Rule} m ok n f = record {
  number = λ k p c. c.0;
  true_holds = λ g e. (refl, (lowest_exactly ok Rule f n (lowest ok n)).1 (ltb-true _ _ e, refl));
  holds_true = λ g k p c. let t = (lowest_exactly ok Rule f n p).0 c.1 in (lt-ltb _ _ t.0, t.1);
}
