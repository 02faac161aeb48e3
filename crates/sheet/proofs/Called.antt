-- What a call's number and place tell, where it answers by causes: they are those of the first cause, and the number is 0 exactly where
-- there is none. Assumes nothing.
use mathlib.Core.Path.{◌≡◌, sym, ◌∙◌, ap, subst}
use mathlib.Core.Logic.{◌↔◌}
use Prim.Native.Nat.{ℕ, ◌≤◌}
use native.Mathlib.Omega.{arith}
use Rattle.sheet.specs.Check.{number_of, place_of, Checked}
use Rattle.sheet.specs.Causes.{First}
use Rattle.sheet.proofs.Rising.{By, first_answered, none_accepted}
use Rattle.std.specs.Prelude.{Ok, Err}

-- n and q are the number and the place of an answer by the causes C
module _ (C : ℕ → ℕ → Type 0) (some : (k p : ℕ) → C k p → 1 ≤ k) (x : Checked) (by : By C x) (n q : ℕ) (number : n ≡ number_of x) where
  pub number_exactly : q ≡ place_of x → (k p : ℕ) → 1 ≤ k → ((n ≡ k) × (q ≡ p)) ↔ First C k p
  number_exactly place k p l = (
    λ (e, f). go x by (sym number ∙ e) (sym place ∙ f),
    λ f. let e = first_answered C k p x by f in (number ∙ ap number_of e, place ∙ ap place_of e),
  )
    where
      go : (x : Checked) → By C x → number_of x ≡ k → place_of x ≡ p → First C k p
      go (Ok a) b e f = absurd (omega arith)
      go (Err r) (c, least, one) e f = (subst (λ (m : ℕ). C m p) e (subst (C r.number) f c), λ i b h. least i b (omega arith))

  pub no_number_exactly : (n ≡ 0) ↔ ((k p : ℕ) → ¬ C k p)
  no_number_exactly = (λ e. go x by (sym number ∙ e), λ off. let a = none_accepted C x by off in number ∙ ap number_of a.2)
    where
      go : (x : Checked) → By C x → number_of x ≡ 0 → (k p : ℕ) → ¬ C k p
      go (Ok a) none e = none
      go (Err r) (c, least, one) e = absurd (omega (arith, some _ _ c))
