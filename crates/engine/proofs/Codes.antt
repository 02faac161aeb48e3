-- The code of a transition tells its move: 65536 a test, any other number that action. Assumes nothing.
use Rattle.std.proofs.Common.{◌≡◌, ℕ, ◌≤◌, Bool, cond, List, sym, ap, ◌∙◌, subst, arith, eq-eqb, ne_eqb}
use native.Mathlib.Decide.{ℕ_discrete}
use mathlib.Core.Option.{Option, none, some}
use Rattle.steps.specs.Laid.{test_code, code_of}
use Rattle.engine.specs.Going.{Known, IsAction, move_of}

module _ (e : ℕ) where
  pub is_test : e ≡ test_code → move_of e ≡ none
  is_test z = ap (λ (b : Bool). cond b none (some e)) (eq-eqb e test_code z)

  pub is_move : ¬ (e ≡ test_code) → move_of e ≡ some e
  is_move z = ap (λ (b : Bool). cond b none (some e)) (ne_eqb e test_code z)

module _ (s : List ℕ) (e : ℕ) where
  pub decoded : (m : Option ℕ) → Known (IsAction s) m → e ≡ code_of m → move_of e ≡ m
  decoded none k q = is_test e q
  decoded (some a) k q = is_move e (λ z. omega (arith, k.0)) ∙ ap some q

  module _ (m : Option ℕ) (k : Known (IsAction s) m) (q : move_of e ≡ m) where
    pub action_of_code : ¬ (e ≡ test_code) → IsAction s e
    action_of_code z = subst (Known (IsAction s)) (sym q ∙ is_move e z) k

    pub code_bound : e ≤ test_code
    code_bound = go (ℕ_discrete e test_code)
      where
        go : Dec (e ≡ test_code) → e ≤ test_code
        go (yes z) = omega arith
        go (no z) = omega (arith, (action_of_code z).0)
