-- The laws of a pass that gives fluents their new values. Up to number i a fluent that is noted has the value that the whole range gives it, and
-- no effect changes one that is not noted. Once the first n are noted, the rest of the range changes nothing. Assumes nothing.
use Prim.Native.Nat.{ℕ, zero, suc, ◌+◌, ◌-◌, ◌≤◌, ◌<◌}
use mathlib.Core.Path.{◌≡◌, refl, sym, ◌∙◌, ap, subst}
use mathlib.Core.Bool.{Bool, true, false, not, cond, ◌&&◌, false≢true}
use mathlib.Core.List.{List}
use native.Mathlib.Decide.{ℕ_discrete, dec_lt}
use native.Mathlib.Omega.{arith}
use borrow.Author.Tests.{not-true, ne_eqb, eq-eqb}
use lib.Dec.{eqb}
use lib.ListN.{length, get_or, set, replicate, length-set, length-replicate}
use lib.Seq.{get_or-set_same, get_or-set_other}
use Rattle.records.specs.declared.Effect.{Effect}
use Rattle.records.specs.declared.Action.{Action}
use Rattle.records.specs.Records.{effect_at}
use Rattle.records.proofs.Fills.{get_d_same}
use Rattle.records.proofs.Truth.{and_left, and_right, and_both, is_false}
use Rattle.golog.specs.World.{given, changed}
use Rattle.state.specs.Ranges.{Names}
use Rattle.state.proofs.Performed.{Passed, passed_none, passed_more, passed_found, passed_all, given_stays, changed_all}

-- how many of the first n places are not set
unfoldable pub unset : List Bool → (n : ℕ) → ℕ
unset flags zero = 0
unset flags (suc n) = cond (get_or flags n false) 0 1 + unset flags n

pub unset_all : (k n : ℕ) → unset (replicate k false) n ≡ n
unfolding unset
unset_all k zero = refl
unset_all k (suc n) = rw (get_d_same false k n, unset_all k n) (omega arith)

-- without one, every place is set
unset_none : (flags : List Bool) (n : ℕ) → unset flags n ≡ 0 → (x : ℕ) → x < n → get_or flags x false ≡ true
unfolding unset
unset_none flags zero e x l = absurd (omega arith)
unset_none flags (suc n) e x l = go (get_or flags n false) refl e (ℕ_discrete x n) (unset_none flags n)
  where
    go :
        (b : Bool) → get_or flags n false ≡ b → cond b 0 1 + unset flags n ≡ 0 → Dec (x ≡ n)
        → (unset flags n ≡ 0 → (y : ℕ) → y < n → get_or flags y false ≡ true) → get_or flags x false ≡ true
    go true f none (yes same) below = ap (λ (y : ℕ). get_or flags y false) same ∙ f
    go true f none (no other) below = below (omega arith) x (omega (arith, other))
    go false f none d below = absurd (omega arith)

module _ (flags : List Bool) (x : ℕ) (inside : x < length flags) where
  -- setting a place from n on leaves the number; setting one below n that was not set lowers it by one
  unset_other : (n : ℕ) → n ≤ x → unset (set flags x true) n ≡ unset flags n
  unfolding unset
  unset_other zero l = refl
  unset_other (suc n) l = rw (get_or-set_other flags x n true false (λ e. omega arith), unset_other n (omega arith)) refl

  pub unset_more : (n : ℕ) → x < n → get_or flags x false ≡ false → unset flags n ≡ suc (unset (set flags x true) n)
  unfolding unset
  unset_more zero l f = absurd (omega arith)
  unset_more (suc n) l f = go (ℕ_discrete n x) (λ b. unset_more n b f)
    where
      go :
          Dec (n ≡ x) → (x < n → unset flags n ≡ suc (unset (set flags x true) n))
          → cond (get_or flags n false) 0 1 + unset flags n ≡ suc (cond (get_or (set flags x true) n false) 0 1 + unset (set flags x true) n)
      go (yes same) below = rw (same, f, get_or-set_same flags x true false inside, unset_other x (omega arith)) (omega arith)
      go (no other) below = rw (get_or-set_other flags x n true false other, below (omega (arith, other))) (omega arith)

-- an effect of the range names one of the first n fluents
pub fluent_below :
    (effects : List ℕ) (n first count i : ℕ) {e : Effect} → Names effects n first count → first ≤ i → i < first + count → e ≡ effect_at effects i → e.fluent < n
fluent_below effects n first count i names from to r = rw r (names i from to)

module _ (says : ℕ → Bool) (effects : List ℕ) (values : List ℕ) (n first count : ℕ) where
  -- what the range gives a fluent
  abbrev gives : ℕ → ℕ
  gives x = given says (effect_at effects) x (get_or values x 0) first count

  -- up to number i: the fluents noted have their new values, the others have their old ones; and how many of the first n are not noted
  pub record Giving (new : List ℕ) (noted : List Bool) (left i : ℕ) : Type 0 where
    pub long : length new ≡ length values
    pub wide : length noted ≡ 32
    pub done : (x : ℕ) → get_or noted x false ≡ true → get_or new x 0 ≡ gives x
    pub kept : (x : ℕ) → get_or noted x false ≡ false → Passed says effects x (get_or values x 0) first count (get_or new x 0) i
    pub rest : left ≡ unset noted n

  pub giving_none : Giving values (replicate 32 false) n first
  giving_none = record {
    long = refl;
    wide = length-replicate {A = Bool} 32 false;
    done = λ x e. absurd (false≢true (sym (get_d_same false 32 x) ∙ e));
    kept = λ x e. passed_none says effects x (get_or values x 0) first count;
    rest = sym (unset_all 32 n);
  }

  module _ {new : List ℕ} {noted : List Bool} {left i : ℕ} (G : Giving new noted left i) where
    -- effect i is e, and the flag says whether its condition holds
    module _ (l : i < first + count) {e : Effect} (r : e ≡ effect_at effects i) {flag : Bool} (f : flag ≡ says e.condition) where
      -- it does not change a fluent that it does not name
      passed_other : (x : ℕ) → ¬ (x ≡ e.fluent) → get_or noted x false ≡ false → Passed says effects x (get_or values x 0) first count (get_or new x 0) (i + 1)
      passed_other x other none =
          passed_more says effects x (get_or values x 0) (G.kept x none) l r refl (ap (λ (b : Bool). b && says e.condition) (ne_eqb e.fluent x (λ e. other (sym e))))

      -- where it does not hold, or its fluent is noted, it changes nothing
      pub giving_passed : (flag && not (get_or noted e.fluent false)) ≡ false → Giving new noted left (i + 1)
      giving_passed t = record { long = G.long; wide = G.wide; done = G.done; kept = λ x none. go x none (ℕ_discrete x e.fluent); rest = G.rest }
        where
          go : (x : ℕ) → get_or noted x false ≡ false → Dec (x ≡ e.fluent) → Passed says effects x (get_or values x 0) first count (get_or new x 0) (i + 1)
          go x none (no other) = passed_other x other none
          go x none (yes same) =
              let holds_not = is_false flag (λ h. false≢true (sym t ∙ and_both flag _ h (ap not (ap (λ (y : ℕ). get_or noted y false) (sym same) ∙ none)))) in
              passed_more says effects x (get_or values x 0) (G.kept x none) l r refl
              (is_false _ (λ c. false≢true (sym holds_not ∙ f ∙ and_right (eqb e.fluent x) _ c)))

      -- else it gives its fluent the value of the whole range
      module _ (t : (flag && not (get_or noted e.fluent false)) ≡ true) (below : e.fluent < n) where
        free : get_or noted e.fluent false ≡ false
        free = not-true _ (and_right flag _ t)

        found : e.value ≡ gives e.fluent
        found =
            passed_found says effects e.fluent (get_or values e.fluent 0) (G.kept e.fluent free) l r refl
            (and_both _ _ (eq-eqb e.fluent e.fluent refl) (sym f ∙ and_left flag _ t))

        module _ (within : n ≤ 32) where
          one_less : left ≡ suc (unset (set noted e.fluent true) n)
          one_less = G.rest ∙ unset_more noted e.fluent (omega (arith, G.wide)) n below free

          pub giving_some : 1 ≤ left
          giving_some = omega (arith, one_less)

          pub giving_more : length values ≡ 32 → Giving (set new e.fluent e.value) (set noted e.fluent true) (left - 1) (i + 1)
          giving_more size = record {
            long = length-set new e.fluent e.value ∙ G.long;
            wide = length-set noted e.fluent true ∙ G.wide;
            done = λ x. done_at x (ℕ_discrete x e.fluent);
            kept = λ x. kept_at x (ℕ_discrete x e.fluent);
            rest = omega (arith, one_less);
          }
            where
              new' : List ℕ
              new' = set new e.fluent e.value

              noted' : List Bool
              noted' = set noted e.fluent true

              done_at : (x : ℕ) → Dec (x ≡ e.fluent) → get_or noted' x false ≡ true → get_or new' x 0 ≡ gives x
              done_at x (no other) d =
                  get_or-set_other new e.fluent x e.value 0 other ∙ G.done x (sym (get_or-set_other noted e.fluent x true false other) ∙ d)
              done_at x (yes same) d = rw same (get_or-set_same new e.fluent e.value 0 (omega (arith, G.long)) ∙ found)

              kept_at : (x : ℕ) → Dec (x ≡ e.fluent) → get_or noted' x false ≡ false → Passed says effects x (get_or values x 0) first count (get_or new' x 0) (i + 1)
              kept_at x (no other) d =
                  subst (λ (v : ℕ). Passed says effects x (get_or values x 0) first count v (i + 1)) (sym (get_or-set_other new e.fluent x e.value 0 other))
                  (passed_other x other (sym (get_or-set_other noted e.fluent x true false other) ∙ d))
              kept_at x (yes same) d =
                  absurd (false≢true (sym d ∙ ap (λ (y : ℕ). get_or noted' y false) same ∙ get_or-set_same noted e.fluent true false (omega (arith, G.wide))))

    -- values each of which the range gives are those after an action that has this range
    module _ (r : Action) (from : first ≡ r.first) (long : count ≡ r.count) where
      all_given : ((x : ℕ) → get_or new x 0 ≡ gives x) → new ≡ changed says (effect_at effects) r values
      all_given each-is = changed_all says effects r values G.long (λ x l. rw (← from, ← long) (each-is x))

      -- so they are behind the last effect
      pub giving_all : first + count ≤ i → new ≡ changed says (effect_at effects) r values
      giving_all l = all_given (λ x. go x (get_or noted x false) refl)
        where
          go : (x : ℕ) (b : Bool) → get_or noted x false ≡ b → get_or new x 0 ≡ gives x
          go x true e = G.done x e
          go x false e = passed_all says effects x (get_or values x 0) (G.kept x e) l

      -- and once no fluent is left, where effects name the first n
      pub giving_done : left ≡ 0 → Names effects n first count → new ≡ changed says (effect_at effects) r values
      giving_done none names = all_given (λ x. go x (get_or noted x false) refl (dec_lt x n))
        where
          go : (x : ℕ) (b : Bool) → get_or noted x false ≡ b → Dec (x < n) → get_or new x 0 ≡ gives x
          go x true e d = G.done x e
          go x false e (yes l) = absurd (false≢true (sym e ∙ unset_none noted n (sym G.rest ∙ none) x l))
          go x false e (no l) = (G.kept x e).kept ∙ sym (given_stays says effects n x (get_or values x 0) count first names (omega arith))
