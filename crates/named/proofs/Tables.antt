-- The tables have the sets of Named.antt: each formula's, by what its kind makes of the lower ones'; the union over a table; and what the
-- precondition of each action and the conditions of its effects name. Assumes nothing.
use Prim.Native.Nat.{ℕ, zero, suc, ◌+◌, ◌-◌, ◌<◌}
use native.Mathlib.Omega.{arith}
use mathlib.Core.Path.{◌≡◌, refl, sym, ap, ap₂, ◌∙◌}
use mathlib.Core.Bool.{Bool, false, ◌||◌}
use mathlib.Core.List.{List}
use lib.Bits.{bit_or}
use lib.ListN.{get_or}
use Rattle.std.specs.List.{fold, range_with_len}
use Rattle.records.specs.declared.Formula.{Formula}
use Rattle.records.specs.declared.Effect.{Effect}
use Rattle.records.specs.declared.Action.{Action}
use Rattle.records.specs.Records.{formula_at, effect_at, action_at}
use Rattle.records.specs.Table.{up_to, entry_of}
use Rattle.records.specs.Some.{InRange, some_from}
use Rattle.records.specs.Mask.{mask_of}
use Rattle.records.proofs.Fills.{default_at, up_at, entry_is}
use Rattle.records.proofs.Some.{some_more}
use Rattle.records.proofs.Masks.{mask_or, mask_same, mask_none}
use Rattle.kinds.specs.Formulas.{LowerFormulas}
use Rattle.kinds.proofs.Names.{set_is}
use Rattle.named.specs.Named.{names_at, names, conditions_name, action_names, table_names, formula_set, conditions_set, action_set, table_set}
use Rattle.named.specs.Tables.{most_sets, most_actions, or_from, set_in, sets_of, union_of, conditions_by, action_set_in, action_sets_of, AreSets, AreActionSets}
use Rattle.named.proofs.Named.{names_is, names_at_lem}

-- the union of sets is the set of what is in one of them
pub or_is : (U : ℕ → ℕ → Bool) (k i : ℕ) → or_from (λ (a : ℕ). mask_of (U a) 32) i k ≡ mask_of (λ (x : ℕ). some_from (λ (a : ℕ). U a x) i k) 32
unfolding or_from some_from
or_is U zero i = sym (mask_none 32)
or_is U (suc k) i =
    ap (λ (s : ℕ). bit_or s (mask_of (U (i + k)) 32)) (or_is U k i)
    ∙ mask_or (λ (x : ℕ). some_from (λ (a : ℕ). U a x) i k) (U (i + k)) 32
    ∙ mask_same (λ (x : ℕ). some_from (λ (a : ℕ). U a x) i k || U (i + k) x) (λ (x : ℕ). some_from (λ (a : ℕ). U a x) i (suc k)) 32
    (λ x l. sym (some_more (λ (a : ℕ). U a x) k i))

or_same : (f g : ℕ → ℕ) (k i : ℕ) → ((a : ℕ) → InRange i k a → f a ≡ g a) → or_from f i k ≡ or_from g i k
unfolding or_from
or_same f g zero i h = refl
or_same f g (suc k) i h = ap₂ bit_or (or_same f g k i (λ a (l, m). h a (l, omega arith))) (h (i + k) (omega arith, omega arith))

-- the union is what joining the sets upwards gives
or_onward : (f : ℕ → ℕ) (a k i m n : ℕ) → m ≡ a + i → n ≡ i + k → fold (λ s q. bit_or s (f q)) (or_from f a i) (range_with_len m k) ≡ or_from f a n
unfolding or_from
or_onward f a zero i m n e h = let l : i ≡ n = omega arith in ap (or_from f a) l
or_onward f a (suc k) i m n e h = rw e (or_onward f a k (suc i) (a + i + 1) n (omega arith) (omega arith))

pub or_fold : (f : ℕ → ℕ) (i k : ℕ) → fold (λ s q. bit_or s (f q)) 0 (range_with_len i k) ≡ or_from f i k
unfolding or_from
or_fold f i k = or_onward f i k 0 i k (omega arith) (omega arith)

module _ (t : List ℕ) (n : ℕ) (low : LowerFormulas t n) where
  -- the entries below k
  entries_are : (k q : ℕ) → q < k → q < n → entry_of 0 (set_in t) q ≡ formula_set (formula_at t) q
  entries_are zero q h l = absurd (omega arith)
  entries_are (suc k) q h l =
      let formula = formula_at t in
      entry_is 0 (set_in t) q
      ∙ set_is q (formula q) (low q l) (λ (x : ℕ). up_to (names_at formula x) q) (up_to (set_in t) q)
      (λ a m. up_at 0 (set_in t) q a m ∙ entries_are k a (omega arith) (omega arith)
      ∙ mask_same (names formula a) (λ (x : ℕ). get_or (up_to (names_at formula x) q) a false) 32 (λ x b. sym (names_at_lem formula q a x m)))
      ∙ mask_same _ (names formula q) 32 (λ x b. sym (names_is formula q x))

  pub sets_are : AreSets (formula_at t) n (sets_of t n)
  unfolding sets_of
  sets_are q l = default_at 0 (up_to (set_in t) n) (most_sets - n) q ∙ up_at 0 (set_in t) n q l ∙ entries_are (suc q) q (omega arith) l

-- "the union for its precondition and its effects' conditions"
pub action_set_is :
    (formula : ℕ → Formula) (effect : ℕ → Effect) (r : Action)
    → bit_or (formula_set formula r.precondition) (conditions_set formula effect r.first r.count) ≡ action_set formula effect r
unfolding action_names
action_set_is formula effect r = mask_or (names formula r.precondition) (conditions_name formula effect r.first r.count) 32

module _ (formula : ℕ → Formula) (m : ℕ) (sets : List ℕ) (are : AreSets formula m sets) where
  pub union_is : union_of sets m ≡ table_set formula m
  unfolding table_names
  union_is = or_same (λ (q : ℕ). get_or sets q 0) (formula_set formula) m 0 (λ q (l, b). are q (omega arith)) ∙ or_is (names formula) m 0

  module _ (effects : List ℕ) where
    -- the k effects from i on have conditions among the first m formulas
    pub conditions_are : (i k : ℕ) → ((e : ℕ) → InRange i k e → (effect_at effects e).condition < m) → conditions_by effects sets i k ≡ conditions_set formula (effect_at effects) i k
    unfolding conditions_name
    conditions_are i k below =
        or_same (λ (e : ℕ). get_or sets (effect_at effects e).condition 0) (λ (e : ℕ). formula_set formula (effect_at effects e).condition) k i (λ e r. are _ (below e r))
        ∙ or_is (λ (e : ℕ). names formula (effect_at effects e).condition) k i

    pub action_sets_are :
        (actions : List ℕ) (n : ℕ)
        → ((a : ℕ) → a < n → (action_at actions a).precondition < m)
        → ((a : ℕ) → a < n → (e : ℕ) → InRange (action_at actions a).first (action_at actions a).count e → (effect_at effects e).condition < m)
        → AreActionSets formula (effect_at effects) (action_at actions) n (action_sets_of effects actions sets n)
    unfolding action_sets_of
    action_sets_are actions n known below a l =
        let f : ℕ → List ℕ → ℕ = action_set_in effects actions sets in
        default_at 0 (up_to f n) (most_actions - n) a ∙ up_at 0 f n a l ∙ entry_is 0 f a
        ∙ ap₂ bit_or (are _ (known a l)) (conditions_are _ _ (below a l))
        ∙ action_set_is formula (effect_at effects) (action_at actions a)
