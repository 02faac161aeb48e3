-- The laws of what is told once of a sheet: a pass that notes what stands under which condition tells ranges whose effects contradict each
-- other in no state; and a list has the marked numbers. Assumes nothing.
use Prim.Native.Nat.{ℕ, ◌+◌, ◌*◌, ◌≤◌, ◌<◌}
use mathlib.Core.Path.{◌≡◌, sym, ◌∙◌, ap, subst}
use mathlib.Core.Bool.{Bool, true, false, false≢true}
use mathlib.Core.List.{List}
use native.Mathlib.Decide.{ℕ_discrete, dec_lt}
use native.Mathlib.Omega.{arith}
use Rattle.std.specs.Prelude.{Option, None, Some}
use lib.Dec.{T}
use lib.ListN.{length, get_or, set, replicate, length-set, length-replicate, get_or-eq_default, get_or-replicate}
use lib.Seq.{get_or-set_same, get_or-set_other}
use Rattle.records.specs.declared.Formula.{Formula}
use Rattle.records.specs.declared.Effect.{Effect}
use Rattle.records.specs.Records.{formula_at, effect_at, action_at}
use Rattle.records.proofs.Fills.{get_d_same}
use Rattle.records.proofs.Truth.{is_false}
use Rattle.records.proofs.Written.{written}
use Rattle.kinds.specs.Formulas.{asks_value}
use Rattle.golog.specs.declared.State.{State}
use Rattle.golog.specs.World.{World, conflicting}
use Rattle.records.specs.Some.{InRange}
use Rattle.golog.specs.Possible.{Conflict}
use Rattle.golog.proofs.Possible.{conflicting_exactly}
use Rattle.golog.proofs.Formulas.{value_said}
use Rattle.state.specs.Truths.{said_by, AreTruths}
use Rattle.state.specs.Ranges.{ConditionsBelow}
use Rattle.state.specs.Conflicts.{listed_count, Lists}
use Rattle.state.specs.declared.exclusion.Asked.{Asked}
use Rattle.state.specs.Exclusion.{asked_of, Exclusive, MayConflict}

-- the fluent that a condition asks for, if any, and the value, or 0
abbrev pub fluent_of : Option Asked → Option ℕ
fluent_of None = None
fluent_of (Some a) = Some a.fluent

abbrev pub value_of : Option Asked → ℕ
value_of None = 0
value_of (Some a) = a.value

-- what is noted, if anything, is w
abbrev pub Agrees : {A : Type 0} → Option A → A → Type 0
Agrees None w = Unit {0}
Agrees (Some v) w = v ≡ w

-- it stays noted where w is written over it
still_some :
    {A : Type 0} (noted : List (Option A)) (x : ℕ) (w : A) → x < length noted → Agrees (get_or noted x None) w
    → (y : ℕ) (v : A) → get_or noted y None ≡ Some v → get_or (set noted x (Some w)) y None ≡ Some v
still_some {A} noted x w inside same y v old =
    written (λ (n : Option A). n ≡ Some v) None noted x (Some w) inside y (λ n. old)
    (λ e. ap Some (sym (subst (λ (n : Option A). Agrees n w) (ap (λ (z : ℕ). get_or noted z None) (sym e) ∙ old) same)))

module _ (formulas effects : List ℕ) (first : ℕ) where
  -- what the condition of effect a asks for, and the place in which its value is noted
  abbrev asked : ℕ → Option Asked
  asked a = asked_of (formula_at formulas (effect_at effects a).condition)

  abbrev place : ℕ → ℕ
  place a = 16 * (effect_at effects a).fluent + value_of (asked a)

  -- of each effect before number i it is noted what its condition asks for, and under that its value
  pub record AskedBefore (fluents : List (Option (Option ℕ))) (noted : List (Option ℕ)) (i : ℕ) : Type 0 where
    pub fluents_long : length fluents ≡ 32
    pub noted_long : length noted ≡ 512
    pub fluent : (a : ℕ) → first ≤ a → a < i → get_or fluents (effect_at effects a).fluent None ≡ Some (fluent_of (asked a))
    pub value : (a : ℕ) → first ≤ a → a < i → get_or noted (place a) None ≡ Some (effect_at effects a).value

  module _ {fluents : List (Option (Option ℕ))} {noted : List (Option ℕ)} {i : ℕ} (G : AskedBefore fluents noted i) where
    -- effect i is e, under a condition that asks for f, and `at` is its place
    module _
        {e : Effect} (r : e ≡ effect_at effects i) {f : Option ℕ} {at : ℕ} (ga : f ≡ fluent_of (asked_of (formula_at formulas e.condition)))
        (pa : at ≡ 16 * e.fluent + value_of (asked_of (formula_at formulas e.condition))) where
      pub asked_more :
          e.fluent < 32 → at < 512
          → Agrees (get_or fluents e.fluent None) f
          → Agrees (get_or noted at None) e.value
          → AskedBefore (set fluents e.fluent (Some f)) (set noted at (Some e.value)) (i + 1)
      asked_more l m one other = record {
        fluents_long = length-set fluents e.fluent (Some f) ∙ G.fluents_long;
        noted_long = length-set noted at (Some e.value) ∙ G.noted_long;
        fluent = λ a k t. fluent_at a k t (ℕ_discrete a i);
        value = λ a k t. value_at a k t (ℕ_discrete a i);
      }
        where
          fluent_at : (a : ℕ) → first ≤ a → a < i + 1 → Dec (a ≡ i) → get_or (set fluents e.fluent (Some f)) (effect_at effects a).fluent None ≡ Some (fluent_of (asked a))
          fluent_at a k t (yes z) =
              rw (z, ← r) (get_or-set_same fluents e.fluent (Some f) None (omega (arith, G.fluents_long)) ∙ ap Some ga)
          fluent_at a k t (no z) = still_some fluents e.fluent f (omega (arith, G.fluents_long)) one _ _ (G.fluent a k (omega (arith, z)))

          value_at : (a : ℕ) → first ≤ a → a < i + 1 → Dec (a ≡ i) → get_or (set noted at (Some e.value)) (place a) None ≡ Some (effect_at effects a).value
          value_at a k t (yes z) = rw (z, ← r, ← pa) (get_or-set_same noted at (Some e.value) None (omega (arith, G.noted_long)))
          value_at a k t (no z) = still_some noted at e.value (omega (arith, G.noted_long)) other _ _ (G.value a k (omega (arith, z)))

-- where no effects contradict each other although every formula holds, none give one fluent different values
pub held_exclusive :
    (formulas effects : List ℕ) (i k : ℕ) → ConditionsBelow effects 512 i k → conflicting (said_by (replicate 512 true)) (effect_at effects) i k ≡ false
    → Exclusive formulas effects i k
held_exclusive formulas effects i k low none a b l m same differ =
    let hold : (c : ℕ) → InRange i k c → T (said_by (replicate 512 true) (effect_at effects c).condition) =
    λ c (f, t). subst T (sym (get_or-replicate 512 (effect_at effects c).condition true false (low c f t))) tt in
    let t = (conflicting_exactly (said_by (replicate 512 true)) (effect_at effects) i k).1 (a, l, (b, m, ((hold a l, hold b m), (same, differ)))) in
    absurd (subst T none t)

-- exclusive effects contradict each other in no state
pub exclusive_none :
    (formulas effects : List ℕ) (i k : ℕ) → Exclusive formulas effects i k → (W : World) (s : State) (n : ℕ) (truths : List Bool) → AreTruths W s n truths
    → ((q : ℕ) → W.formula q ≡ formula_at formulas q) → ConditionsBelow effects n i k → conflicting (said_by truths) (effect_at effects) i k ≡ false
exclusive_none formulas effects i k A W s n truths H F low =
    is_false _ (λ e. none ((conflicting_exactly (said_by truths) (effect_at effects) i k).0 (subst T (sym e) tt)))
  where
    -- a fluent has the value that a condition asks for, where it holds
    asked : (q : ℕ) → q < n → T (said_by truths q) → T (asks_value (formula_at formulas q).kind) → get_or s.values (formula_at formulas q).x 0 ≡ (formula_at formulas q).a
    asked q l t e =
        subst (λ (r : Formula). get_or s.values r.x 0 ≡ r.a) (F q)
        (value_said W q s (subst (λ (r : Formula). T (asks_value r.kind)) (sym (F q)) e) (subst T (H q l) t))

    none : ¬ Conflict (said_by truths) (effect_at effects) i k
    none (a, (f, t), (b, (g, u), ((h, j), (same, differ)))) =
        let E = A a b (f, t) (g, u) same differ in
        let one = asked _ (low a f t) h E.one in
        let other = asked _ (low b g u) j E.other in
        E.values (sym one ∙ ap (λ (x : ℕ). get_or s.values x 0) E.fluent ∙ other)

-- every marked number has a place
marked_below : (marks : List Bool) (b : ℕ) → get_or marks b false ≡ true → b < length marks
marked_below marks b m = go (dec_lt b (length marks))
  where
    go : Dec (b < length marks) → b < length marks
    go (yes k) = k
    go (no k) = absurd (false≢true (sym (get_or-eq_default marks false (omega arith)) ∙ m))

-- of the marked actions below a those that may contradict themselves, and no others are left out
module _ (formulas effects actions : List ℕ) (marks : List Bool) where
  pub record MayConflictBelow (may : List Bool) (a : ℕ) : Type 0 where
    pub long : length may ≡ 64
    pub within : (b : ℕ) → get_or may b false ≡ true → get_or marks b false ≡ true
    pub rest : (b : ℕ) → b < a → get_or marks b false ≡ true → get_or may b false ≡ false → Exclusive formulas effects (action_at actions b).first (action_at actions b).count

  pub below_none : MayConflictBelow (replicate 64 false) 0
  below_none = record {
    long = length-replicate {A = Bool} 64 false;
    within = λ b e. absurd (false≢true (sym (get_d_same false 64 b) ∙ e));
    rest = λ b l. absurd (omega arith);
  }

  module _ {may : List Bool} {a : ℕ} (R : MayConflictBelow may a) where
    pub below_more :
        {t : Bool} → a < 64 → (t ≡ true → get_or marks a false ≡ true)
        → (get_or marks a false ≡ true → t ≡ false → Exclusive formulas effects (action_at actions a).first (action_at actions a).count)
        → MayConflictBelow (set may a t) (a + 1)
    below_more {t} l m A = record {
      long = length-set may a t ∙ R.long;
      within = λ b. written (λ (x : Bool). x ≡ true → get_or marks b false ≡ true) false may a t (omega (arith, R.long)) b
          (λ n. R.within b) (λ z x. ap (λ (i : ℕ). get_or marks i false) z ∙ m x);
      rest = λ b k h. written (λ (x : Bool). x ≡ false → Exclusive formulas effects (action_at actions b).first (action_at actions b).count) false may a t (omega (arith, R.long)) b
          (λ n. R.rest b (omega (arith, n)) h)
          (λ z. subst (λ (i : ℕ). get_or marks i false ≡ true → t ≡ false → Exclusive formulas effects (action_at actions i).first (action_at actions i).count) (sym z) A h);
    }

    pub below_done : length marks ≡ 64 → 64 ≤ a → MayConflict formulas effects actions marks may
    below_done long l = record { within = R.within; rest = λ b m. R.rest b (omega (arith, long, marked_below marks b m)) m }

module _ (marks : List Bool) where
  -- the first n places of the list are the marked numbers below a
  pub record Listing (list : List ℕ) (n a : ℕ) : Type 0 where
    pub long : length list ≡ 65
    pub few : n ≤ a
    pub marked : (j : ℕ) → j < n → (get_or list j 0 < a) × (get_or marks (get_or list j 0) false ≡ true)
    pub all : (b : ℕ) → b < a → get_or marks b false ≡ true → (j : ℕ) × (j < n) × (get_or list j 0 ≡ b)

  module _ {list : List ℕ} {n a : ℕ} (L : Listing list n a) where
    -- and how many there are is written behind all places
    pub listing_done : 64 ≤ a → a ≤ 64 → length marks ≡ 64 → Lists marks (set list 64 n)
    listing_done l h long = record {
      marked = λ b (j, k, z). let m = L.marked j (few j k) in subst (λ (i : ℕ). get_or marks i false ≡ true) (sym (kept j k) ∙ z) m.1;
      all = λ b m.
          let (j, k, z) = L.all b (omega (arith, long, marked_below marks b m)) m in
          (j, subst (λ (v : ℕ). j < v) (sym count) k, get_or-set_other list 64 j n 0 (λ y. omega (arith, L.few)) ∙ z);
    }
      where
        count : listed_count (set list 64 n) ≡ n
        count = get_or-set_same list 64 n 0 (omega (arith, L.long))

        few : (j : ℕ) → j < listed_count (set list 64 n) → j < n
        few j k = omega (arith, count)

        kept : (j : ℕ) → j < listed_count (set list 64 n) → get_or (set list 64 n) j 0 ≡ get_or list j 0
        kept j k = get_or-set_other list 64 j n 0 (λ y. omega (arith, L.few, few j k))
