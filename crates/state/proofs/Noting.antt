-- The laws of comparing effects in a state: a pass that notes what each fluent was given finds a conflict exactly where there is one; marks
-- are those of the listed actions; and by them an action is allowed exactly where it is possible. Assumes nothing.
use Prim.Native.Nat.{ℕ, suc, ◌+◌, ◌-◌, ◌≤◌, ◌<◌}
use mathlib.Core.Path.{◌≡◌, refl, sym, ◌∙◌, ap, subst}
use mathlib.Core.Bool.{Bool, true, false, not, ◌&&◌, ◌||◌, false≢true, and-true}
use mathlib.Core.List.{List}
use mathlib.Core.Logic.{◌⊎◌, inl, inr, ⊎_elim}
use native.Mathlib.Numerals.{add-one}
use native.Mathlib.Decide.{ℕ_discrete}
use native.Mathlib.Omega.{arith}
use borrow.Author.Tests.{not-true, eqb-false, ne_eqb}
use Rattle.std.specs.Prelude.{Option, None, Some, map}
use lib.Dec.{T, eqb}
use lib.ListN.{length, get_or, set, replicate, length-set, length-replicate, get_or-map}
use lib.Seq.{get_or-set_same}
use Rattle.records.specs.declared.Effect.{Effect}
use Rattle.records.specs.Records.{effect_at, action_at}
use Rattle.records.proofs.Fills.{get_d_same}
use Rattle.records.proofs.Truth.{and_left, and_right, and_both, is_true, is_false}
use Rattle.records.proofs.Written.{written}
use Rattle.golog.specs.World.{special, conflicting, straying, possible_by}
use Rattle.golog.specs.Possible.{Conflict}
use Rattle.golog.proofs.Possible.{conflicting_exactly}
use Rattle.state.specs.Truths.{said_by}
use Rattle.state.specs.Conflicts.{differs, listed_count, Listed, in_conflict, Conflicted, allowed_by}

-- what is noted is another value, or it is none or the same
differ_true : (n w : ℕ) → differs n w ≡ true → (¬ (n ≡ 0)) × (¬ (n ≡ w))
differ_true n w e = (
  eqb-false n 0 (not-true _ (and_left (not (eqb n 0)) _ e)),
  eqb-false n w (not-true _ (and_right (not (eqb n 0)) _ e)),
)

differ_false : (n w : ℕ) → differs n w ≡ false → (n ≡ 0) ⊎ (n ≡ w)
differ_false n w e = go (ℕ_discrete n 0) (ℕ_discrete n w)
  where
    go : Dec (n ≡ 0) → Dec (n ≡ w) → (n ≡ 0) ⊎ (n ≡ w)
    go (yes z) d = inl z
    go (no z) (yes d) = inr d
    go (no z) (no d) = absurd (false≢true (sym e ∙ and_both _ _ (ap not (ne_eqb n 0 z)) (ap not (ne_eqb n w d))))

-- what is noted stays noted, where no other value is written over it
pub still_noted :
    (noted : List ℕ) (x w : ℕ) → x < length noted → differs (get_or noted x 0) w ≡ false
    → (y v : ℕ) → get_or noted y 0 ≡ suc v → get_or (set noted x w) y 0 ≡ suc v
still_noted noted x w inside same y v old =
    written (λ (n : ℕ). n ≡ suc v) 0 noted x w inside y (λ n. old)
    (λ e. let here = ap (λ (z : ℕ). get_or noted z 0) (sym e) ∙ old in
    ⊎_elim (λ (n : get_or noted x 0 ≡ 0). absurd (omega arith)) (λ n. sym n ∙ here) (differ_false (get_or noted x 0) w same))

-- what may be noted, as numbers: 0 for nothing, and else one more than it
abbrev pub code : Option ℕ → ℕ
code None = 0
code (Some v) = v + 1

abbrev pub codes : List (Option ℕ) → List ℕ
codes noted = map code noted

pub differs_code : (noted : List (Option ℕ)) (x w : ℕ) → differs (get_or (codes noted) x 0) w ≡ differs (code (get_or noted x None)) w
differs_code noted x w = ap (λ (n : ℕ). differs n w) (get_or-map code noted x None)

module _ (says : ℕ → Bool) (effects : List ℕ) (first : ℕ) where
  -- effect a stands before number i and holds
  abbrev HeldBefore : (i a : ℕ) → Type 0
  HeldBefore i a = ((first ≤ a) × (a < i)) × T (says (effect_at effects a).condition)

  -- of the effects before number i: each that holds has its value noted, one more than it, and all that is noted is such a value
  pub record Noted (noted : List ℕ) (i : ℕ) : Type 0 where
    pub long : length noted ≡ 32
    pub each : (a : ℕ) → HeldBefore i a → get_or noted (effect_at effects a).fluent 0 ≡ suc (effect_at effects a).value
    pub source : (x v : ℕ) → get_or noted x 0 ≡ suc v → (a : ℕ) × HeldBefore i a × ((effect_at effects a).fluent ≡ x) × ((effect_at effects a).value ≡ v)

  pub noted_none : Noted (replicate 32 0) first
  noted_none = record {
    long = length-replicate {A = ℕ} 32 0;
    each = λ a ((l, m), h). absurd (omega arith);
    source = λ x v e. let z = get_d_same {B = ℕ} 0 32 x in absurd (omega arith);
  }

  module _ {noted : List ℕ} {i : ℕ} (N : Noted noted i) where
    -- where a is not i, it stands before it
    before : {a : ℕ} → HeldBefore (i + 1) a → (a ≡ i → ⊥) → HeldBefore i a
    before ((l, m), h) n = ((l, omega (arith, n)), h)

    -- effect i is e, and the flag says whether it holds
    module _ {e : Effect} (r : e ≡ effect_at effects i) {flag : Bool} (f : flag ≡ says e.condition) where
      said : says (effect_at effects i).condition ≡ flag
      said = ap (λ (e : Effect). says e.condition) (sym r) ∙ sym f

      -- where it does not hold, nothing is noted
      pub noted_passed : flag ≡ false → Noted noted (i + 1)
      noted_passed t = record {
        long = N.long;
        each = λ a h. N.each a (before h (other a h.1));
        source = λ x v n. let (a, ((l, m), h), g, w) = N.source x v n in (a, ((l, omega arith), h), g, w);
      }
        where
          other : (a : ℕ) → T (says (effect_at effects a).condition) → a ≡ i → ⊥
          other a h z = subst T (ap (λ (b : ℕ). says (effect_at effects b).condition) z ∙ said ∙ t) h

      -- where it holds, what its fluent was given is not another value, or it is
      module _ (from : first ≤ i) (t : flag ≡ true) {x w : ℕ} (ex : x ≡ e.fluent) (ew : w ≡ e.value + 1) where
        holds : T (says (effect_at effects i).condition)
        holds = subst T (sym (said ∙ t)) tt

        fluent : x ≡ (effect_at effects i).fluent
        fluent = ex ∙ ap (λ (e : Effect). e.fluent) r

        value : w ≡ suc (effect_at effects i).value
        value = ew ∙ add-one e.value ∙ ap (λ (e : Effect). suc e.value) r

        pub noted_more : x < 32 → differs (get_or noted x 0) w ≡ false → Noted (set noted x w) (i + 1)
        noted_more l same = record {
          long = length-set noted x w ∙ N.long;
          each = λ a h. here a h (ℕ_discrete a i);
          source = λ y v. written (λ (n : ℕ). n ≡ suc v → Source y v) 0 noted x w inside y
              (λ n d. let (a, ((k, m), h), g, u) = N.source y v d in (a, ((k, omega arith), h), g, u))
              (λ g d. (i, ((from, omega arith), holds), sym fluent ∙ sym g, omega (arith, value)));
        }
          where
            inside : x < length noted
            inside = omega (arith, N.long)

            Source : (y v : ℕ) → Type 0
            Source y v = (a : ℕ) × HeldBefore (i + 1) a × ((effect_at effects a).fluent ≡ y) × ((effect_at effects a).value ≡ v)

            here : (a : ℕ) → HeldBefore (i + 1) a → Dec (a ≡ i) → get_or (set noted x w) (effect_at effects a).fluent 0 ≡ suc (effect_at effects a).value
            here a h (no z) = still_noted noted x w inside same _ (effect_at effects a).value (N.each a (before h z))
            here a h (yes z) =
                ap (λ (y : ℕ). get_or (set noted x w) y 0) (ap (λ (b : ℕ). (effect_at effects b).fluent) z ∙ sym fluent) ∙ get_or-set_same noted x w 0 inside ∙ value
                ∙ ap (λ (b : ℕ). suc (effect_at effects b).value) (sym z)

        pub noted_other :
            (count : ℕ) → i < first + count → differs (get_or noted x 0) w ≡ true
            → conflicting says (effect_at effects) first count ≡ true
        noted_other count l differ =
            let (some, other) = differ_true (get_or noted x 0) w differ in
            let (a, ((k, m), h), g, u) = N.source x (get_or noted x 0 - 1) (omega (arith, some)) in
            is_true _ ((conflicting_exactly says (effect_at effects) first count).1
            (a, (k, omega arith), (i, (from, l), ((h, holds), (g ∙ fluent, λ d. other (omega (arith, some, value)))))))

    -- behind the last effect no two contradict each other
    pub noted_all : (count : ℕ) → first + count ≤ i → conflicting says (effect_at effects) first count ≡ false
    noted_all count l = is_false _ (λ e. none ((conflicting_exactly says (effect_at effects) first count).0 (subst T (sym e) tt)))
      where
        none : ¬ Conflict says (effect_at effects) first count
        none (a, (f, t), (b, (g, u), ((h, k), (e, differ)))) =
            let one = N.each a ((f, omega arith), h) in
            let other = N.each b ((g, omega arith), k) in
            let same = ap (λ (x : ℕ). get_or noted x 0) e in
            differ (omega arith)

-- the marks of the first j actions listed
module _ (effects actions list : List ℕ) (truths : List Bool) where
  pub record Marking (marks : List Bool) (j : ℕ) : Type 0 where
    pub long : length marks ≡ 64
    pub sound : (a : ℕ) → get_or marks a false ≡ true → in_conflict effects truths (action_at actions a) ≡ true
    pub whole : (i : ℕ) → i < j → in_conflict effects truths (action_at actions (get_or list i 0)) ≡ true → get_or marks (get_or list i 0) false ≡ true

  pub marking_none : Marking (replicate 64 false) 0
  marking_none = record {
    long = length-replicate {A = Bool} 64 false;
    sound = λ a e. absurd (false≢true (sym (get_d_same false 64 a) ∙ e));
    whole = λ i l. absurd (omega arith);
  }

  module _ {marks : List Bool} {j : ℕ} (B : Marking marks j) where
    pub marking_more : {a : ℕ} {b : Bool} → a ≡ get_or list j 0 → a < 64 → b ≡ in_conflict effects truths (action_at actions a) → Marking (set marks a b) (j + 1)
    marking_more {a} {b} e l f = record {
      long = length-set marks a b ∙ B.long;
      sound = λ c. written (λ (t : Bool). t ≡ true → in_conflict effects truths (action_at actions c) ≡ true) false marks a b inside c (λ n. B.sound c)
          (λ z t. ap (λ (i : ℕ). in_conflict effects truths (action_at actions i)) z ∙ sym f ∙ t);
      whole = λ i h t. written (λ (t : Bool). t ≡ true) false marks a b inside (get_or list i 0)
          (λ n. B.whole i (omega (arith, apart i n)) t)
          (λ z. f ∙ ap (λ (i : ℕ). in_conflict effects truths (action_at actions i)) (sym z) ∙ t);
    }
      where
        inside : a < length marks
        inside = omega (arith, B.long)

        apart : (i : ℕ) → ¬ (get_or list i 0 ≡ a) → i ≡ j → ⊥
        apart i n z = n (ap (λ (k : ℕ). get_or list k 0) z ∙ sym e)

    pub marking_done : j ≡ listed_count list → Conflicted effects actions list truths marks
    marking_done l = record {
      sound = B.sound;
      whole = λ a (i, h, z) t.
          subst (λ (b : ℕ). get_or marks b false ≡ true) z (B.whole i (omega arith) (ap (λ (b : ℕ). in_conflict effects truths (action_at actions b)) z ∙ t));
    }

-- a flag that is set exactly where both tests pass stands for the second
both_same : (p b c : Bool) → ((p && c) ≡ true → b ≡ true) → (b ≡ true → (p && c) ≡ true) → (p && not b) ≡ (p && not c)
both_same false b c f g = refl
both_same true true c f g = sym (ap not (g refl))
both_same true false c f g = sym (ap not (is_false c (λ e. false≢true (f e))))

-- by its mark an action is allowed exactly where it is possible, if it is marked exactly where it is in conflict, and gives no value outside a
-- domain
pub allowed_marked :
    (size : ℕ → ℕ) (effects actions : List ℕ) (truths conflicted : List Bool) (a : ℕ)
    → straying (said_by truths) size (effect_at effects) (action_at actions a).first (action_at actions a).count ≡ false
    → (in_conflict effects truths (action_at actions a) ≡ true → get_or conflicted a false ≡ true)
    → (get_or conflicted a false ≡ true → in_conflict effects truths (action_at actions a) ≡ true)
    → allowed_by actions truths conflicted a ≡ possible_by (said_by truths) size (effect_at effects) (action_at actions) a
unfolding possible_by
allowed_marked size effects actions truths conflicted a inside f g =
    let r = action_at actions a in
    let conflict = conflicting (said_by truths) (effect_at effects) r.first r.count in
    ap (λ (b : Bool). special a || b)
    (both_same (said_by truths r.precondition) (get_or conflicted a false) conflict f g
    ∙ ap (λ (b : Bool). said_by truths r.precondition && b) (sym (and-true (not conflict)) ∙ ap (λ (b : Bool). not conflict && not b) (sym inside)))

-- so it is if it is listed wherever it is in conflict
pub allowed_possible :
    (size : ℕ → ℕ) {effects actions list : List ℕ} {truths conflicted : List Bool} (a : ℕ)
    → straying (said_by truths) size (effect_at effects) (action_at actions a).first (action_at actions a).count ≡ false
    → Conflicted effects actions list truths conflicted
    → (in_conflict effects truths (action_at actions a) ≡ true → Listed list a)
    → allowed_by actions truths conflicted a ≡ possible_by (said_by truths) size (effect_at effects) (action_at actions) a
allowed_possible size {effects} {actions} {list} {truths} {conflicted} a inside B listed =
    allowed_marked size effects actions truths conflicted a inside (λ t. B.whole a (listed t) t) (B.sound a)
