-- A record, read in an environment, is final and enabled as its kind says of its parts, read in the same one, and of its part b with each
-- value that it lists, if it chooses one. What a kind says depends on the fields that it has. Assumes nothing.
use mathlib.Core.Path.{◌≡◌, refl, sym, ◌∙◌, ap, ap₂, fun_ext}
use mathlib.Core.Bool.{Bool, true, false, not, cond, ◌&&◌, ◌||◌, and-true, or-false, or_assoc, not-not}
use mathlib.Core.List.{List, [], ◌∷◌, ◌++◌}
use Prim.Native.Nat.{ℕ, zero, suc, ◌+◌, ◌<◌}
use native.Mathlib.Nat.{zero-add}
use native.Mathlib.Omega.{arith}
use borrow.Author.Tests.{ne_eqb}
use lib.Dec.{T, eqb}
use lib.ListN.{length}
use Rattle.records.specs.declared.Program.{Program}
use Rattle.records.specs.Placeholders.{environments, put, reading}
use Rattle.records.specs.Some.{some_from}
use Rattle.records.proofs.Some.{some_same}
use Rattle.kinds.specs.Programs.{field_a, has_a, has_b, has_condition, picks, acts, tests, final_of, own_of, uses_a, uses_b}
use Rattle.kinds.proofs.Counting.{count_adds}
use Rattle.kinds.proofs.ProgramKinds.{by_kind}
use Rattle.kinds.proofs.Reading.{uses_a_lem, uses_b_lem, uses_a_same, uses_b_same, own_same, final_same}
use Rattle.golog.specs.declared.State.{State}
use Rattle.golog.specs.World.{World, holds, possible}
use Rattle.golog.specs.Transitions.{is_none, lists_from}
use Rattle.golog.specs.Written.{entry_in, program_read, span_of, written_records}
use Rattle.remaining.specs.Leaves.{RestTransition, Leaf, leaf_with, pick_leaf, leaf_of}
use Rattle.remaining.proofs.Counts.{none_length, leaf_count}
use Rattle.remaining.proofs.Entries.{chosen, leaf_plain, leaf_pick}
use Rattle.remaining.proofs.Written.{Linked, read_kind, read_a, read_b, read_act, read_test, read_condition, read_pick, read_chosen, written_at, written_lower}
use Rattle.enabled.specs.Enabled.{Valuation, valuation_of, final_in, enabled_of, enabled_in}

-- a value, where its test passes
masked : (b x y : Bool) → (T b → x ≡ y) → (b && x) ≡ (b && y)
masked true x y e = e tt
masked false x y e = refl

-- a record is enabled by its own transition, or by those of a part that it uses
module _ (can passes fa h running ga gb : Bool) where
  abbrev by_columns : ℕ → Bool
  by_columns kind = own_of kind can passes || (uses_a kind h running && ga) || (uses_b kind fa h (not ga) && gb)

  enabled_adds : (kind : ℕ) → enabled_of kind can passes fa h running ga gb ≡ by_columns kind
  unfolding enabled_of field_a uses_a uses_b
  enabled_adds =
      by_kind (λ (k : ℕ). enabled_of k can passes fa h running ga gb ≡ by_columns k)
      refl (alone can) (alone passes) refl refl (sym (or-false ga)) refl (sym (or-false (h && ga))) refl (idle ga)
      (sym (or-false ga)) (sym (or-false (running && h && ga))) refl (λ k. refl)
    where
      alone : (b : Bool) → b ≡ (b || false || false)
      alone true = refl
      alone false = refl

      idle : (b : Bool) → (b || gb) ≡ (b || (not b && gb))
      idle true = refl
      idle false = refl

-- so being enabled depends on the fields that the kind has
enabled_same :
    (kind : ℕ) {can may passes holds fa fa' h k ga ga' gb gb' : Bool} (running : Bool)
    → (T (acts kind) → can ≡ may) → (T (tests kind) → passes ≡ holds) → (T (has_condition kind) → h ≡ k)
    → (T (has_a kind) → (fa ≡ fa') × (ga ≡ ga')) → (T (has_b kind) → gb ≡ gb')
    → enabled_of kind can passes fa h running ga gb ≡ enabled_of kind may holds fa' k running ga' gb'
enabled_same kind {can} {may} {passes} {holds} {fa} {fa'} {h} {k} {ga} {ga'} {gb} {gb'} running act test con a b =
    let ua : Bool = uses_a kind h running in
    let ub : Bool = uses_b kind fa h (not ga) in
    let first : (ua && ga) ≡ (uses_a kind k running && ga') =
    masked ua ga ga' (λ t. (a (uses_a_lem kind h running t)).1) ∙ ap (λ (x : Bool). x && ga') (uses_a_same kind running con) in
    let second : (ub && gb) ≡ (uses_b kind fa' k (not ga') && gb') =
    masked ub gb gb' (λ t. b (uses_b_lem kind fa h (not ga) t)) ∙ ap (λ (x : Bool). x && gb') (uses_b_same kind (λ t. (a t).0) con (λ t. ap not (a t).1)) in
    enabled_adds can passes fa h running ga gb kind
    ∙ ap₂ ◌||◌ (ap₂ ◌||◌ (own_same kind act test) first) second
    ∙ sym (enabled_adds may holds fa' k running ga' gb' kind)

-- two valuations agree in what record r, which lists n values if it chooses one, asks of them in e
pub record Agree (says says' : Valuation) (n : ℕ) (r : Program) (e : ℕ) : Type 0 where
  pub condition : T (has_condition r.kind) → says.holds r.c e ≡ says'.holds r.c e
  pub test : T (tests r.kind) → says.holds r.a e ≡ says'.holds r.a e
  pub act : T (acts r.kind) → says.possible r.a e ≡ says'.possible r.a e
  pub part_a : T (has_a r.kind) → (says.final r.a e ≡ says'.final r.a e) × (says.enabled r.a e ≡ says'.enabled r.a e)
  pub part_b : T (has_b r.kind) → (says.final r.b e ≡ says'.final r.b e) × (says.enabled r.b e ≡ says'.enabled r.b e)
  pub chosen_b : T (picks r.kind) → (v : ℕ) → v < n → let d = put e r.c v in (says.final r.b d ≡ says'.final r.b d) × (says.enabled r.b d ≡ says'.enabled r.b d)

pub either_same : (b : Bool) {x x' y y' : Bool} → (T b → x ≡ x') → y ≡ y' → cond b x y ≡ cond b x' y'
either_same true p q = p tt
either_same false p q = q

-- so they say the same of it; for whether it is final less is asked
module _ (says says' : Valuation) (n : ℕ) (r : Program) (e : ℕ) (running : Bool) where
  pub final_agrees :
      (T (has_condition r.kind) → says.holds r.c e ≡ says'.holds r.c e) → (T (has_a r.kind) → says.final r.a e ≡ says'.final r.a e)
      → (T (has_b r.kind) → says.final r.b e ≡ says'.final r.b e)
      → (T (picks r.kind) → (v : ℕ) → v < n → says.final r.b (put e r.c v) ≡ says'.final r.b (put e r.c v))
      → final_in says running n r e ≡ final_in says' running n r e
  unfolding final_in
  final_agrees condition part_a part_b chosen_b =
      either_same (picks r.kind) (λ t. some_same _ _ n 0 (λ v (l, m). chosen_b t v (omega arith))) (final_same r.kind running part_a part_b condition)

module _ {says says' : Valuation} {n : ℕ} {r : Program} {e : ℕ} (A : Agree says says' n r e) (running : Bool) where
  pub enabled_agrees : enabled_in says running n r e ≡ enabled_in says' running n r e
  unfolding enabled_in
  enabled_agrees =
      either_same (picks r.kind) (λ t. some_same _ _ n 0 (λ v (l, m). (A.chosen_b t v (omega arith)).1))
      (enabled_same r.kind running A.act A.test A.condition A.part_a (λ t. (A.part_b t).1))

-- a number of things is not 0
some_added : (x y : ℕ) → not (eqb (x + y) 0) ≡ (not (eqb x 0) || not (eqb y 0))
some_added zero y = ap (λ (n : ℕ). not (eqb n 0)) (zero-add y)
some_added (suc x) y = ap not (ne_eqb (suc x + y) 0 (λ z. omega arith)) ∙ ap (λ (b : Bool). not b || not (eqb y 0)) (sym (ne_eqb (suc x) 0 (λ z. omega arith)))

some_used : (b : Bool) (n : ℕ) → not (eqb (cond b n 0) 0) ≡ (b && not (eqb n 0))
some_used true n = refl
some_used false n = refl

-- a record with its parts
leaf_enabled :
    (W : World) (s : State) (r : Program) (i : ℕ) (A B : Leaf)
    → not (is_none (leaf_with W s r i A B).transitions)
    ≡ enabled_of r.kind (possible W r.a s) (holds W r.a s) A.final (holds W r.c s) s.running (not (is_none A.transitions)) (not (is_none B.transitions))
leaf_enabled W s r i A B =
    let own : Bool = own_of r.kind (possible W r.a s) (holds W r.a s) in
    let ua : Bool = uses_a r.kind (holds W r.c s) s.running in
    let ca : ℕ = length A.transitions in
    let cb : ℕ = length B.transitions in
    let used : (idle : Bool) → Bool = λ (idle : Bool). uses_b r.kind A.final (holds W r.c s) idle in
    let some-a : not (eqb ca 0) ≡ not (is_none A.transitions) = ap not (sym (none_length A.transitions)) in
    let some-b : not (eqb cb 0) ≡ not (is_none B.transitions) = ap not (sym (none_length B.transitions)) in
    let idle : eqb ca 0 ≡ not (not (is_none A.transitions)) = sym (none_length A.transitions) ∙ sym (not-not (is_none A.transitions)) in
    ap not (none_length (leaf_with W s r i A B).transitions)
    ∙ ap (λ (k : ℕ). not (eqb k 0)) (leaf_count W s r i A B ∙ count_adds _ _ _ _ _ ca cb r.kind)
    ∙ some_added (cond own 1 0) (cond ua ca 0 + cond (used (eqb ca 0)) cb 0)
    ∙ ap₂ ◌||◌ (some_used own 1 ∙ and-true own)
    (some_added (cond ua ca 0) (cond (used (eqb ca 0)) cb 0)
    ∙ ap₂ ◌||◌ (some_used ua ca ∙ ap (λ (b : Bool). ua && b) some-a) (some_used (used (eqb ca 0)) cb ∙ ap₂ (λ (x y : Bool). used x && y) idle some-b))
    ∙ sym (or_assoc own _ _)
    ∙ sym (enabled_adds _ _ A.final (holds W r.c s) s.running (not (is_none A.transitions)) (not (is_none B.transitions)) r.kind)

-- one of the lists has a member
some_appended : (xs ys : List RestTransition) → not (is_none (xs ++ ys)) ≡ (not (is_none xs) || not (is_none ys))
some_appended [] ys = refl
some_appended (x ∷ xs) ys = refl

some_listed : (f : ℕ → List RestTransition) (k i : ℕ) → not (is_none (lists_from f i k)) ≡ some_from (λ (v : ℕ). not (is_none (f v))) i k
unfolding lists_from some_from
some_listed f zero i = refl
some_listed f (suc k) i = some_appended (f i) (lists_from f (suc i) k) ∙ ap (λ (b : Bool). not (is_none (f i)) || b) (some_listed f k (suc i))

module _ (W : World) (s : State) (p : ℕ → Program) (low : Linked p) (i e : ℕ) (small : e < environments) where
  abbrev L : ℕ → Leaf
  L n = leaf_of W s (written_records p) n

  abbrev R : Program
  R = program_read e (span_of p i) (p i)

  kind_is : R.kind ≡ (p i).kind
  kind_is = read_kind e (span_of p i) (p i)

  kind_at : (written_records p (reading i e)).kind ≡ (p i).kind
  kind_at = ap (λ (r : Program). r.kind) (written_at p i e small) ∙ kind_is

  -- a record that chooses no value, and one that does
  plain : picks (p i).kind ≡ false → L (reading i e) ≡ leaf_with W s R (reading i e) (L R.a) (L R.b)
  plain k =
      leaf_plain W s (written_records p) (written_lower p low) (reading i e) (ap picks kind_at ∙ k)
      ∙ ap (λ (r : Program). leaf_with W s r (reading i e) (L r.a) (L r.b)) (written_at p i e small)

  picked : picks (p i).kind ≡ true → L (reading i e) ≡ pick_leaf (span_of p i) (λ (v : ℕ). L (reading (p i).b (put e (p i).c v)))
  picked k =
      let t : T (picks (p i).kind) = rw k tt in
      leaf_pick W s (written_records p) (written_lower p low) (reading i e) (ap picks kind_at ∙ k)
      ∙ ap (λ (r : Program). pick_leaf r.a (chosen L r)) (written_at p i e small)
      ∙ ap₂ pick_leaf (read_pick e (span_of p i) (p i) t).0 (fun_ext (λ v. ap L (read_chosen e (span_of p i) (p i) small t v)))

  pub final_read : (valuation_of W s p).final i e ≡ final_in (valuation_of W s p) s.running (span_of p i) (p i) e
  unfolding final_in leaf_with pick_leaf
  final_read = go (picks (p i).kind) refl
    where
      go :
          (b : Bool) → picks (p i).kind ≡ b → (L (reading i e)).final
          ≡ cond b (some_from (λ (v : ℕ). (L (reading (p i).b (put e (p i).c v))).final) 0 (span_of p i))
          (final_of (p i).kind (L (reading (p i).a e)).final (L (reading (p i).b e)).final (holds W (reading (p i).c e) s) s.running)
      go true k = ap (λ (x : Leaf). x.final) (picked k)
      go false k =
          ap (λ (x : Leaf). x.final) (plain k)
          ∙ ap (λ (kind : ℕ). final_of kind (L R.a).final (L R.b).final (holds W R.c s) s.running) kind_is
          ∙ final_same (p i).kind s.running (λ t. ap (λ (n : ℕ). (L n).final) (read_a e (span_of p i) (p i) t))
          (λ t. ap (λ (n : ℕ). (L n).final) (read_b e (span_of p i) (p i) t)) (λ t. ap (λ (q : ℕ). holds W q s) (read_condition e (span_of p i) (p i) t))

  pub enabled_read : (valuation_of W s p).enabled i e ≡ enabled_in (valuation_of W s p) s.running (span_of p i) (p i) e
  unfolding enabled_in pick_leaf
  enabled_read = go (picks (p i).kind) refl
    where
      says : Valuation
      says = valuation_of W s p

      some_leaf : Leaf → Bool
      some_leaf x = not (is_none x.transitions)

      go :
          (b : Bool) → picks (p i).kind ≡ b → some_leaf (L (reading i e))
          ≡ cond b (some_from (λ (v : ℕ). some_leaf (L (reading (p i).b (put e (p i).c v)))) 0 (span_of p i))
          (enabled_of (p i).kind (possible W (entry_in (p i).a e) s) (holds W (reading (p i).a e) s) (L (reading (p i).a e)).final (holds W (reading (p i).c e) s) s.running
          (some_leaf (L (reading (p i).a e))) (some_leaf (L (reading (p i).b e))))
      go true k = ap some_leaf (picked k) ∙ some_listed _ (span_of p i) 0
      go false k =
          ap some_leaf (plain k)
          ∙ leaf_enabled W s R (reading i e) (L R.a) (L R.b)
          ∙ ap (λ (kind : ℕ). enabled_of kind (possible W R.a s) (holds W R.a s) (L R.a).final (holds W R.c s) s.running
          (some_leaf (L R.a)) (some_leaf (L R.b))) kind_is
          ∙ enabled_same (p i).kind s.running (λ t. ap (λ (a : ℕ). possible W a s) (read_act e (span_of p i) (p i) t))
          (λ t. ap (λ (q : ℕ). holds W q s) (read_test e (span_of p i) (p i) t)) (λ t. ap (λ (q : ℕ). holds W q s) (read_condition e (span_of p i) (p i) t))
          (λ t. let a = read_a e (span_of p i) (p i) t in (ap (λ (n : ℕ). (L n).final) a, ap (λ (n : ℕ). some_leaf (L n)) a))
          (λ t. ap (λ (n : ℕ). some_leaf (L n)) (read_b e (span_of p i) (p i) t))
