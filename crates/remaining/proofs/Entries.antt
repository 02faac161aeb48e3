-- Induction along a table whose records link to lower ones: a record's program, finality and transitions are made of those of the parts
-- that its kind has. Assumes nothing.
use mathlib.Core.Path.{◌≡◌, refl, sym, ◌∙◌, ap, ap₂, subst, fun_ext}
use mathlib.Core.Bool.{Bool, true, false, cond}
use mathlib.Core.List.{List, [], ◌∷◌, ◌++◌, map, Memᴰ}
use Prim.Native.Nat.{ℕ, zero, suc, ◌≤◌, ◌<◌}
use native.Mathlib.Omega.{arith}
use lib.Dec.{T}
use lib.ListN.{get_or}
use Rattle.records.specs.declared.Program.{Program}
use Rattle.records.specs.Table.{up_to, entry_of}
use Rattle.records.specs.Placeholders.{put_in}
use Rattle.records.proofs.Fills.{up_at, entry_is}
use Rattle.kinds.specs.Programs.{has_a, has_b, picks, links, final_of, own_of, uses_a, uses_b, tag_a, tag_b}
use Rattle.kinds.proofs.ProgramFields.{link_a, link_b}
use Rattle.kinds.proofs.Reading.{uses_a_lem, uses_b_lem, final_same, uses_b_same}
use Rattle.height.specs.Height.{rise}
use Rattle.height.proofs.Paths.{rise_less}
use Rattle.runs.specs.Guide.{only}
use Rattle.golog.specs.Prog.{construct, program_of}
use Rattle.golog.proofs.Truths.{program_at_lem, program_is}
use Rattle.golog.proofs.Construct.{construct_same}
use Rattle.golog.specs.declared.State.{State}
use Rattle.golog.specs.World.{World, holds, possible}
use Rattle.golog.specs.Transitions.{is_none}
use Rattle.remaining.specs.Rest.{gone, AllLower}
use Rattle.remaining.specs.Leaves.{RestTransition, on_rest, wrap_a, wrap_b, Leaf, nil_leaf, own_move, sibling_a, leaf_with, pick_leaf, leaf_for, leaf_at, leaf_of}

-- what each entry has, given that the lower ones have it, every entry has
pub entry_rule : {A : Type 0} (z : A) (f : ℕ → List A → A) (Q : ℕ → A → Type 0)
    → ((i : ℕ) (lower : List A) → ((a : ℕ) → a < i → Q a (get_or lower a z)) → Q i (f i lower)) → (i : ℕ) → Q i (entry_of z f i)
entry_rule {A} z f Q step i = go (suc i) i (omega arith)
  where
    go : (n i : ℕ) → i < n → Q i (entry_of z f i)
    go zero i h = absurd (omega arith)
    go (suc n) i h = subst (Q i) (sym (entry_is z f i)) (step i (up_to f i) (λ a l. subst (Q a) (sym (up_at z f i a l)) (go n a (omega arith))))

-- functions that agree up to i make the same entry i
pub entry_same : {A : Type 0} (z : A) (f g : ℕ → List A → A) (i : ℕ) → ((j : ℕ) → j ≤ i → (l : List A) → f j l ≡ g j l) → entry_of z f i ≡ entry_of z g i
unfolding entry_of up_to
entry_same {A} z f g i h = ap (λ (l : List A). get_or l i z) (go (suc i) (λ j l. h j (omega arith)))
  where
    go : (n : ℕ) → ((j : ℕ) → j < n → (l : List A) → f j l ≡ g j l) → up_to f n ≡ up_to g n
    go zero h = refl
    go (suc n) h = ap₂ (λ (l : List A) (x : A). l ++ (x ∷ [])) (go n (λ j k. h j (omega arith))) (h n (omega arith) (up_to f n) ∙ ap (g n) (go n (λ j k. h j (omega arith))))

-- the parts that a record's kind has are lower, and less high
module _ (p : ℕ → Program) (low : AllLower p) (i : ℕ) where
  pub lower_a : T (has_a (p i).kind) → (p i).a < i
  lower_a t = low.linked i (p i).a (link_a (p i) t)

  pub lower_b : T (has_b (p i).kind) → (p i).b < i
  lower_b t = low.linked i (p i).b (link_b (p i) t)

  pub rise_lower : (a : ℕ) → Memᴰ a (links (p i)) → rise p a < rise p i
  rise_lower a k = rise_less p (suc i) (λ j b l. low.linked j b) i a (omega arith) k

  pub rise_a : T (has_a (p i).kind) → rise p (p i).a < rise p i
  rise_a t = rise_lower (p i).a (link_a (p i) t)

  pub rise_b : T (has_b (p i).kind) → rise p (p i).b < rise p i
  rise_b t = rise_lower (p i).b (link_b (p i) t)

-- what a choice names with each value
abbrev pub chosen : {A : Type 0} → (ℕ → A) → Program → (v : ℕ) → A
chosen f r v = f (put_in r.b r.c v)

-- the program of a record is made of those of the records that it names
pub program_step : (p : ℕ → Program) → AllLower p → (i : ℕ) → program_of p i ≡ construct (p i) (program_of p (p i).a) (program_of p (p i).b) (chosen (program_of p) (p i))
program_step p low i =
    program_is p i
    ∙ construct_same (p i).kind (p i).a (p i).b (p i).c _ _ _ _ _ _ (λ h. program_at_lem p i (p i).a (lower_a p low i h))
    (λ h. program_at_lem p i (p i).b (lower_b p low i h)) (λ h. fun_ext (λ v. program_at_lem p i (put_in (p i).b (p i).c v) (low.picked i v h).0))

only_used : (b : Bool) {xs ys : List RestTransition} → (T b → xs ≡ ys) → only b xs ≡ only b ys
only_used true e = e tt
only_used false e = refl

-- finality and transitions of a record depend on the parts that its kind has
module _ (W : World) (s : State) (r : Program) (i : ℕ) where
  -- from its finality, and the transitions of a and of b that it uses
  abbrev leaf_by : (final : Bool) (first second : List RestTransition) → Leaf
  leaf_by final first second = record {
    final = final;
    transitions =
        only (own_of r.kind (possible W r.a s) (holds W r.a s)) ((own_move r, gone) ∷ [])
        ++ (map (on_rest (wrap_a (tag_a r.kind) (sibling_a r i))) first ++ map (on_rest (wrap_b (tag_b r.kind) r.a)) second);
  }

  leaf_parts : (A A' B B' : Leaf) → (T (has_a r.kind) → A ≡ A') → (T (has_b r.kind) → B ≡ B') → leaf_with W s r i A B ≡ leaf_with W s r i A' B'
  unfolding leaf_with
  leaf_parts A A' B B' a b =
      let h : Bool = holds W r.c s in
      let ua : Bool = uses_a r.kind h s.running in
      let ub : Bool = uses_b r.kind A.final h (is_none A.transitions) in
      let fa : T (has_a r.kind) → A.final ≡ A'.final = λ t. ap (λ (x : Leaf). x.final) (a t) in
      let fb : T (has_b r.kind) → B.final ≡ B'.final = λ t. ap (λ (x : Leaf). x.final) (b t) in
      let idle : T (has_a r.kind) → is_none A.transitions ≡ is_none A'.transitions = λ t. ap (λ (x : Leaf). is_none x.transitions) (a t) in
      let first = only_used ua (λ t. ap (λ (x : Leaf). x.transitions) (a (uses_a_lem r.kind h s.running t))) in
      let second = only_used ub (λ t. ap (λ (x : Leaf). x.transitions) (b (uses_b_lem r.kind A.final h (is_none A.transitions) t)))
      ∙ ap (λ (u : Bool). only u B'.transitions) (uses_b_same r.kind fa (λ t. refl) idle) in
      ap (λ (f : Bool). leaf_by f (only ua A.transitions) (only ub B.transitions)) (final_same r.kind s.running fa fb (λ t. refl))
      ∙ ap₂ (leaf_by (final_of r.kind A'.final B'.final h s.running)) first second

-- so they are made of those of the records that it names
module _ (W : World) (s : State) (p : ℕ → Program) (low : AllLower p) (i : ℕ) where
  pub leaf_step : leaf_of W s p i ≡ leaf_for W s (p i) i (leaf_of W s p)
  unfolding leaf_of
  leaf_step = entry_is nil_leaf (leaf_at W s p) i ∙ go (picks (p i).kind) refl
    where
      L : ℕ → Leaf
      L n = get_or (up_to (leaf_at W s p) i) n nil_leaf

      go :
          (b : Bool) → picks (p i).kind ≡ b
          → cond b (pick_leaf (p i).a (chosen L (p i))) (leaf_with W s (p i) i (L (p i).a) (L (p i).b))
          ≡ cond b (pick_leaf (p i).a (chosen (leaf_of W s p) (p i))) (leaf_with W s (p i) i (leaf_of W s p (p i).a) (leaf_of W s p (p i).b))
      go true e = ap (pick_leaf (p i).a) (fun_ext (λ v. up_at nil_leaf (leaf_at W s p) i (put_in (p i).b (p i).c v) (low.picked i v (rw e tt)).0))
      go false e =
          leaf_parts W s (p i) i _ _ _ _ (λ h. up_at nil_leaf (leaf_at W s p) i (p i).a (lower_a p low i h))
          (λ h. up_at nil_leaf (leaf_at W s p) i (p i).b (lower_b p low i h))

  -- of a record that chooses no value
  pub leaf_plain : picks (p i).kind ≡ false → leaf_of W s p i ≡ leaf_with W s (p i) i (leaf_of W s p (p i).a) (leaf_of W s p (p i).b)
  leaf_plain e = leaf_step ∙ rw e refl

  -- and of one that does
  pub leaf_pick : picks (p i).kind ≡ true → leaf_of W s p i ≡ pick_leaf (p i).a (chosen (leaf_of W s p) (p i))
  leaf_pick e = leaf_step ∙ rw e refl
