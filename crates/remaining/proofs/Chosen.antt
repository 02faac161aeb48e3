-- Document 02, F-6, in its words: kind 12 has the steps of b for each value below a, and is final if b is for at least one. One value
-- stands for all where b does not see them, since b is then the same program with each. Assumes nothing.
use mathlib.Core.Path.{◌≡◌, refl, sym, ◌∙◌, ap, ap₂, subst, fun_ext}
use mathlib.Core.Bool.{Bool, true, false, cond, ◌||◌}
use mathlib.Core.List.{List}
use mathlib.Core.Logic.{◌↔◌}
use mathlib.Core.Option.{Option}
use Prim.Native.Nat.{ℕ, zero, suc, ◌≤◌, ◌<◌}
use native.Mathlib.Omega.{arith}
use borrow.Author.Tests.{ne_eqb}
use lib.Dec.{T}
use lib.ListN.{get_or}
use Rattle.records.specs.declared.Program.{Program}
use Rattle.records.specs.Table.{up_to}
use Rattle.records.specs.Placeholders.{environments, look, put, reading}
use Rattle.records.proofs.Fills.{up_at, entry_is}
use Rattle.records.proofs.Placeholders.{looks_same, put_small, look_other, put_same}
use Rattle.records.proofs.Truth.{or_right, is_true, true_exactly}
use Rattle.kinds.specs.Programs.{field_a, field_b, field_c, has_a, has_b, has_condition, picks, acts, tests}
use Rattle.kinds.proofs.ProgramKinds.{by_kind, record_of}
use Rattle.kinds.proofs.ProgramFields.{link_a, link_b}
use Rattle.golog.specs.Written.{entry_in, program_read, sees_of, sees, span_of}
use Rattle.golog.specs.Prog.{Prog, act, test, sequence, choice, together, over, star, iteration, if_then_else, while, interrupt, pick, construct}
use Rattle.golog.specs.declared.State.{State}
use Rattle.golog.specs.World.{World}
use Rattle.golog.specs.Trans.{Final, Trans}
use Rattle.remaining.proofs.Written.{Linked, program_in, picks_b, written_step, written_pick}

-- its own action or formula may name placeholders
abbrev pub reads : ℕ → Bool
reads kind = acts kind || tests kind || has_condition kind

-- where a record sees a placeholder, given where the lower ones do
module _ (d a b c : ℕ) (lower : List Bool) where
  own_sees : (kind : ℕ) → T (reads kind) → T (sees_of (record_of kind a b c) d lower)
  unfolding field_a field_c
  own_sees =
      by_kind (λ (k : ℕ). T (reads k) → T (sees_of (record_of k a b c) d lower))
      absurd (λ t. tt) (λ t. tt) absurd absurd absurd (λ t. tt) (λ t. tt) absurd absurd absurd (λ t. tt) absurd (λ k. absurd)

  a_sees : T (get_or lower a false) → (kind : ℕ) → T (has_a kind) → T (sees_of (record_of kind a b c) d lower)
  unfolding field_a
  a_sees s =
      let left : T (get_or lower a false || get_or lower b false) = rw (is_true (get_or lower a false) s) tt in
      by_kind (λ (k : ℕ). T (has_a k) → T (sees_of (record_of k a b c) d lower))
      absurd absurd absurd (λ t. left) (λ t. left) (λ t. s) (λ t. tt) (λ t. tt) (λ t. left) (λ t. left) (λ t. s) (λ t. tt) absurd (λ k. absurd)

  b_sees : T (get_or lower b false) → (kind : ℕ) → T (has_b kind) → (T (picks kind) → ¬ (c ≡ d)) → T (sees_of (record_of kind a b c) d lower)
  unfolding field_b
  b_sees s =
      let right : T (get_or lower a false || get_or lower b false) =
      (true_exactly _).1 (or_right (get_or lower a false) (get_or lower b false) (is_true (get_or lower b false) s)) in
      by_kind (λ (k : ℕ). T (has_b k) → (T (picks k) → ¬ (c ≡ d)) → T (sees_of (record_of k a b c) d lower))
      (λ t. absurd t) (λ t. absurd t) (λ t. absurd t) (λ t o. right) (λ t o. right) (λ t. absurd t) (λ t o. tt) (λ t. absurd t) (λ t o. right) (λ t o. right)
      (λ t. absurd t) (λ t. absurd t) (λ t o. rw (is_true (get_or lower b false) s, ne_eqb c d (o tt)) tt) (λ k t. absurd t)

-- a record sees what its own fields name, and what its parts see but for the placeholder that it puts a value in
module _ (p : ℕ → Program) (low : Linked p) (d i : ℕ) where
  abbrev sees_at : ℕ → List Bool → Bool
  sees_at j lower = sees_of (p j) d lower

  sees_is : sees p d i ≡ sees_of (p i) d (up_to sees_at i)
  unfolding sees
  sees_is = entry_is false sees_at i

  sees_at_lem : (j : ℕ) → j < i → get_or (up_to sees_at i) j false ≡ sees p d j
  unfolding sees
  sees_at_lem j l = up_at false sees_at i j l

  pub sees_own : T (reads (p i).kind) → T (sees p d i)
  sees_own t = rw sees_is (own_sees d (p i).a (p i).b (p i).c (up_to sees_at i) (p i).kind t)

  pub sees_a : T (has_a (p i).kind) → T (sees p d (p i).a) → T (sees p d i)
  sees_a t s =
      rw sees_is (a_sees d (p i).a (p i).b (p i).c (up_to sees_at i) (subst T (sym (sees_at_lem (p i).a (low i (p i).a (link_a (p i) t)))) s) (p i).kind t)

  pub sees_b : T (has_b (p i).kind) → (T (picks (p i).kind) → ¬ ((p i).c ≡ d)) → T (sees p d (p i).b) → T (sees p d i)
  sees_b t o s =
      rw sees_is (b_sees d (p i).a (p i).b (p i).c (up_to sees_at i) (subst T (sym (sees_at_lem (p i).b (low i (p i).b (link_b (p i) t)))) s) (p i).kind t o)

-- the program of a record, read in two environments
construct_read :
    (e e' n kind a b c : ℕ) (P P' Q Q' : Prog) (F F' : ℕ → Prog)
    → (T (reads kind) → e ≡ e') → (T (has_a kind) → P ≡ P') → (T (has_b kind) → ¬ T (picks kind) → Q ≡ Q') → (T (picks kind) → F ≡ F')
    → construct (program_read e n (record_of kind a b c)) P Q F ≡ construct (program_read e' n (record_of kind a b c)) P' Q' F'
unfolding construct program_read field_a field_b field_c
construct_read e e' n kind a b c P P' Q Q' F F' =
    by_kind
    (λ (k : ℕ). (T (reads k) → e ≡ e') → (T (has_a k) → P ≡ P') → (T (has_b k) → ¬ T (picks k) → Q ≡ Q') → (T (picks k) → F ≡ F')
    → construct (program_read e n (record_of k a b c)) P Q F ≡ construct (program_read e' n (record_of k a b c)) P' Q' F')
    (λ o p q f. refl) (λ o p q f. ap (λ (d : ℕ). act (entry_in a d)) (o tt)) (λ o p q f. ap (λ (d : ℕ). test (reading a d)) (o tt))
    (λ o p q f. ap₂ sequence (p tt) (q tt absurd)) (λ o p q f. ap₂ choice (p tt) (q tt absurd)) (λ o p q f. ap star (p tt))
    (λ o p q f. ap (λ (d : ℕ). if_then_else (reading c d) P Q) (o tt) ∙ ap₂ (if_then_else (reading c e')) (p tt) (q tt absurd))
    (λ o p q f. ap₂ (λ (d : ℕ) (x : Prog). while (reading c d) x) (o tt) (p tt)) (λ o p q f. ap₂ together (p tt) (q tt absurd))
    (λ o p q f. ap₂ over (p tt) (q tt absurd)) (λ o p q f. ap iteration (p tt)) (λ o p q f. ap₂ (λ (d : ℕ) (x : Prog). interrupt (reading c d) x) (o tt) (p tt))
    (λ o p q f. ap (pick n) (f tt)) (λ k o p q f. refl) kind

-- the environments agree in the placeholders that record i sees
abbrev pub Alike : (ℕ → Program) → (i e e' : ℕ) → Type 0
Alike p i e e' = (c : ℕ) → c < 2 → T (sees p c i) → look e c ≡ look e' c

module _ (p : ℕ → Program) (low : Linked p) (placed : (i : ℕ) → T (picks (p i).kind) → (p i).c < 2) where
  -- then it is the same program, read in both
  pub unseen : (i e e' : ℕ) → e < environments → e' < environments → Alike p i e e' → program_in p i e ≡ program_in p i e'
  unseen i = go (suc i) i (omega arith)
    where
      go : (m i : ℕ) → i < m → (e e' : ℕ) → e < environments → e' < environments → Alike p i e e' → program_in p i e ≡ program_in p i e'
      go zero i l e e' h h' same = absurd (omega arith)
      go (suc m) i l e e' h h' same =
          let la : T (has_a (p i).kind) → (p i).a < m = λ t. omega (arith, low i (p i).a (link_a (p i) t)) in
          let lb : T (has_b (p i).kind) → (p i).b < m = λ t. omega (arith, low i (p i).b (link_b (p i) t)) in
          written_step p low i e h
          ∙ construct_read e e' (span_of p i) (p i).kind (p i).a (p i).b (p i).c _ _ _ _ _ _
          (λ t. looks_same e e' (same 0 (omega arith) (sees_own p low 0 i t)) (same 1 (omega arith) (sees_own p low 1 i t)))
          (λ t. go m (p i).a (la t) e e' h h' (λ c k s. same c k (sees_a p low c i t s)))
          (λ t o. go m (p i).b (lb t) e e' h h' (λ c k s. same c k (sees_b p low c i t (λ x. absurd (o x)) s)))
          (λ t. let b = picks_b (p i).kind t in
          fun_ext
          (λ v. go m (p i).b (lb b) (put e (p i).c v) (put e' (p i).c v) (put_small e h (p i).c v) (put_small e' h' (p i).c v)
          (λ c k s. put_same e e' (p i).c c v h h' (placed i t) k (λ o. same c k (sees_b p low c i b (λ x. o) s)))))
          ∙ sym (written_step p low i e' h')

-- a choice is of 1 to 16 values, in one of the two placeholders
abbrev pub Choice : Program → Type 0
Choice r = (1 ≤ r.a) × (r.a ≤ 16) × (r.c < 2)

module _ (p : ℕ → Program) (low : Linked p) (choices : (i : ℕ) → T (picks (p i).kind) → Choice (p i)) (i e : ℕ) (picked : T (picks (p i).kind))
    (small : e < environments) where
  -- with one of the first n values it holds of part b
  abbrev With : ℕ → (Prog → Type 0) → Type 0
  With n G = (v : ℕ) × (v < n) × G (program_in p (p i).b (put e (p i).c v))

  -- of those listed, and of those below a, the same
  spanned : (G : Prog → Type 0) → With (span_of p i) G ↔ With (p i).a G
  spanned G = go (sees p (p i).c (p i).b) refl
    where
      c : ℕ
      c = (p i).c

      c_room : c < 2
      c_room = (choices i picked).2

      go : (b : Bool) → sees p c (p i).b ≡ b → With (cond b (p i).a 1) G ↔ With (p i).a G
      go true k = (λ x. x, λ x. x)
      go false k = (λ (v, l, g). (v, omega (arith, (choices i picked).0), g), λ (v, l, g). (0, omega arith, subst G (first v) g))
        where
          other : (d : ℕ) → T (sees p d (p i).b) → ¬ (c ≡ d)
          other d s q = subst T k (subst (λ (x : ℕ). T (sees p x (p i).b)) (sym q) s)

          first : (v : ℕ) → program_in p (p i).b (put e c v) ≡ program_in p (p i).b (put e c 0)
          first v =
              unseen p low (λ j t. (choices j t).2) (p i).b (put e c v) (put e c 0) (put_small e small c v) (put_small e small c 0)
              (λ d l s. look_other e small c d v c_room l (other d s) ∙ sym (look_other e small c d 0 c_room l (other d s)))

  module _ (W : World) (s : State) where
    pub chosen_final : Final W (program_in p i e) s ↔ ((v : ℕ) × (v < (p i).a) × Final W (program_in p (p i).b (put e (p i).c v)) s)
    unfolding Final
    chosen_final = rw (written_pick p low i e small picked) (spanned (λ (g : Prog). Final W g s))

    pub chosen_trans :
        (m : Option ℕ) (q : Prog) (t : State)
        → Trans W (program_in p i e) s m q t ↔ ((v : ℕ) × (v < (p i).a) × Trans W (program_in p (p i).b (put e (p i).c v)) s m q t)
    unfolding Trans
    chosen_trans m q t = rw (written_pick p low i e small picked) (spanned (λ (g : Prog). Trans W g s m q t))
