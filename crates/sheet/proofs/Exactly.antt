-- The check refuses with a number and a place exactly when that number is the least whose cause holds, and the place is its place; it
-- accepts exactly when no cause holds, with the figure and the union. Assumes nothing.
use mathlib.Core.Path.{◌≡◌, refl, sym, ◌∙◌, ap, ap₂, subst}
use mathlib.Core.Bool.{Bool, true, false, not, cond, ◌||◌}
use mathlib.Core.List.{List}
use mathlib.Core.Logic.Iff
use mathlib.Core.Logic.{◌⊎◌, inl, inr, ⊎_elim, ◌↔◌}
use Prim.Native.Nat.{ℕ, ◌-◌, ◌≤◌, ◌<◌}
use native.Mathlib.Decide.{dec_lt}
use native.Mathlib.Omega.{arith}
use borrow.Author.Tests.{ltb-true, ltb-false, lt-ltb, eqb-true, eqb-false, eq-eqb, not-false}
use lib.ListN.{length}
use lib.Dec.{ltb, eqb}
use Rattle.records.specs.Lowest.{lowest}
use Rattle.records.specs.Records.{formula_at, program_at}
use Rattle.records.specs.Mask.{has_bit}
use Rattle.records.proofs.Lowest.{lower_true}
use Rattle.records.proofs.Truth.{or_exactly, not_exactly, same_test}
use Rattle.records.proofs.Masks.{mask_fits, mask_same, mask_has, mask_bits}
use Rattle.named.specs.Named.{table_names}
use Rattle.named.proofs.Below.{table_exactly}
use Rattle.records.specs.declared.Program.{Program}
use Rattle.rules.specs.Tables.{programs_ok}
use Rattle.kinds.proofs.ProgramFields.{program_exactly}
use Rattle.kinds.proofs.FormulaFields.{formula_exactly}
use Rattle.rules.proofs.Kept.{fluent_exactly, effect_exactly, action_exactly}
use Rattle.height.specs.Down.{HeightAbove}
use Rattle.height.specs.Height.{height_of}
use Rattle.height.specs.Work.{levels, work_words}
use Rattle.height.proofs.Levels.{levels_exactly}
use Rattle.height.proofs.Paths.{Lower, above_exactly}
use Rattle.sheet.specs.Trailer.{trailer_of, WithinLimits, record_bytes, distance_ok}
use Rattle.sheet.specs.Layout.{layout_of, layout_in, formulas_in, programs_in}
use Rattle.sheet.specs.Check.{refused, refused_at, tables_checked, height_checked, trailer_checked, check_of, Accepts, Checked, accepted_with}
use Rattle.sheet.specs.Causes.{Cause, First, Figure, Union}
use Rattle.sheet.proofs.Accepted.{ruled, laid}
use Rattle.sheet.proofs.Checking.{limits_exactly, placed_exactly}
use Rattle.sheet.proofs.Lower.{rules_lower, lower, lower_formulas}
use Rattle.sheet.proofs.Rising.{By, Told, then, last, unplaced, lowest_placed, first_answered, none_accepted}
use Rattle.sheet.specs.declared.Trailer.{Trailer}

-- two tests one after the other with the same answer are one test
either_test : (a b : Bool) (x y : Checked) → cond (a || b) x y ≡ cond a x (cond b x y)
either_test true b x y = refl
either_test false b x y = refl

misplaced_exactly : (t : Trailer) (room : ℕ) → (not (distance_ok t room) ≡ true) ↔ ((¬ (t.distance ≡ record_bytes t)) ⊎ (room < t.distance))
misplaced_exactly t room = (
  λ e. go (eqb t.distance (record_bytes t)) refl (dec_lt room t.distance) e,
  ⊎_elim (λ n. off (λ h. n h.0)) (λ l. off (λ h. omega arith)),
)
  where
    off : ¬ ((t.distance ≡ record_bytes t) × (t.distance ≤ room)) → not (distance_ok t room) ≡ true
    off = (not_exactly _ (placed_exactly t room)).1

    go : (c : Bool) → eqb t.distance (record_bytes t) ≡ c → Dec (room < t.distance) → not (distance_ok t room) ≡ true → (¬ (t.distance ≡ record_bytes t)) ⊎ (room < t.distance)
    go false h l e = inl (eqb-false _ _ h)
    go true h (yes l) e = inr l
    go true h (no l) e = absurd ((not_exactly _ (placed_exactly t room)).0 e (eqb-true _ _ h, omega arith))

kept_lower : (nq na : ℕ) (t : List ℕ) (n : ℕ) → ltb (lowest (programs_ok nq na t) n) n ≡ false → Lower (program_at t) n
kept_lower nq na t n e = rules_lower nq na n (program_at t) (λ i l. lower_true (programs_ok nq na t) n i (omega (arith, ltb-false _ n e)))

too_high : (p : ℕ → Program) (n : ℕ) → (1 ≤ n) × Lower p n → (ltb 16 (height_of p n) ≡ true) ↔ HeightAbove p n 16
too_high p n (some, low) = let a = above_exactly p n low some 16 in (λ e. a.1 (ltb-true _ _ e), λ h. lt-ltb _ _ (a.0 h))

module _ (s : List ℕ) where
  abbrev programs : ℕ → Program
  programs = program_at (programs_in s (layout_of s))

  has_root : WithinLimits (trailer_of s) → 1 ≤ (layout_of s).p
  unfolding layout_of layout_in
  has_root w = w.some_record

  told : Told 0 (Unit {0}) (Cause s) (check_of s)
  unfolding check_of trailer_checked layout_of tables_checked height_checked refused_at
  told =
      let t = trailer_of s in
      let l = layout_of s in
      subst (Told 0 (Unit {0}) (Cause s)) (either_test (ltb (length s) 18) (not (eqb t.magic 0x5142)) (refused 1 0) _)
      (then (unplaced 1 _ (λ g. or_exactly _ _ (ltb-true _ _, lt-ltb _ _) (not_exactly _ (eqb-true _ _, eq-eqb _ _)))) 0 (omega arith) (λ g e. g)
      (then (unplaced 2 _ (λ g. not_exactly _ (limits_exactly t))) 1 {H = 1 ≤ l.p} (omega arith) (λ g e. has_root ((limits_exactly t).0 (not-false _ e)))
      (then (unplaced 3 _ (λ g. misplaced_exactly t (length s - 18))) 2 (omega arith) (λ g e. g)
      (then (lowest_placed 4 _ _ (λ i. fluent_exactly _)) 3 (omega arith) (λ g e. g)
      (then (lowest_placed 5 _ _ (λ i. formula_exactly _ _ _ _)) 4 (omega arith) (λ g e. g)
      (then (lowest_placed 6 _ _ (λ i. effect_exactly _ _ _ _)) 5 (omega arith) (λ g e. g)
      (then (lowest_placed 7 _ _ (λ i. action_exactly _ _ _)) 6 (omega arith) (λ g e. g)
      (then (lowest_placed 8 _ _ (λ i. program_exactly _ _ _ _)) 7 {H = (1 ≤ l.p) × Lower programs l.p} (omega arith) (λ g e. (g, kept_lower _ _ _ _ e))
      (last (unplaced 9 _ (too_high _ _)) 8 (omega arith) _ _)))))))))

  -- the check answers by the causes
  pub answered_by : By (Cause s) (check_of s)
  answered_by = told.by tt

  -- refused with k and p exactly when k is the least number whose cause holds and p its place
  pub refused_exactly : (k p : ℕ) → (check_of s ≡ refused k p) ↔ First (Cause s) k p
  refused_exactly k p = (λ e. let t = subst (By (Cause s)) e answered_by in (t.0, t.1), first_answered (Cause s) k p (check_of s) answered_by)

  -- accepted exactly when no cause holds
  pub accepted_exactly : Accepts s ↔ ((k p : ℕ) → ¬ Cause s k p)
  accepted_exactly = (λ (w, u, e). subst (By (Cause s)) e answered_by, none_accepted (Cause s) (check_of s) answered_by)

  module _ (accepted : Accepts s) where
    figure_exactly : (w : ℕ) → Figure s w ↔ (w ≡ accepted.0)
    figure_exactly w =
        let e = (ruled s accepted).figure in
        let h = levels_exactly programs (layout_of s).p (lower s accepted) (laid s accepted).some_record in (
          λ (n, l, f). f ∙ ap (λ (k : ℕ). work_words k (layout_of s).d) ((h n).0 l) ∙ sym e,
          λ f. (levels programs (layout_of s).p, (h _).1 refl, f ∙ e),
        )

    union_exactly : (u : ℕ) → Union s u ↔ (u ≡ accepted.1)
    union_exactly u =
        let formula = formula_at (formulas_in s (layout_of s)) in
        let n = (layout_of s).q in
        let told = table_exactly formula n (lower_formulas s accepted) in
        let e = (ruled s accepted).union in (
          λ (fits, bits).
              sym (mask_bits 32 u fits)
              ∙ mask_same (has_bit u) (table_names formula n) 32 (λ x l. same_test (has_bit u x) (table_names formula n x) (Iff.trans (bits x l) ((told x).1, (told x).0)))
              ∙ sym e,
          λ f.
              let g = f ∙ e in
              rw g (mask_fits (table_names formula n) 32, λ x l. rw (mask_has (table_names formula n) 32 x l) (told x)),
        )

  -- and then the answer is the figure and the union
  pub answered_exactly : (w u : ℕ) → (check_of s ≡ accepted_with w u) ↔ (((k p : ℕ) → ¬ Cause s k p) × Figure s w × Union s u)
  answered_exactly w u = (
    λ e. (accepted_exactly.0 (w, u, e), (figure_exactly (w, u, e) w).1 refl, (union_exactly (w, u, e) u).1 refl),
    λ (none, f, g).
        let accepted = accepted_exactly.1 none in
        accepted.2 ∙ ap₂ accepted_with (sym ((figure_exactly accepted w).0 f)) (sym ((union_exactly accepted u).0 g)),
  )
