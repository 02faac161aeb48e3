-- The loop over a configuration's transitions: the first one's verdict, then a flag beside the verdict on the others. A plan ends the loop,
-- and its history is laid into the trace on the way back. Assumes nothing.
use Prim.Native.Nat.{ℕ, ◌+◌}
use native.Mathlib.Nat.{add-zero}
use native.Mathlib.Omega.{arith}
use mathlib.Core.Bool.{Bool, true, false, cond}
use mathlib.Core.List.{List, [], ◌∷◌, append-nil}
use mathlib.Core.Option.{Option, none, some}
use mathlib.Core.Path.{◌≡◌, refl, sym, ◌∙◌, ap, ap₂, subst}
use lib.ListN.{length, set}
use Rattle.runs.specs.Search.{Verdict, plan, nothing, more, before, tries}
use Rattle.runs.specs.Guide.{Guide, unguided, along, only, follow1, follow}
use Rattle.runs.specs.Bounded.{join, flagged}
use Rattle.runs.proofs.Joined.{flag_nothing, join_assoc, before_flag}
use Rattle.runs.proofs.Bounded.{tries_append}
use Rattle.search.specs.Outcome.{ReportsVerdict, Reported, is_found, is_more, told}
use Rattle.search.specs.Moves.{passes, left_over, entries, noted}
use Rattle.search.specs.declared.Outcome.{Outcome}
use Rattle.search.specs.declared.Outcome.TheVariants.{Found}

pub says_flag : (n d : ℕ) (trace : List ℕ) (cut : Bool) → ReportsVerdict n d trace trace (told cut) (flagged cut)
says_flag n d trace true = (refl, refl)
says_flag n d trace false = (refl, refl)

-- what is told is no plan, and tells the flag
pub told_more : (cut : Bool) → (is_found (told cut) ≡ false) × (is_more (told cut) ≡ cut)
told_more true = (refl, refl)
told_more false = (refl, refl)

-- where no plan was found nothing is written
pub noted_none : (m : Option ℕ) (n : ℕ) (o : Outcome) (trace : List ℕ) → is_found o ≡ false → noted m n o trace ≡ trace
noted_none none n o trace e = refl
noted_none (some a) n o trace e = ap (λ (b : Bool). cond b (set trace n a) trace) e

-- a verdict that is a flag, told
pub flag_reported : (n d : ℕ) (cut : Bool) {trace trace' : List ℕ} {o : Outcome} {v : Verdict} → flagged cut ≡ v → o ≡ told cut → trace' ≡ trace → Reported n d trace trace' o v
flag_reported n d cut {trace} {trace'} {o} {v} e eo et =
    record {
      says =
          subst (λ (o : Outcome). ReportsVerdict n d trace trace' o v) (sym eo)
          (subst (λ (l : List ℕ). ReportsVerdict n d trace l (told cut) v) (sym et) (subst (ReportsVerdict n d trace trace (told cut)) e (says_flag n d trace cut)));
    }

module _ {C : Type 0} (f : C × Guide → Verdict) (g : Guide) where
  -- the verdict on one transition that the guide lets pass or not, and on all of a list
  abbrev pub branch : Option ℕ × C → Verdict
  branch x = tries f (follow1 g x.0 x.1)

  abbrev pub branches : List (Option ℕ × C) → Verdict
  branches xs = tries f (follow g xs)

  abbrev one : Option ℕ × C → List (Option ℕ × C)
  one x = x ∷ []

  only_branch : (x : Option ℕ × C) → branches (one x) ≡ branch x
  only_branch x = ap (tries f) (append-nil (follow1 g x.0 x.1))

  -- the first of the transitions, then the others
  pub tried_next : (cut : Bool) (x : Option ℕ × C) (xs : List (Option ℕ × C)) → join (flagged cut) (branches (x ∷ xs)) ≡ join (join (flagged cut) (branches (one x))) (branches xs)
  tried_next cut x xs =
      ap (join (flagged cut)) (tries_append f (follow1 g x.0 x.1) (follow g xs) ∙ ap (λ (v : Verdict). join v (branches xs)) (sym (only_branch x)))
      ∙ sym (join_assoc (flagged cut) (branches (one x)) (branches xs))

  pub branch_one : (cut : Bool) (x : Option ℕ × C) → join (flagged cut) (branches (one x)) ≡ join (flagged cut) (branch x)
  branch_one cut x = ap (join (flagged cut)) (only_branch x)

  module _ (cut : Bool) (x : Option ℕ × C) (xs : List (Option ℕ × C)) (n d : ℕ) (trace trace' : List ℕ) (o : Outcome)
      (R : Reported n d trace trace' o (join (flagged cut) (branches (one x))))
    where
      -- an answer that is found is that of all
      pub tried_found : is_found o ≡ true → Reported n d trace trace' o (join (flagged cut) (branches (x ∷ xs)))
      tried_found y = go (join (flagged cut) (branches (one x))) refl R.says
        where
          no : {v : Outcome} → o ≡ v → is_found v ≡ false → Reported n d trace trace' o (join (flagged cut) (branches (x ∷ xs)))
          no e z = let q : ◌≡◌ {A = ℕ} 0 1 = let p : true ≡ false = sym y ∙ ap is_found e ∙ z in cc in absurd (omega arith)

          go : (v : Verdict) → join (flagged cut) (branches (one x)) ≡ v → ReportsVerdict n d trace trace' o v → Reported n d trace trace' o (join (flagged cut) (branches (x ∷ xs)))
          go (plan h t) e s =
              record { says = subst (ReportsVerdict n d trace trace' o) (sym (tried_next cut x xs ∙ ap (λ (v : Verdict). join v (branches xs)) e)) s }
          go nothing e s = no s.0 refl
          go more e s = no s.0 refl

      -- one that is not leaves the trace, and a flag beside the others
      pub tried_more : is_found o ≡ false → (trace' ≡ trace) × (join (flagged cut) (branches (x ∷ xs)) ≡ join (flagged (is_more o)) (branches xs))
      tried_more y = go (join (flagged cut) (branches (one x))) refl R.says
        where
          rest : (b : Bool) → join (flagged cut) (branches (one x)) ≡ flagged b → is_more o ≡ b → join (flagged cut) (branches (x ∷ xs)) ≡ join (flagged (is_more o)) (branches xs)
          rest b e z = tried_next cut x xs ∙ ap (λ (v : Verdict). join v (branches xs)) (e ∙ ap flagged (sym z))

          go : (v : Verdict) → join (flagged cut) (branches (one x)) ≡ v → ReportsVerdict n d trace trace' o v →
              (trace' ≡ trace) × (join (flagged cut) (branches (x ∷ xs)) ≡ join (flagged (is_more o)) (branches xs))
          go (plan h t) e s = let q : ◌≡◌ {A = ℕ} 0 1 = let p : false ≡ true = sym y ∙ ap is_found s.0 in cc in absurd (omega arith)
          go nothing e s = (s.1, rest false e (ap is_more s.0))
          go more e s = (s.1, rest true e (ap is_more s.0))

  -- none is left: the flag
  pub tried_none : (cut : Bool) → join (flagged cut) (branches []) ≡ flagged cut
  tried_none cut = flag_nothing cut

-- the answer from where a transition leads is the answer of that transition: it is written down where a plan was found
module _ {C : Type 0} (f : C × Guide → Verdict) (n d : ℕ) (trace trace' : List ℕ) (o : Outcome) (c : C × Guide) where
  pub after_test : Reported n (d + 1) trace trace' o (f c) → Reported n d trace trace' o (tries f ((none, c) ∷ []))
  after_test R = go (f c) refl R.says
    where
      go : (v : Verdict) → f c ≡ v → ReportsVerdict n (d + 1) trace trace' o v → Reported n d trace trace' o (tries f ((none, c) ∷ []))
      go (plan h t) e s =
          record {
            says =
                subst (λ (v : Verdict). ReportsVerdict n d trace trace' o (before none v nothing)) (sym e)
                (s.0 ∙ ap (Found (n + length h)) (omega arith), s.1);
          }
      go nothing e s = record { says = subst (λ (v : Verdict). ReportsVerdict n d trace trace' o (before none v nothing)) (sym e) s }
      go more e s = record { says = subst (λ (v : Verdict). ReportsVerdict n d trace trace' o (before none v nothing)) (sym e) s }

  module _ (a : ℕ) (R : Reported (n + 1) (d + 1) trace trace' o (f c)) where
    pub after_move : is_found o ≡ true → Reported n d trace (set trace' n a) o (tries f ((some a, c) ∷ []))
    after_move y = go (f c) refl R.says
      where
        no : {v : Outcome} → o ≡ v → is_found v ≡ false → Reported n d trace (set trace' n a) o (tries f ((some a, c) ∷ []))
        no e z = let q : ◌≡◌ {A = ℕ} 0 1 = let p : true ≡ false = sym y ∙ ap is_found e ∙ z in cc in absurd (omega arith)

        go : (v : Verdict) → f c ≡ v → ReportsVerdict (n + 1) (d + 1) trace trace' o v → Reported n d trace (set trace' n a) o (tries f ((some a, c) ∷ []))
        go (plan h t) e s =
            record {
              says =
                  subst (λ (v : Verdict). ReportsVerdict n d trace (set trace' n a) o (before (some a) v nothing)) (sym e)
                  (s.0 ∙ ap₂ Found (omega arith) (omega arith), ap (λ (l : List ℕ). set l n a) s.1);
            }
        go nothing e s = no s.0 refl
        go more e s = no s.0 refl

    pub after_move_missed : is_found o ≡ false → Reported n d trace trace' o (tries f ((some a, c) ∷ []))
    after_move_missed y = go (f c) refl R.says
      where
        go : (v : Verdict) → f c ≡ v → ReportsVerdict (n + 1) (d + 1) trace trace' o v → Reported n d trace trace' o (tries f ((some a, c) ∷ []))
        go (plan h t) e s = let q : ◌≡◌ {A = ℕ} 0 1 = let p : false ≡ true = sym y ∙ ap is_found s.0 in cc in absurd (omega arith)
        go nothing e s = record { says = subst (λ (v : Verdict). ReportsVerdict n d trace trace' o (before (some a) v nothing)) (sym e) s }
        go more e s = record { says = subst (λ (v : Verdict). ReportsVerdict n d trace trace' o (before (some a) v nothing)) (sym e) s }

-- a transition that passes or not
pub follow_passes :
    {C : Type 0} (g : Guide) (m : Option ℕ) (d : C)
    → follow1 g m d ≡ only (passes g m) ((m, (d, left_over g m)) ∷ [])
follow_passes g none d = refl
follow_passes unguided (some a) d = refl
follow_passes (along [] low high) (some a) d = refl
follow_passes (along (b ∷ g) low high) (some a) d = refl

module _
    {C : Type 0} (f : C × Guide → Verdict) (g : Guide) (m : Option ℕ) (c : C) (n d : ℕ) (trace trace' : List ℕ)
    (o : Outcome) where
  -- held back by the guide, it comes to nothing
  pub held_back : (cut : Bool) → passes g m ≡ false → Reported n d trace trace (told cut) (join (flagged cut) (branch f g (m, c)))
  held_back cut e =
      let q : branch f g (m, c) ≡ nothing = ap (tries f) (follow_passes g m c ∙ ap (λ (b : Bool). only b ((m, (c, left_over g m)) ∷ [])) e) in
      record { says = subst (ReportsVerdict n d trace trace (told cut)) (sym (ap (join (flagged cut)) q ∙ flag_nothing cut)) (says_flag n d trace cut) }

  -- let pass, it comes to what the search from where it leads comes to, written down where that is a plan
  let_through :
      passes g m ≡ true
      → Reported (n + entries m) (d + 1) trace trace' o (f (c, left_over g m))
      → Reported n d trace (noted m n o trace') o (branch f g (m, c))
  let_through e R =
      let q : branch f g (m, c) ≡ tries f ((m, (c, left_over g m)) ∷ []) = ap (tries f) (follow_passes g m c ∙ ap (λ (b : Bool). only b ((m, (c, left_over g m)) ∷ [])) e) in
      subst (Reported n d trace (noted m n o trace') o) (sym q) (go m R)
    where
      go : (m : Option ℕ) → Reported (n + entries m) (d + 1) trace trace' o (f (c, left_over g m)) → Reported n d trace (noted m n o trace') o (tries f ((m, (c, left_over g m)) ∷ []))
      go none R = after_test f n d trace trace' o (c, g) (subst (λ (k : ℕ). Reported k (d + 1) trace trace' o (f (c, g))) (add-zero n) R)
      go (some a) R = pick (is_found o) refl
        where
          pick : (b : Bool) → is_found o ≡ b → Reported n d trace (cond (is_found o) (set trace' n a) trace') o (tries f ((some a, (c, left_over g (some a))) ∷ []))
          pick true y = subst (λ (b : Bool). Reported n d trace (cond b (set trace' n a) trace') o (tries f ((some a, (c, left_over g (some a))) ∷ []))) (sym y)
              (after_move f n d trace trace' o (c, left_over g (some a)) a R y)
          pick false y = subst (λ (b : Bool). Reported n d trace (cond b (set trace' n a) trace') o (tries f ((some a, (c, left_over g (some a))) ∷ []))) (sym y)
              (after_move_missed f n d trace trace' o (c, left_over g (some a)) a R y)

-- the same beside a flag
pub let_pass :
    {C : Type 0} (f : C × Guide → Verdict) (g : Guide) (m : Option ℕ) (c : C) (n d : ℕ) (trace trace' : List ℕ) (o : Outcome) (cut : Bool)
    → passes g m ≡ true
    → Reported (n + entries m) (d + 1) trace trace' o (join (flagged cut) (f (c, left_over g m)))
    → Reported n d trace (noted m n o trace') o (join (flagged cut) (branch f g (m, c)))
let_pass {C} f g m c n d trace trace' o cut e R =
    let F : C × Guide → Verdict = λ y. join (flagged cut) (f y) in
    let one : (h : C × Guide → Verdict) → branch h g (m, c) ≡ before m (h (c, left_over g m)) nothing =
    λ h. ap (tries h) (follow_passes g m c ∙ ap (λ (b : Bool). only b ((m, (c, left_over g m)) ∷ [])) e) in
    subst (Reported n d trace (noted m n o trace') o) (one F ∙ before_flag m cut (f (c, left_over g m)) ∙ ap (join (flagged cut)) (sym (one f)))
    (let_through F g m c n d trace trace' o e R)
