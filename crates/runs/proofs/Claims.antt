-- A verdict within one transition more: a plan may be new there, but where some run goes on it did before, and where none goes on none
-- will. So a true claim answers for a visit with fewer transitions left, or where none goes on with more; and a search that comes back
-- without a plan may make a claim. Assumes nothing.
use Prim.Native.Nat.{ℕ, zero, suc, ◌+◌, ◌-◌, ◌≤◌}
use native.Mathlib.Omega.{arith}
use native.Mathlib.Decide.{dec_le}
use mathlib.Core.Bool.{Bool, true, false, ◌&&◌, ◌||◌, true≢false}
use mathlib.Core.List.{List, [], ◌∷◌}
use mathlib.Core.Option.{Option}
use mathlib.Core.Path.{◌≡◌, refl, sym, ◌∙◌, ap, subst}
use lib.Dec.{leb, eqb, leb→le, eqb→eq, T}
use Rattle.runs.specs.Runs.{add, LongRun, FinalRun}
use Rattle.runs.specs.Search.{Verdict, plan, nothing, more, is_plan, or_more, before, tries, any_transition, unless}
use Rattle.runs.specs.Search.{search, Lists, DecidesFinal, Means}
use Rattle.runs.specs.Guide.{Guide, unguided, guided_transitions, guided_final, follow}
use Rattle.runs.specs.Bounded.{verdict_within, join, flagged}
use Rattle.runs.specs.Claims.{Claim, claim_flag, serves}
use Rattle.runs.proofs.Searched.{search_means}
use Rattle.runs.proofs.Verdicts.{plan_iff, nothing_iff, more_iff}
use Rattle.runs.proofs.Bounded.{outcome_unguided}
use Rattle.runs.proofs.Joined.{flag_plan, no_plan}

-- a verdict, and the one within one transition less
abbrev Fewer : Verdict → Verdict → Type 0
Fewer (plan h t) (plan g u) = Unit {0}
Fewer (plan h t) nothing = ⊥
Fewer (plan h t) more = Unit {0}
Fewer nothing (plan g u) = ⊥
Fewer nothing nothing = Unit {0}
Fewer nothing more = Unit {0}
Fewer more (plan g u) = ⊥
Fewer more nothing = ⊥
Fewer more more = Unit {0}

fewer_or : (v w : Verdict) → Fewer v w → Fewer v (or_more w)
fewer_or (plan h t) (plan g u) f = tt
fewer_or (plan h t) nothing f = absurd f
fewer_or (plan h t) more f = tt
fewer_or nothing (plan g u) f = absurd f
fewer_or nothing nothing f = tt
fewer_or nothing more f = tt
fewer_or more (plan g u) f = absurd f
fewer_or more nothing f = absurd f
fewer_or more more f = tt

fewer_both : (v w : Verdict) → Fewer v w → Fewer (or_more v) (or_more w)
fewer_both (plan h t) w f = fewer_or (plan h t) w f
fewer_both nothing (plan g u) f = absurd f
fewer_both nothing nothing f = tt
fewer_both nothing more f = tt
fewer_both more w f = fewer_or more w f

fewer_plan : (h : List ℕ) (t : ℕ) (w : Verdict) → Fewer (plan h t) (or_more w)
fewer_plan h t (plan g u) = tt
fewer_plan h t nothing = tt
fewer_plan h t more = tt

fewer_before : (m : Option ℕ) (v w r q : Verdict) → Fewer v w → Fewer r q → Fewer (before m v r) (before m w q)
fewer_before m (plan h t) (plan g u) r q f e = tt
fewer_before m (plan h t) nothing r q f e = absurd f
fewer_before m (plan h t) more r q f e = fewer_plan (add m h) (suc t) q
fewer_before m nothing (plan g u) r q f e = absurd f
fewer_before m nothing nothing r q f e = e
fewer_before m nothing more r q f e = fewer_or r q e
fewer_before m more (plan g u) r q f e = absurd f
fewer_before m more nothing r q f e = absurd f
fewer_before m more more r q f e = fewer_both r q e

fewer_tries : {D : Type 0} (f g : D → Verdict) → ((d : D) → Fewer (f d) (g d)) → (xs : List (Option ℕ × D)) → Fewer (tries f xs) (tries g xs)
fewer_tries f g h [] = tt
fewer_tries f g h (x ∷ xs) = fewer_before x.0 (f x.1) (g x.1) (tries f xs) (tries g xs) (h x.1) (fewer_tries f g h xs)

fewer_unless : (b : Bool) (v w : Verdict) → Fewer v w → Fewer (unless b v) (unless b w)
fewer_unless true v w f = tt
fewer_unless false v w f = f

fewer_more : (v : Verdict) → Fewer v more
fewer_more (plan h t) = tt
fewer_more nothing = tt
fewer_more more = tt

fewer_none : (v w : Verdict) → Fewer v w → is_plan v ≡ false → is_plan w ≡ false
fewer_none (plan h t) w f e = absurd (true≢false e)
fewer_none nothing (plan g u) f e = absurd f
fewer_none nothing nothing f e = refl
fewer_none nothing more f e = refl
fewer_none more (plan g u) f e = absurd f
fewer_none more nothing f e = absurd f
fewer_none more more f e = refl

fewer_goes_on : (v w : Verdict) → Fewer v w → v ≡ more → w ≡ more
fewer_goes_on v w f e = go w (subst (λ (x : Verdict). Fewer x w) e f)
  where
    go : (w : Verdict) → Fewer more w → w ≡ more
    go (plan g u) f = absurd f
    go nothing f = absurd f
    go more f = refl

fewer_over : (v w : Verdict) → Fewer v w → w ≡ nothing → v ≡ nothing
fewer_over v w f e = go v (subst (Fewer v) e f)
  where
    go : (v : Verdict) → Fewer v nothing → v ≡ nothing
    go (plan h t) f = absurd f
    go nothing f = refl
    go more f = absurd f

module _ {C : Type 0} (transitions : C → List (Option ℕ × C)) (final : C → Bool) where
  at_bound : (g : Guide) (xs : List (Option ℕ × C)) (f : C × Guide → Verdict) → Fewer (tries f (follow g xs)) (any_transition xs)
  at_bound g [] f = tt
  at_bound g (x ∷ xs) f = fewer_more (tries f (follow g (x ∷ xs)))

  fewer : (k : ℕ) (c : C × Guide) → Fewer (verdict_within transitions final (suc k) c) (verdict_within transitions final k c)
  fewer zero c = fewer_unless (guided_final final c) _ _ (at_bound c.1 (transitions c.0) (λ (d : C × Guide). verdict_within transitions final 0 d))
  fewer (suc k) c =
      fewer_unless (guided_final final c) _ _
      (fewer_tries (λ (d : C × Guide). verdict_within transitions final (suc k) d) (λ (d : C × Guide). verdict_within transitions final k d) (λ d. fewer k d) (guided_transitions transitions c))

  -- n transitions fewer
  none_lower : (n k m : ℕ) (c : C × Guide) → m ≡ k + n → is_plan (verdict_within transitions final m c) ≡ false → is_plan (verdict_within transitions final k c) ≡ false
  none_lower zero k m c q e = let z : m ≡ k = omega arith in rw (← z) e
  none_lower (suc n) k m c q e =
      let z : m ≡ suc (k + n) = omega arith in
      none_lower n k (k + n) c refl
      (fewer_none (verdict_within transitions final (suc (k + n)) c) (verdict_within transitions final (k + n) c) (fewer (k + n) c) (rw z at e))

  goes_on_lower : (n k m : ℕ) (c : C × Guide) → m ≡ k + n → verdict_within transitions final m c ≡ more → verdict_within transitions final k c ≡ more
  goes_on_lower zero k m c q e = let z : m ≡ k = omega arith in rw (← z) e
  goes_on_lower (suc n) k m c q e = let z : m ≡ suc (k + n) = omega arith in goes_on_lower n k (k + n) c refl (fewer_goes_on _ _ (fewer (k + n) c) (rw z at e))

  over_higher : (n k m : ℕ) (c : C × Guide) → m ≡ k + n → verdict_within transitions final k c ≡ nothing → verdict_within transitions final m c ≡ nothing
  over_higher zero k m c q e = let z : m ≡ k = omega arith in rw z e
  over_higher (suc n) k m c q e = let z : m ≡ suc (k + n) = omega arith in rw z (fewer_over _ _ (fewer (k + n) c) (over_higher n k (k + n) c refl e))

  module _ (left flag : ℕ) (c : C × Guide) (p : Claim transitions final left flag c) where
    -- with no more left
    none_fewer : (k : ℕ) → k ≤ left → is_plan (verdict_within transitions final k c) ≡ false
    none_fewer k l = none_lower (left - k) k left c (omega arith) p.none_ends

    goes_on_fewer : (k : ℕ) → k ≤ left → flag ≡ 1 → verdict_within transitions final k c ≡ more
    goes_on_fewer k l e = goes_on_lower (left - k) k left c (omega arith) (p.goes_on e)

    -- with no fewer left
    over_more : (k : ℕ) → left ≤ k → flag ≡ 2 → verdict_within transitions final k c ≡ nothing
    over_more k l e = over_higher (k - left) left k c (omega arith) (p.is_over e)

    -- none at all
    none_ever : (k : ℕ) → flag ≡ 2 → is_plan (verdict_within transitions final k c) ≡ false
    none_ever k e = go (dec_le k left)
      where
        go : Dec (k ≤ left) → is_plan (verdict_within transitions final k c) ≡ false
        go (yes l) = none_fewer k l
        go (no l) = ap is_plan (over_more k (omega arith) e)

    -- THE LAW: a claim that serves answers for the visit
    pub served : (cut : Bool) (k : ℕ) → serves cut k left flag ≡ true → join (flagged cut) (verdict_within transitions final k c) ≡ flagged (cut || eqb flag 1)
    served cut k e = go (leb k left) refl cut (eqb flag 1) refl (eqb flag 2) refl (leb left k) refl e
      where
        is : (b : Bool) {P : Type 0} → (T b → P) → b ≡ true → P
        is b f y = f (subst T (sym y) tt)

        over : (cut : Bool) (b : Bool) → eqb flag 1 ≡ b → flag ≡ 2 → left ≤ k → join (flagged cut) (verdict_within transitions final k c) ≡ flagged (cut || b)
        over cut true y z l = absurd (omega (arith, eqb→eq flag 1 (subst T (sym y) tt)))
        over true false y z l = ap or_more (over_more k l z)
        over false false y z l = over_more k l z

        go : (a : Bool) → leb k left ≡ a → (cut b : Bool) → eqb flag 1 ≡ b → (d : Bool) → eqb flag 2 ≡ d → (h : Bool) → leb left k ≡ h
            → ((a && (cut || b)) || (d && (cut || h))) ≡ true → join (flagged cut) (verdict_within transitions final k c) ≡ flagged (cut || b)
        go true ea true b eb d ed h eh z = no_plan true (verdict_within transitions final k c) refl (none_fewer k (is (leb k left) (leb→le k left) ea))
        go true ea false true eb d ed h eh z = goes_on_fewer k (is (leb k left) (leb→le k left) ea) (is (eqb flag 1) (eqb→eq flag 1) eb)
        go true ea false false eb true ed true eh z = over false false eb (is (eqb flag 2) (eqb→eq flag 2) ed) (is (leb left k) (leb→le left k) eh)
        go true ea false false eb true ed false eh z = absurd (true≢false (sym z))
        go true ea false false eb false ed h eh z = absurd (true≢false (sym z))
        go false ea true b eb true ed h eh z = no_plan true (verdict_within transitions final k c) refl (none_ever k (is (eqb flag 2) (eqb→eq flag 2) ed))
        go false ea cut b eb false ed h eh z = absurd (true≢false (sym z))
        go false ea false b eb true ed true eh z = over false b eb (is (eqb flag 2) (eqb→eq flag 2) ed) (is (leb left k) (leb→le left k) eh)
        go false ea false b eb true ed false eh z = absurd (true≢false (sym z))

  -- what may be claimed of a configuration that was explored without a plan, itself or by what a claim says
  pub may_claim :
      (cut cut' : Bool) (k : ℕ) (c : C × Guide) → join (flagged cut) (verdict_within transitions final k c) ≡ flagged cut'
      → Claim transitions final k (claim_flag cut cut') c
  may_claim cut cut' k c e = record {
    none_ends = sym (flag_plan cut _) ∙ ap is_plan e ∙ no_flag cut';
    goes_on = λ z. on cut cut' z e;
    is_over = λ z. over cut cut' z e;
  }
    where
      no_flag : (b : Bool) → is_plan (flagged b) ≡ false
      no_flag true = refl
      no_flag false = refl

      on : (a b : Bool) → claim_flag a b ≡ 1 → join (flagged a) (verdict_within transitions final k c) ≡ flagged b → verdict_within transitions final k c ≡ more
      on true b z e = absurd (omega arith)
      on false true z e = e
      on false false z e = absurd (omega arith)

      over : (a b : Bool) → claim_flag a b ≡ 2 → join (flagged a) (verdict_within transitions final k c) ≡ flagged b → verdict_within transitions final k c ≡ nothing
      over true b z e = absurd (omega arith)
      over false true z e = absurd (omega arith)
      over false false z e = e

  -- document 02, F-4, in runs: where nothing is asked, a claim says "No run of at most k transitions from this configuration ends final", and of
  -- runs of k + 1 that some exists, that none exists, or nothing
  module _ (Trans : C → Option ℕ → C → Type 0) (Ends : C → Type 0) (listed : Lists transitions Trans) (decided : DecidesFinal final Ends) where
    pub claim_says :
        (left flag : ℕ) (c : C) → Claim transitions final left flag (c, unguided)
        → (¬ FinalRun Trans Ends left c) × (flag ≡ 1 → LongRun Trans (suc left) c) × (flag ≡ 2 → ¬ LongRun Trans (suc left) c)
    claim_says left flag c p = (none_ends, goes_on, is_over)
      where
        is : verdict_within transitions final left (c, unguided) ≡ search transitions final left c
        is = outcome_unguided transitions final left c

        means : (k : ℕ) (d : C) → Means Trans Ends k d (search transitions final k d)
        means = search_means Trans Ends transitions final listed decided

        none_ends : ¬ FinalRun Trans Ends left c
        none_ends r = let (h, t, e) = (plan_iff Trans Ends (search transitions final) means left c).1 r in true≢false (sym (ap is_plan (is ∙ e)) ∙ p.none_ends)

        goes_on : flag ≡ 1 → LongRun Trans (suc left) c
        goes_on z = ((more_iff Trans Ends (search transitions final) means left c).0 (sym is ∙ p.goes_on z)).1

        is_over : flag ≡ 2 → ¬ LongRun Trans (suc left) c
        is_over z = ((nothing_iff Trans Ends (search transitions final) means left c).0 (sym is ∙ p.is_over z)).1
