-- Leaving out what no run to an end goes through changes no verdict: beside a run in which the bound ran out, a configuration from which
-- none ends later comes to a plan where it is final itself, and else to nothing new. None ends later where every transition leads so far
-- from an end that it is not reached within the others. Assumes nothing.
use Prim.Native.Nat.{ℕ, zero, suc, ◌≤◌, ◌<◌}
use native.Mathlib.Omega.{arith}
use mathlib.Core.Bool.{Bool, true, false, ◌&&◌, ◌||◌}
use mathlib.Core.List.{List, [], ◌∷◌, Memᴰ}
use mathlib.Core.Option.{Option}
use mathlib.Core.Path.{◌≡◌, refl, ◌∙◌, ap, ap₂}
use Rattle.runs.specs.Search.{Verdict, nothing, more, is_plan, tries, any_transition, unless}
use Rattle.runs.specs.Guide.{Guide, may_end, guided_transitions, guided_final}
use Rattle.runs.specs.Bounded.{verdict_within, join}
use Rattle.runs.specs.Pruning.{NoneEndsLater}
use Rattle.runs.proofs.Guided.{follow_iff}
use Rattle.runs.proofs.Bounded.{is_plan_before, is_plan_any}
use Rattle.runs.proofs.Joined.{no_plan}

-- rows none of which has a plan have none
none_planned : {D : Type 0} (f : D → Verdict) (xs : List (Option ℕ × D)) → ((m : Option ℕ) (d : D) → Memᴰ (m, d) xs → is_plan (f d) ≡ false) → is_plan (tries f xs) ≡ false
none_planned f [] h = refl
none_planned f (x ∷ xs) h =
    is_plan_before x.0 (f x.1) (tries f xs)
    ∙ ap₂ ◌||◌ (h x.0 x.1 (Memᴰ.head refl)) (none_planned f xs (λ m d k. h m d (Memᴰ.tail k)))

beside : (b : Bool) (v : Verdict) → is_plan v ≡ false → join more (unless b v) ≡ join more (unless b nothing)
beside true v e = refl
beside false v e = no_plan true v refl e

module _ {C : Type 0} (transitions : C → List (Option ℕ × C)) (final : C → Bool) where
  -- THE LAW: where none ends later, only the configuration itself matters
  pub pruned :
      (k : ℕ) (c : C × Guide) → NoneEndsLater transitions final k c
      → join more (verdict_within transitions final k c) ≡ join more (unless (guided_final final c) nothing)
  pruned zero c h = beside (guided_final final c) (any_transition (transitions c.0)) (is_plan_any (transitions c.0))
  pruned (suc k) c h = beside (guided_final final c) _ (none_planned (λ (d : C × Guide). verdict_within transitions final k d) (guided_transitions transitions c) h)

  -- how far a configuration is from an end, at least: 0 where it is final, and by a transition at most one less
  module _ (distance : C → ℕ) (ended : (c : C) → final c ≡ true → distance c ≡ 0)
      (nearer : (c : C) (x : Option ℕ × C) → Memᴰ x (transitions c) → distance c ≤ suc (distance x.1)) where
    not_final : (k : ℕ) (c : C) (g : Guide) → k < distance c → guided_final final (c, g) ≡ false
    not_final k c g l = go (may_end g) (final c) (ended c)
      where
        go : (a b : Bool) → (b ≡ true → distance c ≡ 0) → (a && b) ≡ false
        go true true e = absurd (omega (arith, e refl))
        go true false e = refl
        go false b e = refl

    -- none ends within fewer transitions
    far_none : (k : ℕ) (c : C) (g : Guide) → k < distance c → is_plan (verdict_within transitions final k (c, g)) ≡ false
    far_none zero c g l = ap (λ (b : Bool). is_plan (unless b (any_transition (transitions c)))) (not_final 0 c g l) ∙ is_plan_any (transitions c)
    far_none (suc k) c g l =
        ap (λ (b : Bool). is_plan (unless b (tries (λ (d : C × Guide). verdict_within transitions final k d) (guided_transitions transitions (c, g))))) (not_final (suc k) c g l)
        ∙ none_planned (λ (d : C × Guide). verdict_within transitions final k d) (guided_transitions transitions (c, g))
        (λ m d j. far_none k d.0 d.1 (omega (arith, nearer c (m, d.0) ((follow_iff g (transitions c) m d.0 d.1).0 j).0)))

    pub none_near : (k : ℕ) (c : C) (g : Guide) → ((x : Option ℕ × C) → Memᴰ x (transitions c) → k < distance x.1) → NoneEndsLater transitions final (suc k) (c, g)
    none_near k c g h m d j = far_none k d.0 d.1 (h (m, d.0) ((follow_iff g (transitions c) m d.0 d.1).0 j).0)
