-- What a report says of a verdict: whether there is a plan, and which; and where only a plan matters, the verdict beside a flag is as good as
-- the verdict itself. So a search for exactly a history's moves finds a plan where the history is accepted. Assumes nothing.
use Prim.Native.Nat.{ℕ, suc, ◌+◌, ◌≤◌}
use native.Mathlib.Nat.{suc-add}
use native.Mathlib.Omega.{arith}
use mathlib.Core.Bool.{true, false, true≢false}
use mathlib.Core.List.{List, [], ◌∷◌, ◌++◌}
use mathlib.Core.Path.{◌≡◌, refl, sym, ◌∙◌, ap}
use lib.ListN.{length, drop, set}
use Rattle.runs.specs.Search.{Verdict, plan, nothing, more, is_plan}
use Rattle.runs.specs.Guide.{exactly}
use Rattle.runs.specs.Bounded.{join, flagged}
use Rattle.runs.proofs.Bounded.{outcome_exactly}
use Rattle.runs.proofs.Joined.{flag_plan}
use Rattle.demands.specs.Decoded.{world_of, first_of, bound_of}
use Rattle.demands.specs.Planning.{transitions_in, is_final_in, accepts_of}
use Rattle.search.specs.Outcome.{lay, ReportsVerdict, Reported, is_found}
use Rattle.search.specs.Searching.{verdict_from}
use Rattle.search.specs.declared.Outcome.{Outcome}
use Rattle.search.specs.declared.Outcome.TheVariants.{Found, Nothing, More}

lay_cons : (h : List ℕ) (x : ℕ) (trace : List ℕ) (n : ℕ) → lay (x ∷ trace) (suc n) h ≡ x ∷ lay trace n h
lay_cons [] x trace n = refl
lay_cons (e ∷ h) x trace n = ap (λ (l : List ℕ). set l (suc n) e) (ap (λ (k : ℕ). lay (x ∷ trace) k h) (suc-add n 1) ∙ lay_cons h x trace (n + 1))

-- laid from the front, it stands before what was there
pub lay_front : (h trace : List ℕ) → length h ≤ length trace → lay trace 0 h ≡ h ++ drop (length h) trace
lay_front [] trace l = refl
lay_front (e ∷ h) [] l = absurd (omega arith)
lay_front (e ∷ h) (x ∷ trace) l = ap (λ (k : List ℕ). set k 0 e) (lay_cons h x trace 0) ∙ ap (λ (k : List ℕ). e ∷ k) (lay_front h trace (omega arith))

-- a plan that is reported from the front
pub found_says :
    (trace trace' : List ℕ) (o : Outcome) (v : Verdict) (n t : ℕ) → o ≡ Found n t → ReportsVerdict 0 0 trace trace' o v
    → (h : List ℕ) × (v ≡ plan h t) × (n ≡ length h) × (trace' ≡ lay trace 0 h)
found_says trace trace' o (plan h u) n t q (e, l) =
    let z : Found n t ≡ Found (0 + length h) (0 + u) = sym q ∙ e in
    let zn : n ≡ 0 + length h = cc in
    let zt : t ≡ 0 + u = cc in
    (h, ap (plan h) (omega arith), omega arith, l)
found_says trace trace' o nothing n t q (e, l) = let z : Found n t ≡ Nothing = sym q ∙ e in let y : ◌≡◌ {A = ℕ} 0 1 = cc in absurd (omega arith)
found_says trace trace' o more n t q (e, l) = let z : Found n t ≡ More = sym q ∙ e in let y : ◌≡◌ {A = ℕ} 0 1 = cc in absurd (omega arith)

pub found_plan : (n d : ℕ) (trace trace' : List ℕ) (o : Outcome) (v : Verdict) → ReportsVerdict n d trace trace' o v → is_found o ≡ is_plan v
found_plan n d trace trace' o (plan h t) (e, l) = ap is_found e
found_plan n d trace trace' o nothing (e, l) = ap is_found e
found_plan n d trace trace' o more (e, l) = ap is_found e

-- without a plan the trace is as it was
pub unfound_kept : (n d : ℕ) (trace trace' : List ℕ) (o : Outcome) (v : Verdict) → ReportsVerdict n d trace trace' o v → is_found o ≡ false → trace' ≡ trace
unfound_kept n d trace trace' o (plan h t) (e, l) z = absurd (true≢false (sym (ap is_found e) ∙ z))
unfound_kept n d trace trace' o nothing (e, l) z = l
unfound_kept n d trace trace' o more (e, l) z = l

-- replay
pub exactly_found :
    (s h trace trace' : List ℕ) (o : Outcome) (left : ℕ) → left ≡ bound_of s → Reported 0 0 trace trace' o (join (flagged true) (verdict_from s left (first_of s, exactly h)))
    → is_found o ≡ accepts_of s h
unfolding accepts_of
exactly_found s h trace trace' o left e R =
    let v = verdict_from s left (first_of s, exactly h) in
    found_plan 0 0 trace trace' o (join (flagged true) v) R.says
    ∙ flag_plan true v
    ∙ ap (λ (k : ℕ). is_plan (verdict_from s k (first_of s, exactly h))) e
    ∙ outcome_exactly (transitions_in (world_of s)) (is_final_in (world_of s)) (bound_of s) (first_of s) h
