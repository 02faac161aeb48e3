-- From the plan of the fewest transitions to the first: its history is the one to begin with; what is settled in the end is the verdict on
-- the sheet, and where nothing was found that is the verdict already. Assumes nothing.
use Rattle.std.proofs.Common.{◌≡◌, ℕ, ◌≤◌, false, List, ◌++◌, length, take, drop, sym, refl, ap, ◌∙◌, subst, ap₂, true≢false, arith}
use Rattle.runs.specs.Search.{Verdict, plan, nothing, more}
use Rattle.runs.specs.First.{NoneBelow}
use Rattle.runs.specs.Growing.{MeansFewest}
use Rattle.runs.proofs.Growing.{grown_none}
use Rattle.demands.specs.Decoded.{world_of, first_of, bound_of}
use Rattle.demands.specs.Planning.{Goes, Ends, RunOf, FirstPlan, verdict_of}
use Rattle.demands.proofs.Demands.{verdict_is}
use Rattle.search.specs.Outcome.{ReportsVerdict, Reported, is_found}
use Rattle.search.specs.declared.Outcome.{Outcome}
use Rattle.search.specs.declared.Outcome.TheVariants.{Found}
use Rattle.search.proofs.Reporting.{lay_front}
use Rattle.first.specs.Settling.{history_of, Within, Holds, FewestFound, CanSettle, Settled}
use Rattle.first.specs.declared.History.{History}
use Rattle.first.proofs.Histories.{history_length}
use Rattle.first.proofs.Asking.{ends_length}

module _ {s entries : List ℕ} {o : Outcome} (F : FewestFound s entries o) where
  abbrev Meaning : Verdict → Type 0
  Meaning v = MeansFewest (Goes (world_of s)) (Ends (world_of s)) (bound_of s) (first_of s) v

  -- a plan: its number of transitions is the fewest, and none of its entries is settled yet
  pub fewest_first : (n t : ℕ) → o ≡ Found n t → length entries ≡ 64 → bound_of s ≤ 64 → CanSettle s t × Settled s t 0 (record { entries = entries; n = n })
  fewest_first n t e long small = go F.verdict F.holds F.means
    where
      go : (v : Verdict) → Holds entries o v → Meaning v → CanSettle s t × Settled s t 0 (record { entries = entries; n = n })
      go (plan h u) (q, z) m =
          let y : Found n t ≡ Found (length h) u = sym e ∙ q in
          let yn : n ≡ length h = cc in
          let yt : u ≡ t = cc in
          let f : RunOf s (take n entries) t = subst (λ (g : List ℕ). RunOf s g t) (sym (ap (λ (k : ℕ). take k entries) yn ∙ z)) (subst (RunOf s h) yt m.plan) in
          let w = m.within in (
            record { bounded = omega arith; fewest = subst (λ (k : ℕ). NoneBelow (Goes (world_of s)) (Ends (world_of s)) k (first_of s)) yt m.none_below },
            record {
              within = record { places = long; few = omega (arith, ends_length s u h m.plan) };
              grown = grown_none (Goes (world_of s)) (Ends (world_of s)) t (first_of s) (take n entries) f;
            },
          )
      go nothing q m = absurd (true≢false (sym (ap is_found e) ∙ ap is_found q))
      go more q m = absurd (true≢false (sym (ap is_found e) ∙ ap is_found q))

  -- no plan: that is the verdict
  pub none_told : (trace : List ℕ) → is_found o ≡ false → Reported 0 0 trace trace o (verdict_of s)
  none_told trace e = go F.verdict F.holds F.means
    where
      go : (v : Verdict) → Holds entries o v → Meaning v → Reported 0 0 trace trace o (verdict_of s)
      go (plan h t) (q, l) m = absurd (true≢false (sym (ap is_found q) ∙ e))
      go nothing q m = record { says = subst (ReportsVerdict 0 0 trace trace o) (verdict_is s nothing m) (q, refl) }
      go more q m = record { says = subst (ReportsVerdict 0 0 trace trace o) (verdict_is s more m) (q, refl) }

-- the first plan has room in a trace that is as long as the bound
pub first_short : (s : List ℕ) {t : ℕ} (h : History) (m : ℕ) → FirstPlan s (history_of h) t → Within h → bound_of s ≤ m → h.n ≤ m
first_short s {t} h m F W l = omega (arith, history_length h W, ends_length s t (history_of h) F.plan, F.within)

-- and is told when it is handed out
pub first_told :
    (s : List ℕ) {trace trace' : List ℕ} {t : ℕ} (h : History) → FirstPlan s (history_of h) t → Within h → h.n ≤ length trace → trace' ≡ history_of h ++ drop h.n trace
    → Reported 0 0 trace trace' (Found h.n t) (verdict_of s)
first_told s {trace} {trace'} {t} h F W l e =
    let n = history_length h W in
    record {
      says =
          subst (ReportsVerdict 0 0 trace trace' (Found h.n t)) (verdict_is s (plan (history_of h) t) F) (
            ap₂ Found (omega arith) (omega arith),
            e ∙ ap (λ (k : ℕ). history_of h ++ drop k trace) (sym n) ∙ sym (lay_front (history_of h) trace (omega arith)),
          );
    }
