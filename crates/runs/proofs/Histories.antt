-- What every move of a run has, every entry of its history has: a history is the moves in order. An invariant of the configurations may
-- say what their moves have. It has no more moves than the run has transitions. Assumes nothing.
use Prim.Native.Nat.{ℕ, zero, suc, ◌≤◌}
use native.Mathlib.Omega.{arith}
use mathlib.Core.List.Memᴰ
use mathlib.Core.List.{List, Memᴰ}
use mathlib.Core.Logic.{⊎_elim}
use mathlib.Core.Option.{Option, none, some}
use mathlib.Core.Path.{◌≡◌, refl, sym, ap, subst}
use lib.ListN.{length}
use Rattle.runs.specs.Runs.{add, Run}

module _ (K : ℕ → Type 0) where
  added : (m : Option ℕ) (r : List ℕ) → ((a : ℕ) → m ≡ some a → K a) → ((e : ℕ) → Memᴰ e r → K e) → (e : ℕ) → Memᴰ e (add m r) → K e
  added none r one rest e k = rest e k
  added (some a) r one rest e k = ⊎_elim (λ q. subst K (sym q) (one a refl)) (rest e) (Memᴰ.cases_cons k)

  module _ {C : Type 0} (Trans : C → Option ℕ → C → Type 0) (I : C → Type 0)
      (kept : (c : C) (m : Option ℕ) (d : C) → I c → Trans c m d → I d × ((a : ℕ) → m ≡ some a → K a)) where
    pub history_has : (n : ℕ) (c : C) (h : List ℕ) (d : C) → I c → Run Trans n c h d → (e : ℕ) → Memᴰ e h → K e
    history_has zero c h d i (q, p) e k = absurd (Memᴰ.not-nil (subst (Memᴰ e) q k))
    history_has (suc n) c h d i (m, x, r, st, q, run) e k =
        let next = kept c m x i st in
        added m r next.1 (history_has n x r d next.0 run) e (subst (Memᴰ e) q k)

-- a history has no more entries than the run has transitions
pub run_length : {C : Type 0} (Trans : C → Option ℕ → C → Type 0) (n : ℕ) (c : C) (h : List ℕ) (d : C) → Run Trans n c h d → length h ≤ n
run_length Trans zero c h d (e, q) = omega (arith, ap length e)
run_length Trans (suc n) c h d (m, e, r, st, q, run) = let k = run_length Trans n e r d run in go m q k
  where
    go : (m : Option ℕ) → h ≡ add m r → length r ≤ n → length h ≤ suc n
    go none q k = omega (arith, ap length q)
    go (some a) q k = omega (arith, ap length q)
