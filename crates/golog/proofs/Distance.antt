-- The distance to the end is a lower bound: what is final is at distance 0, and a transition brings the end at most one nearer, since it
-- is made by one part while the other stays, or by the second part of a sequence whose first is final. Assumes nothing.
use Prim.Native.Nat.{ℕ, zero, suc, ◌≤◌, ◌<◌}
use native.Mathlib.Nat.{eq-or-lt_of_le, le_of_suc-le-suc}
use native.Mathlib.Omega.{arith}
use mathlib.Core.Bool.{true}
use mathlib.Core.List.{Memᴰ}
use mathlib.Core.Logic.{inl, inr, ⊎_elim}
use mathlib.Core.Option.{Option}
use mathlib.Core.Path.{◌≡◌, refl, ap}
use lib.Dec.{T}
use Rattle.kinds.specs.Programs.{field_a, field_b, has_a, has_b, picks, distance_of}
use Rattle.kinds.proofs.ProgramKinds.{by_kind, record_of}
use Rattle.golog.specs.declared.State.{State}
use Rattle.golog.specs.World.{World}
use Rattle.golog.specs.Prog.{Prog, nil, act, test, sequence, choice, together, over, star, iteration, if_then_else, while, interrupt, pick, construct}
use Rattle.golog.specs.Trans.{Final, Trans}
use Rattle.golog.specs.Transitions.{Transition, final, transitions}
use Rattle.golog.specs.Distance.{least_below, distance}
use Rattle.golog.proofs.Exact.{final_exact, steps_exact}

-- the least is below each, and above what is below all
least_below_lem : (f : ℕ → ℕ) (n v : ℕ) → v < n → least_below f n ≤ f v
unfolding least_below
least_below_lem f zero v l = absurd (omega arith)
least_below_lem f (suc n) v l = ⊎_elim (λ e. omega (arith, ap f e)) (λ l. omega (arith, least_below_lem f n v l)) (eq-or-lt_of_le (le_of_suc-le-suc l))

least_above : (f : ℕ → ℕ) (d n : ℕ) → ((v : ℕ) → d ≤ f v) → d ≤ least_below f n
unfolding least_below
least_above f d zero h = h 0
least_above f d (suc n) h = omega (arith, h n, least_above f d n h)

-- by the paper's axioms
module _ (W : World) where
  ended : (p : Prog) (s : State) → Final W p s → distance p ≡ 0
  unfolding Final distance
  ended nil s f = refl
  ended (act a) s f = absurd f
  ended (test q) s f = absurd f
  ended (sequence a b) s (f, g) = omega (arith, ended a s f, ended b s g)
  ended (choice a b) s (inl f) = omega (arith, ended a s f)
  ended (choice a b) s (inr f) = omega (arith, ended b s f)
  ended (star a) s f = refl
  ended (if_then_else q a b) s (inl (h, f)) = omega (arith, ended a s f)
  ended (if_then_else q a b) s (inr (h, f)) = omega (arith, ended b s f)
  ended (while q a) s f = refl
  ended (together a b) s (f, g) = omega (arith, ended a s f, ended b s g)
  ended (over a b) s (f, g) = omega (arith, ended a s f, ended b s g)
  ended (iteration a) s f = refl
  ended (interrupt q a) s f = refl
  ended (pick n f) s (v, l, e) = omega (arith, least_below_lem (λ v. distance (f v)) n v l, ended (f v) s e)

  nearer : (p : Prog) (s : State) (m : Option ℕ) (q : Prog) (t : State) → Trans W p s m q t → distance p ≤ suc (distance q)
  unfolding Trans distance
  nearer nil s m q t st = absurd st
  nearer (act a) s m q t st = omega arith
  nearer (test c) s m q t st = omega arith
  nearer (sequence a b) s m q t (inl (g, e, st)) = omega (arith, ap distance e, nearer a s m g t st)
  nearer (sequence a b) s m q t (inr (f, st)) = omega (arith, ended a s f, nearer b s m q t st)
  nearer (choice a b) s m q t (inl st) = omega (arith, nearer a s m q t st)
  nearer (choice a b) s m q t (inr st) = omega (arith, nearer b s m q t st)
  nearer (star a) s m q t st = omega arith
  nearer (if_then_else c a b) s m q t (inl (h, st)) = omega (arith, nearer a s m q t st)
  nearer (if_then_else c a b) s m q t (inr (h, st)) = omega (arith, nearer b s m q t st)
  nearer (while c a) s m q t st = omega arith
  nearer (together a b) s m q t (inl (g, e, st)) = omega (arith, ap distance e, nearer a s m g t st)
  nearer (together a b) s m q t (inr (g, e, st)) = omega (arith, ap distance e, nearer b s m g t st)
  nearer (over a b) s m q t (inl (g, e, st)) = omega (arith, ap distance e, nearer a s m g t st)
  nearer (over a b) s m q t (inr (g, e, (idle, st))) = omega (arith, ap distance e, nearer b s m g t st)
  nearer (iteration a) s m q t st = omega arith
  nearer (interrupt c a) s m q t st = omega arith
  nearer (pick n f) s m q t (v, l, st) = omega (arith, least_below_lem (λ v. distance (f v)) n v l, nearer (f v) s m q t st)

  -- and so by what is computed
  pub final_near : (p : Prog) (s : State) → final W p s ≡ true → distance p ≡ 0
  final_near p s e = ended p s ((final_exact W p s).0 (rw e tt))

  pub step_near : (p : Prog) (s : State) (x : Transition) → Memᴰ x (transitions W p s) → distance p ≤ suc (distance x.1.0)
  step_near p s x k = nearer p s x.0 x.1.0 x.1.1 ((steps_exact W p s x.0 x.1.0 x.1.1).0 k)

-- kind by kind, what the columns say is a lower bound, where it is one of the parts that the kind has, with each value
pub construct_near :
    (kind a b c : ℕ) (P Q : Prog) (F : ℕ → Prog) (da db : ℕ)
    → (T (has_a kind) → da ≤ distance P) → (T (has_b kind) → db ≤ distance Q) → (T (picks kind) → (v : ℕ) → db ≤ distance (F v))
    → distance_of kind da db ≤ distance (construct (record_of kind a b c) P Q F)
unfolding construct distance distance_of field_a field_b
construct_near kind a b c P Q F da db =
    by_kind
    (λ (k : ℕ). (T (has_a k) → da ≤ distance P) → (T (has_b k) → db ≤ distance Q) → (T (picks k) → (v : ℕ) → db ≤ distance (F v))
    → distance_of k da db ≤ distance (construct (record_of k a b c) P Q F))
    (λ p q r. omega arith) (λ p q r. omega arith) (λ p q r. omega arith) (λ p q r. omega (arith, p tt, q tt)) (λ p q r. omega (arith, p tt, q tt))
    (λ p q r. omega arith) (λ p q r. omega (arith, p tt, q tt)) (λ p q r. omega arith) (λ p q r. omega (arith, p tt, q tt)) (λ p q r. omega (arith, p tt, q tt))
    (λ p q r. omega arith) (λ p q r. omega arith) (λ p q r. least_above (λ v. distance (F v)) db a (r tt)) (λ k p q r. omega arith) kind
