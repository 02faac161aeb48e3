-- `final` decides the paper's Final, and `steps` lists exactly its Trans: each clause of the one is built from the same parts as the
-- clause of the other, `&&` for `×`, `||` and `++` for `⊎`, `only` for a premise, `map` for ∃, and a range of values for ∃ below a number,
-- so both go by induction on the program, with one law for each pair. Assumes nothing.
use Prim.Native.Nat.{ℕ, zero, suc, ◌<◌}
use native.Mathlib.Omega.{arith}
use mathlib.Core.Bool.{Bool, true, false, not, ◌&&◌}
use mathlib.Core.List.Memᴰ
use mathlib.Core.List.{List, [], ◌∷◌, map, Memᴰ}
use mathlib.Core.Logic.Iff
use mathlib.Core.Logic.{◌⊎◌, inl, inr, ◌↔◌}
use mathlib.Core.Option.{Option, none, some}
use mathlib.Core.Path.{◌≡◌, refl, ap, ◌∙◌}
use lib.Dec.{T}
use Rattle.records.specs.Some.{InRange}
use Rattle.records.proofs.Some.{some_iff, range_more}
use Rattle.runs.proofs.Tests.{and_iff, or_iff, only_iff, append_iff}
use Rattle.golog.proofs.Tests.{same, not_iff}
use Rattle.golog.specs.declared.State.{State}
use Rattle.golog.specs.World.{World, holds, possible, perform}
use Rattle.golog.specs.Prog.{Prog, nil, act, test, sequence, choice, together, over, star, iteration, if_then_else, while, interrupt, pick}
use Rattle.runs.specs.Guide.{only}
use Rattle.golog.specs.Transitions.{Transition, on_prog, is_none, lists_from, final, transitions}
use Rattle.golog.specs.Trans.{Final, Trans}

-- membership in a list of transitions
one_iff : (m n : Option ℕ) (p q : Prog) (t u : State) (b : Bool) → Memᴰ {A = Transition} (m, (p, t)) (only b ((n, (q, u)) ∷ [])) ↔ (T b × (m ≡ n) × (p ≡ q) × (t ≡ u))
one_iff m n p q t u true = (
  λ h. let e = Memᴰ.eq_of_singleton h in (tt, ap (λ (x : Transition). x.0) e, ap (λ (x : Transition). x.1.0) e, ap (λ (x : Transition). x.1.1) e),
  λ h. Memᴰ.head (λ i. (h.1 i, (h.2 i, h.3 i))),
)
one_iff m n p q t u false = (λ h. absurd (Memᴰ.not-nil h), λ h. absurd h.0)

mapped_in : (f : Prog → Prog) (m : Option ℕ) (p : Prog) (t : State) (xs : List Transition) → Memᴰ (m, (p, t)) (map (on_prog f) xs)
    → (g : Prog) × (p ≡ f g) × Memᴰ (m, (g, t)) xs
mapped_in f m p t [] h = absurd (Memᴰ.not-nil h)
mapped_in f m p t (x ∷ xs) h = go (λ k. mapped_in f m p t xs k) (Memᴰ.cases_cons h)
  where
    go : (Memᴰ (m, (p, t)) (map (on_prog f) xs) → (g : Prog) × (p ≡ f g) × Memᴰ (m, (g, t)) xs) →
        (◌≡◌ {A = Transition} (m, (p, t)) (on_prog f x)) ⊎ Memᴰ (m, (p, t)) (map (on_prog f) xs) →
        (g : Prog) × (p ≡ f g) × Memᴰ (m, (g, t)) (x ∷ xs)
    go rec (inl e) = (x.1.0, ap (λ (z : Transition). z.1.0) e, Memᴰ.head (λ i. ((e i).0, (x.1.0, (e i).1.1))))
    go rec (inr k) = let r = rec k in (r.0, r.1, Memᴰ.tail r.2)

mapped_out : (f : Prog → Prog) (m : Option ℕ) (p g : Prog) (t : State) → p ≡ f g → {xs : List Transition} → Memᴰ (m, (g, t)) xs → Memᴰ (m, (p, t)) (map (on_prog f) xs)
mapped_out f m p g t q (Memᴰ.head e) = Memᴰ.head (λ i. ((e i).0, ((q ∙ ap (λ (z : Transition). f z.1.0) e) i, (e i).1.1)))
mapped_out f m p g t q (Memᴰ.tail k) = Memᴰ.tail (mapped_out f m p g t q k)

map_iff : {R : Prog → Type 0} (f : Prog → Prog) (m : Option ℕ) (p : Prog) (t : State) (xs : List Transition) → ((g : Prog) → Memᴰ (m, (g, t)) xs ↔ R g) →
    Memᴰ (m, (p, t)) (map (on_prog f) xs) ↔ ((g : Prog) × (p ≡ f g) × R g)
map_iff f m p t xs h = (λ k. let r = mapped_in f m p t xs k in (r.0, r.1, (h r.0).0 r.2), λ k. mapped_out f m p k.0 t k.1 ((h k.0).1 k.2))

none_iff : {R : Option ℕ → Prog → State → Type 0} (xs : List Transition) → ((m : Option ℕ) (g : Prog) (t : State) → Memᴰ (m, (g, t)) xs ↔ R m g t) →
    T (is_none xs) ↔ ((m : Option ℕ) (g : Prog) (t : State) → ¬ R m g t)
none_iff [] h = (λ k m g t r. Memᴰ.not-nil ((h m g t).1 r), λ k. tt)
none_iff (x ∷ xs) h = (λ k. absurd k, λ k. k x.0 x.1.0 x.1.1 ((h x.0 x.1.0 x.1.1).0 (Memᴰ.head refl)))

-- in one of the lists of a range
lists_iff :
    {R : ℕ → Type 0} {x : Transition} (f : ℕ → List Transition) → ((v : ℕ) → Memᴰ x (f v) ↔ R v) → (k i : ℕ)
    → Memᴰ x (lists_from f i k) ↔ ((v : ℕ) × InRange i k v × R v)
unfolding lists_from
lists_iff f h zero i = (λ m. absurd (Memᴰ.not-nil m), λ (v, (l, m), r). absurd (omega arith))
lists_iff {R} f h (suc k) i = Iff.trans (append_iff (f i) (lists_from f (suc i) k) (h i) (lists_iff f h k (suc i))) (range_more R k i)

-- below a number
below_iff : {R : ℕ → Type 0} (n : ℕ) → ((v : ℕ) × InRange 0 n v × R v) ↔ ((v : ℕ) × (v < n) × R v)
below_iff n = (λ (v, (l, m), r). (v, omega arith, r), λ (v, l, r). (v, (omega arith, omega arith), r))

pub final_exact : (W : World) (p : Prog) (s : State) → T (final W p s) ↔ Final W p s
unfolding final Final
final_exact W nil s = same (Unit {0})
final_exact W (act a) s = same ⊥
final_exact W (test q) s = same ⊥
final_exact W (sequence a b) s = and_iff (final W a s) (final W b s) (final_exact W a s) (final_exact W b s)
final_exact W (choice a b) s = or_iff (final W a s) (final W b s) (final_exact W a s) (final_exact W b s)
final_exact W (star a) s = same (Unit {0})
final_exact W (if_then_else q a b) s = or_iff (holds W q s && final W a s) (not (holds W q s) && final W b s) (and_iff (holds W q s) (final W a s) (same _) (final_exact W a s))
    (and_iff (not (holds W q s)) (final W b s) (not_iff (holds W q s) (same _)) (final_exact W b s))
final_exact W (while q a) s = or_iff (not (holds W q s)) (final W a s) (not_iff (holds W q s) (same _)) (final_exact W a s)
final_exact W (together a b) s = and_iff (final W a s) (final W b s) (final_exact W a s) (final_exact W b s)
final_exact W (over a b) s = and_iff (final W a s) (final W b s) (final_exact W a s) (final_exact W b s)
final_exact W (iteration a) s = same (Unit {0})
final_exact W (interrupt q a) s = or_iff (not s.running) (holds W q s && final W a s) (not_iff s.running (same _)) (and_iff (holds W q s) (final W a s) (same _) (final_exact W a s))
final_exact W (pick n f) s = Iff.trans (some_iff (λ (v : ℕ). final W (f v) s) (λ v. final_exact W (f v) s) n 0) (below_iff n)

pub steps_exact : (W : World) (q : Prog) (s : State) (m : Option ℕ) (p : Prog) (t : State) → Memᴰ (m, (p, t)) (transitions W q s) ↔ Trans W q s m p t
unfolding transitions Trans
steps_exact W nil s m p t = (λ h. Memᴰ.not-nil h, λ h. absurd h)
steps_exact W (act a) s m p t = one_iff m (some a) p nil t (perform W a s) (possible W a s)
steps_exact W (test q) s m p t = one_iff m none p nil t s (holds W q s)
steps_exact W (sequence a b) s m p t = append_iff _ _ (map_iff (λ (g : Prog). sequence g b) m p t (transitions W a s) (λ g. steps_exact W a s m g t))
    (only_iff (final W a s) (transitions W b s) (final_exact W a s) (steps_exact W b s m p t))
steps_exact W (choice a b) s m p t = append_iff (transitions W a s) (transitions W b s) (steps_exact W a s m p t) (steps_exact W b s m p t)
steps_exact W (star a) s m p t = map_iff (λ (g : Prog). sequence g (star a)) m p t (transitions W a s) (λ g. steps_exact W a s m g t)
steps_exact W (if_then_else q a b) s m p t = append_iff _ _ (only_iff (holds W q s) (transitions W a s) (same _) (steps_exact W a s m p t))
    (only_iff (not (holds W q s)) (transitions W b s) (not_iff (holds W q s) (same _)) (steps_exact W b s m p t))
steps_exact W (while q a) s m p t = map_iff (λ (g : Prog). sequence g (while q a)) m p t _ (λ g. only_iff (holds W q s) (transitions W a s) (same _) (steps_exact W a s m g t))
steps_exact W (together a b) s m p t = append_iff _ _ (map_iff (λ (g : Prog). together g b) m p t (transitions W a s) (λ g. steps_exact W a s m g t))
    (map_iff (λ (g : Prog). together a g) m p t (transitions W b s) (λ g. steps_exact W b s m g t))
steps_exact W (over a b) s m p t = append_iff _ _ (map_iff (λ (g : Prog). over g b) m p t (transitions W a s) (λ g. steps_exact W a s m g t))
    (map_iff (λ (g : Prog). over a g) m p t _ (λ g. only_iff (is_none (transitions W a s)) (transitions W b s) (none_iff (transitions W a s) (λ n z u. steps_exact W a s n z u))
    (steps_exact W b s m g t)))
steps_exact W (iteration a) s m p t = map_iff (λ (g : Prog). together g (iteration a)) m p t (transitions W a s) (λ g. steps_exact W a s m g t)
steps_exact W (interrupt q a) s m p t = map_iff (λ (g : Prog). sequence g (interrupt q a)) m p t _
    (λ g. only_iff (s.running && holds W q s) (transitions W a s) (and_iff s.running (holds W q s) (same _) (same _))
    (steps_exact W a s m g t))
steps_exact W (pick n f) s m p t = Iff.trans (lists_iff (λ (v : ℕ). transitions W (f v) s) (λ v. steps_exact W (f v) s m p t) n 0) (below_iff n)
