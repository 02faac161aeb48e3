-- What the actions of a program have, those of every remaining program have, and every move has: a transition performs an action of the
-- program, and leaves parts of it. Assumes nothing.
use mathlib.Core.Logic.{inl, inr}
use mathlib.Core.Option.{Option, some}
use mathlib.Core.Path.{◌≡◌, sym, subst}
use Prim.Native.Nat.{ℕ, ◌<◌}
use native.Mathlib.Omega.{arith}
use Rattle.golog.specs.declared.State.{State}
use Rattle.golog.specs.World.{World}
use Rattle.golog.specs.Prog.{Prog, nil, act, test, sequence, choice, together, over, star, iteration, if_then_else, while, interrupt, pick}
use Rattle.golog.specs.Trans.{Trans}

module _ (K : ℕ → Type 0) where
  -- every action that a program names has K
  abbrev pub Acts : Prog → Type 0
  Acts nil = Unit {0}
  Acts (act a) = K a
  Acts (test q) = Unit {0}
  Acts (sequence a b) = Acts a × Acts b
  Acts (choice a b) = Acts a × Acts b
  Acts (together a b) = Acts a × Acts b
  Acts (over a b) = Acts a × Acts b
  Acts (star a) = Acts a
  Acts (iteration a) = Acts a
  Acts (if_then_else q a b) = Acts a × Acts b
  Acts (while q a) = Acts a
  Acts (interrupt q a) = Acts a
  Acts (pick n f) = (v : ℕ) → v < n → Acts (f v)

  -- what a transition leaves, and its move
  abbrev Kept : Option ℕ → Prog → Type 0
  Kept m p = Acts p × ((a : ℕ) → m ≡ some a → K a)

  -- the same around what a part's transition leaves
  around : (f : Prog → Prog) {m : Option ℕ} {p g : Prog} → p ≡ f g → (Acts g → Acts (f g)) → Kept m g → Kept m p
  around f e h (left, move) = (subst Acts (sym e) (h left), move)

  pub acts_kept : (W : World) (p : Prog) (s : State) (m : Option ℕ) (q : Prog) (t : State) → Acts p → Trans W p s m q t → Kept m q
  unfolding Trans
  acts_kept W nil s m q t k st = absurd st
  acts_kept W (act a) s m q t k (can, em, eq, et) = (subst Acts (sym eq) tt, λ b e. let z : a ≡ b = cc in subst K z k)
  acts_kept W (test c) s m q t k (can, em, eq, et) =
      (subst Acts (sym eq) tt, λ b e. let z : ◌≡◌ {A = ℕ} 0 1 = cc in absurd (omega arith))
  acts_kept W (sequence a b) s m q t k (inl (g, e, st)) = around (λ g. sequence g b) e (λ l. (l, k.1)) (acts_kept W a s m g t k.0 st)
  acts_kept W (sequence a b) s m q t k (inr (f, st)) = acts_kept W b s m q t k.1 st
  acts_kept W (choice a b) s m q t k (inl st) = acts_kept W a s m q t k.0 st
  acts_kept W (choice a b) s m q t k (inr st) = acts_kept W b s m q t k.1 st
  acts_kept W (star a) s m q t k (g, e, st) = around (λ g. sequence g (star a)) e (λ l. (l, k)) (acts_kept W a s m g t k st)
  acts_kept W (if_then_else c a b) s m q t k (inl (h, st)) = acts_kept W a s m q t k.0 st
  acts_kept W (if_then_else c a b) s m q t k (inr (h, st)) = acts_kept W b s m q t k.1 st
  acts_kept W (while c a) s m q t k (g, e, (h, st)) = around (λ g. sequence g (while c a)) e (λ l. (l, k)) (acts_kept W a s m g t k st)
  acts_kept W (together a b) s m q t k (inl (g, e, st)) = around (λ g. together g b) e (λ l. (l, k.1)) (acts_kept W a s m g t k.0 st)
  acts_kept W (together a b) s m q t k (inr (g, e, st)) = around (λ g. together a g) e (λ l. (k.0, l)) (acts_kept W b s m g t k.1 st)
  acts_kept W (over a b) s m q t k (inl (g, e, st)) = around (λ g. over g b) e (λ l. (l, k.1)) (acts_kept W a s m g t k.0 st)
  acts_kept W (over a b) s m q t k (inr (g, e, (idle, st))) = around (λ g. over a g) e (λ l. (k.0, l)) (acts_kept W b s m g t k.1 st)
  acts_kept W (iteration a) s m q t k (g, e, st) = around (λ g. together g (iteration a)) e (λ l. (l, k)) (acts_kept W a s m g t k st)
  acts_kept W (interrupt c a) s m q t k (g, e, (h, st)) = around (λ g. sequence g (interrupt c a)) e (λ l. (l, k)) (acts_kept W a s m g t k st)
  acts_kept W (pick n f) s m q t k (v, l, st) = acts_kept W (f v) s m q t (k v l) st
