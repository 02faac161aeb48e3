-- Configurations with the same remaining program, in states that agree on fluents which decide what formulas say, are alike (document 02, F-5):
-- every formula says the same in both, so an action is as possible, and performing it keeps the agreement. Assumes nothing.
use Prim.Native.Nat.{ℕ, zero, suc}
use native.Mathlib.Omega.{arith}
use mathlib.Core.Bool.{Bool, true, false, not, cond, ◌&&◌, ◌||◌}
use mathlib.Core.List.{List, [], ◌∷◌, map}
use mathlib.Core.Option.{none, some}
use mathlib.Core.Path.{◌≡◌, refl, ap, ap₂, subst, fun_ext}
use lib.Dec.{eqb}
use lib.ListN.{get_or, length}
use Rattle.records.proofs.Some.{some_same}
use Rattle.runs.specs.Alike.{Alike}
use Rattle.runs.proofs.Alikes.{Rows, by_moves, rows_one, rows_append, rows_map, rows_only}
use Rattle.golog.specs.declared.State.{State}
use Rattle.golog.specs.World.{World, holds, start, special, possible_by, given, each, changed, perform_by, says_in, possible, perform}
use Rattle.golog.specs.Prog.{Prog, nil, act, test, sequence, choice, together, over, star, iteration, if_then_else, while, interrupt, pick}
use Rattle.golog.specs.Transitions.{Transition, on_prog, is_none, lists_from, final, transitions}
use Rattle.golog.specs.Agree.{Agree, Covers, AgreeAt}
use Rattle.golog.proofs.Moves.{length_each}

each_agree : (f : ℕ → ℕ → ℕ) (x : ℕ) (v w : List ℕ) → length v ≡ length w → (i : ℕ) → get_or v i 0 ≡ get_or w i 0 → get_or (each f x v) i 0 ≡ get_or (each f x w) i 0
unfolding each
each_agree f x [] [] l i e = e
each_agree f x [] (z ∷ w) l i e = absurd (omega arith)
each_agree f x (y ∷ v) [] l i e = absurd (omega arith)
each_agree f x (y ∷ v) (z ∷ w) l zero e = ap (f x) e
each_agree f x (y ∷ v) (z ∷ w) l (suc i) e = each_agree f (suc x) v w (omega arith) i e

module _ (set : ℕ → Bool) (W : World) (covers : Covers set W) where
  module _ (s s' : State) (g : Agree set s s') where
    holds_agree : (q : ℕ) → holds W q s ≡ holds W q s'
    holds_agree = covers s s' g.same

    says_agree : says_in W s ≡ says_in W s'
    says_agree = fun_ext holds_agree

    possible_agree : (a : ℕ) → possible W a s ≡ possible W a s'
    possible_agree a = ap (λ says. possible_by says W.size W.effect W.action a) says_agree

    -- performing an action keeps the agreement
    pub perform_agree : (a : ℕ) → Agree set (perform W a s) (perform W a s')
    unfolding perform_by changed
    perform_agree a = subst (λ says. Agree set (perform W a s) (perform_by says W.effect W.action a s')) says_agree (go (special a))
      where
        f : ℕ → ℕ → ℕ
        f x old = given (says_in W s) W.effect x old (W.action a).first (W.action a).count

        go :
            (b : Bool)
            → Agree set (record { values = cond b s.values (each f 0 s.values); running = cond b (eqb a start) s.running })
            (record { values = cond b s'.values (each f 0 s'.values); running = cond b (eqb a start) s'.running })
        go true = record { same = g.same; places = g.places; runs = refl }
        go false = record {
          same = λ x t. each_agree f 0 s.values s'.values g.places x (g.same x t);
          places = rw (length_each f 0 s.values, length_each f 0 s'.values) g.places;
          runs = g.runs;
        }

    final_agree : (p : Prog) → final W p s ≡ final W p s'
    unfolding final
    final_agree nil = refl
    final_agree (act a) = refl
    final_agree (test q) = refl
    final_agree (sequence a b) = ap₂ ◌&&◌ (final_agree a) (final_agree b)
    final_agree (choice a b) = ap₂ ◌||◌ (final_agree a) (final_agree b)
    final_agree (star a) = refl
    final_agree (if_then_else q a b) = rw (holds_agree q, final_agree a, final_agree b)
    final_agree (while q a) = rw (holds_agree q, final_agree a)
    final_agree (together a b) = ap₂ ◌&&◌ (final_agree a) (final_agree b)
    final_agree (over a b) = ap₂ ◌&&◌ (final_agree a) (final_agree b)
    final_agree (iteration a) = refl
    final_agree (interrupt q a) = rw (holds_agree q, final_agree a, g.runs)
    final_agree (pick n f) = some_same (λ (v : ℕ). final W (f v) s) (λ (v : ℕ). final W (f v) s') n 0 (λ v l. final_agree (f v))

    around : (f : Prog → Prog) {xs ys : List Transition} → Rows (AgreeAt set) xs ys → Rows (AgreeAt set) (map (on_prog f) xs) (map (on_prog f) ys)
    around f = rows_map (λ c. (f c.0, c.1)) (λ c d r. (ap f r.0, r.1))

    none_agree : {xs ys : List Transition} → Rows (AgreeAt set) xs ys → is_none xs ≡ is_none ys
    none_agree = by_moves (λ xs ys. is_none xs ≡ is_none ys) refl (λ x y xs ys e r h. refl)

    lists_agree : (f h : ℕ → List Transition) → ((v : ℕ) → Rows (AgreeAt set) (f v) (h v)) → (k i : ℕ) → Rows (AgreeAt set) (lists_from f i k) (lists_from h i k)
    unfolding lists_from
    lists_agree f h r zero i = record { same = tt }
    lists_agree f h r (suc k) i = rows_append (r i) (lists_agree f h r k (suc i))

    rows_agree : (p : Prog) → Rows (AgreeAt set) (transitions W p s) (transitions W p s')
    unfolding transitions
    rows_agree nil = record { same = tt }
    rows_agree (act a) = rows_only (possible_agree a) (rows_one (some a) (nil, perform W a s) (nil, perform W a s') (refl, perform_agree a))
    rows_agree (test q) = rows_only (holds_agree q) (rows_one none (nil, s) (nil, s') (refl, g))
    rows_agree (sequence a b) = rows_append (around (λ x. sequence x b) (rows_agree a)) (rows_only (final_agree a) (rows_agree b))
    rows_agree (choice a b) = rows_append (rows_agree a) (rows_agree b)
    rows_agree (star a) = around (λ x. sequence x (star a)) (rows_agree a)
    rows_agree (if_then_else q a b) =
        rows_append (rows_only (holds_agree q) (rows_agree a)) (rows_only (ap not (holds_agree q)) (rows_agree b))
    rows_agree (while q a) = around (λ x. sequence x (while q a)) (rows_only (holds_agree q) (rows_agree a))
    rows_agree (together a b) = rows_append (around (λ x. together x b) (rows_agree a)) (around (λ x. together a x) (rows_agree b))
    rows_agree (over a b) =
        rows_append (around (λ x. over x b) (rows_agree a))
        (around (λ x. over a x) (rows_only (none_agree (rows_agree a)) (rows_agree b)))
    rows_agree (iteration a) = around (λ x. together x (iteration a)) (rows_agree a)
    rows_agree (interrupt q a) =
        around (λ x. sequence x (interrupt q a)) (rows_only (ap₂ ◌&&◌ g.runs (holds_agree q)) (rows_agree a))
    rows_agree (pick n f) = lists_agree (λ (v : ℕ). transitions W (f v) s) (λ (v : ℕ). transitions W (f v) s') (λ v. rows_agree (f v)) n 0

  -- so configurations with the same remaining program are alike
  pub alike : Alike (AgreeAt set) (λ c. transitions W c.0 c.1) (λ c. final W c.0 c.1)
  alike (p, s) (p', s') (e, g) = rw e (final_agree s s' g p', (rows_agree s s' g p').same)
