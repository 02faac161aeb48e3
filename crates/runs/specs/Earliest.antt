-- Own vocabulary: the first plan computed: of each number of transitions the least history, by the least of what follows each transition;
-- and then the fewest transitions. That it is the first plan is proved in proofs/Firsts.antt. Assumes nothing.
use Rattle.std.specs.Prelude.{ℕ, zero, suc, Bool, true, false, cond, ◌&&◌, ◌||◌, List, [], ◌∷◌, ltb, eqb}
use Rattle.std.proofs.Math.Option.{Option, none, some}
use Rattle.runs.specs.Runs.{add, NoneAtAll, NoneWithin}
use Rattle.runs.specs.Search.{Verdict, plan, nothing, more, search}
use Rattle.runs.specs.First.{IsFirst}

-- the order of histories as a test
abbrev pub at_most : List ℕ → List ℕ → Bool
at_most [] g = true
at_most (a ∷ h) [] = false
at_most (a ∷ h) (b ∷ g) = ltb a b || (eqb a b && at_most h g)

-- the lesser of two histories, of which there may be none
abbrev pub lesser : Option (List ℕ) → Option (List ℕ) → Option (List ℕ)
lesser none o = o
lesser (some h) none = some h
lesser (some h) (some g) = some (cond (at_most h g) h g)

-- a transition's move in front of what follows it
abbrev pub onto : Option ℕ → Option (List ℕ) → Option (List ℕ)
onto m none = none
onto m (some h) = some (add m h)

-- the least over the transitions of a list; f is the least from where each leads
abbrev pub least_of : {C : Type 0} → (C → Option (List ℕ)) → List (Option ℕ × C) → Option (List ℕ)
least_of f [] = none
least_of f (x ∷ xs) = lesser (onto x.0 (f x.1)) (least_of f xs)

-- a final configuration has the history of no moves
abbrev pub if_final : Bool → Option (List ℕ)
if_final true = some []
if_final false = none

-- the plan with this history, where there is one, and v where there is none
abbrev pub or_else : Option (List ℕ) → (t : ℕ) → Verdict → Verdict
or_else none t v = v
or_else (some h) t v = plan h t

module _ {C : Type 0} (transitions : C → List (Option ℕ × C)) (final : C → Bool) where
  -- the least history of the runs of exactly t transitions that end final
  abbrev pub least_at : (t : ℕ) → C → Option (List ℕ)
  least_at zero c = if_final (final c)
  least_at (suc t) c = least_of (λ (d : C). least_at t d) (transitions c)

  -- the first plan of t to t + n transitions, and v where there is none
  abbrev pub earliest : (n t : ℕ) → C → Verdict → Verdict
  earliest zero t c v = or_else (least_at t c) t v
  earliest (suc n) t c v = let r = earliest n (suc t) c v in or_else (least_at t c) t r

  -- the first plan within k transitions; without one, the verdict is the search's
  abbrev pub first_plan : (k : ℕ) → C → Verdict
  first_plan k c = earliest k 0 c (search transitions final k c)

module _ {C : Type 0} (Trans : C → Option ℕ → C → Type 0) (Ends : C → Type 0) where
  -- what such a verdict on c within k transitions says of runs: "existence is judged as before"
  abbrev pub MeansFirst : ℕ → C → Verdict → Type 0
  MeansFirst k c (plan h t) = IsFirst Trans Ends k c h t
  MeansFirst k c nothing = NoneAtAll Trans Ends k c
  MeansFirst k c more = NoneWithin Trans Ends k c
