-- Going through transitions in listed order: those of what stands in a frame are the definition's, the one at a cursor comes first, behind
-- it are those from the cursor after it, and none is ahead exactly of a cursor that is spent. Assumes nothing.
use Rattle.std.proofs.Common.{◌≡◌, ℕ, zero, suc, ◌+◌, ◌-◌, ◌≤◌, leb, List, [], ◌∷◌, map, length, drop, sym, ap, ◌∙◌, subst, add-one, arith, length-drop, drop_of_length-le, le-leb}
use mathlib.Core.Option.{some}
use borrow.Author.Tests.{lt-leb}
use lib.ListN.{get_elem?, length-map}
use Rattle.sheet.specs.Check.{Accepts}
use Rattle.golog.specs.declared.State.{State}
use Rattle.golog.specs.World.{after}
use Rattle.golog.specs.Prog.{Prog}
use Rattle.golog.specs.Transitions.{Configuration, Transition, is_none, transitions}
use Rattle.remaining.specs.Rest.{Rest, unfolded}
use Rattle.remaining.specs.Leaves.{RestTransition, rest_transitions}
use Rattle.remaining.proofs.Same.{rest_steps}
use Rattle.demands.specs.Decoded.{world_of}
use Rattle.demands.specs.Compact.{extended_records}
use Rattle.demands.proofs.Compact.{all_lower}
use Rattle.steps.proofs.Nth.{nth_map}
use Rattle.engine.specs.Frames.{Frame}
use Rattle.engine.specs.Going.{transitions_of, Ahead}
use Rattle.engine.specs.declared.Cursor.{Cursor}

-- the k-th member comes first of those from k on
drop_nth : {A : Type 0} (xs : List A) (k : ℕ) {x : A} → get_elem? xs k ≡ some x → drop k xs ≡ x ∷ drop (suc k) xs
drop_nth [] k h = cc
drop_nth (a ∷ xs) zero {x} h = let e : a ≡ x = cc in ap (λ (y : _). y ∷ xs) e
drop_nth (a ∷ xs) (suc k) h = drop_nth xs k h

-- the transitions of a remaining program over the records of a sheet
abbrev pub rest_transitions_of : List ℕ → State → Rest → List RestTransition
rest_transitions_of s st g = rest_transitions (world_of s) st (extended_records s) g

-- the transition that one of them stands for
abbrev pub transition_of : List ℕ → State → RestTransition → Transition
transition_of s st x = (x.0, (unfolded (extended_records s) x.1, after (world_of s) x.0 st))

module _ {s w : List ℕ} {left d : ℕ} {p : Prog} (accepted : Accepts s) (F : Frame s left w d p) (st : State) where
  pub listed : map (transition_of s st) (rest_transitions_of s st F.rest) ≡ transitions_of s (p, st)
  listed = rest_steps (world_of s) st (extended_records s) (all_lower s accepted) F.rest ∙ ap (λ (q : Prog). transitions (world_of s) q st) F.stands_for

  pub listed_length : length (rest_transitions_of s st F.rest) ≡ length (transitions_of s (p, st))
  listed_length = sym (length-map (rest_transitions_of s st F.rest) (transition_of s st)) ∙ ap length listed

  pub listed_nth : (k : ℕ) (x : RestTransition) → get_elem? (rest_transitions_of s st F.rest) k ≡ some x → get_elem? (transitions_of s (p, st)) k ≡ some (transition_of s st x)
  listed_nth k x h = subst (λ (xs : List Transition). get_elem? xs k ≡ some (transition_of s st x)) listed (nth_map (transition_of s st) (rest_transitions_of s st F.rest) k h)

module _ {s : List ℕ} {c : Configuration} {k : Cursor} where
  ahead_length : {xs : List Transition} → Ahead s c k xs → length xs ≡ k.end - k.next
  ahead_length A = ap length A.ahead_are ∙ length-drop k.next (transitions_of s c) ∙ ap (λ (n : ℕ). n - k.next) (sym A.end_is)

  pub spent_is : (xs : List Transition) → Ahead s c k xs → leb k.end k.next ≡ is_none xs
  spent_is [] A = le-leb k.end k.next (omega (arith, ahead_length A))
  spent_is (x ∷ xs) A = lt-leb k.end k.next (omega (arith, ahead_length A))

  module _ {xs : List Transition} (A : Ahead s c k xs) where
    pub ahead_none : k.end ≤ k.next → xs ≡ []
    ahead_none h = A.ahead_are ∙ drop_of_length-le (transitions_of s c) {i = k.next} (omega (arith, A.end_is))

    -- the transition at the cursor comes first
    pub ahead_next : (x : Transition) → get_elem? (transitions_of s c) k.next ≡ some x → xs ≡ x ∷ drop (k.next + 1) (transitions_of s c)
    ahead_next x h =
        A.ahead_are ∙ drop_nth (transitions_of s c) k.next h ∙ ap (λ (n : ℕ). x ∷ drop n (transitions_of s c)) (sym (add-one k.next))
