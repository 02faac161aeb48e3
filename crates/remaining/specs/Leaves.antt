-- Own vocabulary: finality and transitions of a remaining program. A record's are made upwards, of those of its parts, by one shape for all
-- kinds but the choice of a value: its own transition, then those of a, then those of b, each under a condition and in a construct. A choice
-- has those of its part b with each value. That they are golog's is proved in proofs/Same.antt. Assumes nothing.
use Rattle.std.specs.Prelude.{ℕ, Bool, true, cond, ◌&&◌, List, [], ◌∷◌, ◌++◌, map, eqb, get_or}
use Rattle.std.proofs.Math.Option.{Option, none, some}
use Rattle.records.specs.declared.Program.{Program}
use Rattle.records.specs.Table.{entry_of}
use Rattle.records.specs.Some.{some_from}
use Rattle.records.specs.Placeholders.{put_in}
use Rattle.kinds.specs.Programs.{acts, picks, final_of, own_of, uses_a, uses_b, tag_a, loops, tag_b}
use Rattle.golog.specs.declared.State.{State}
use Rattle.golog.specs.World.{World, holds, possible, after}
use Rattle.runs.specs.Guide.{only}
use Rattle.golog.specs.Transitions.{is_none, lists_from}
use Rattle.remaining.specs.Rest.{Rest, gone, leaf, node}

-- a transition: the move, none for a test, and what it leaves. The move gives the state
abbrev pub RestTransition : Type 0
RestTransition = Option ℕ × Rest

-- the same move, leaving f of what it left
abbrev pub on_rest : (Rest → Rest) → RestTransition → RestTransition
on_rest f x = (x.0, f x.1)

-- what a transition of a part leaves, in a construct with a record beside it
abbrev pub wrap_a : (tag sibling : ℕ) → Rest → Rest
wrap_a tag sibling g = cond (eqb tag 0) g (node tag g (leaf sibling))

abbrev pub wrap_b : (tag sibling : ℕ) → Rest → Rest
wrap_b tag sibling g = cond (eqb tag 0) g (node tag (leaf sibling) g)

-- one record in a state: whether it is final, and its transitions in listed order
pub record Leaf : Type 0 where
  pub final : Bool
  pub transitions : List RestTransition

-- kind 0, nil: what is read where a record names no lower one
abbrev pub nil_leaf : Leaf
nil_leaf = record { final = true; transitions = [] }

-- the move of a record's own transition: that of an act, none of a test
abbrev pub own_move : Program → Option ℕ
own_move r = cond (acts r.kind) (some r.a) none

-- what stands beside what a leaves: the record itself, or its part b
abbrev pub sibling_a : Program → ℕ → ℕ
sibling_a r i = cond (loops r.kind) i r.b

-- record r, number i, given its parts A and B
unfoldable pub leaf_with : World → State → Program → ℕ → (A B : Leaf) → Leaf
leaf_with W s r i A B = record {
  final = final_of r.kind A.final B.final (holds W r.c s) s.running;
  transitions =
      only (own_of r.kind (possible W r.a s) (holds W r.a s)) ((own_move r, gone) ∷ [])
      ++ (map (on_rest (wrap_a (tag_a r.kind) (sibling_a r i))) (only (uses_a r.kind (holds W r.c s) s.running) A.transitions)
      ++ map (on_rest (wrap_b (tag_b r.kind) r.a)) (only (uses_b r.kind A.final (holds W r.c s) (is_none A.transitions)) B.transitions));
}

-- a choice between n values, given what each makes of its part: final where one is, the transitions for smaller values first
unfoldable pub pick_leaf : (n : ℕ) → (F : ℕ → Leaf) → Leaf
pick_leaf n F = record { final = some_from (λ (v : ℕ). (F v).final) 0 n; transitions = lists_from (λ (v : ℕ). (F v).transitions) 0 n }

-- record r, number i, given the records that it names
abbrev pub leaf_for : World → State → Program → ℕ → (L : ℕ → Leaf) → Leaf
leaf_for W s r i L = cond (picks r.kind) (pick_leaf r.a (λ (v : ℕ). L (put_in r.b r.c v))) (leaf_with W s r i (L r.a) (L r.b))

-- record i of the table p, given the lower ones
abbrev pub leaf_at : World → State → (ℕ → Program) → ℕ → (lower : List Leaf) → Leaf
leaf_at W s p i lower = leaf_for W s (p i) i (λ (n : ℕ). get_or lower n nil_leaf)

-- record i of the table p
unfoldable pub leaf_of : World → State → (ℕ → Program) → ℕ → Leaf
leaf_of W s p i = entry_of nil_leaf (leaf_at W s p) i

-- document 01, "Steps and endings", 3, 8, 9: "Final if both are"
unfoldable pub rest_final : World → State → (ℕ → Program) → Rest → Bool
rest_final W s p gone = true
rest_final W s p (leaf i) = (leaf_of W s p i).final
rest_final W s p (node tag l r) = rest_final W s p l && rest_final W s p r

-- the right part goes: after the left one is final (3), always (8), where the left one has no step (9)
abbrev pub goes_right : (tag : ℕ) (final idle : Bool) → Bool
goes_right tag final idle = cond (eqb tag 3) final (cond (eqb tag 8) true idle)

-- what it leaves: alone (3), or still beside the left one
abbrev pub wrap_right : (tag : ℕ) → (l g : Rest) → Rest
wrap_right tag l g = cond (eqb tag 3) g (node tag l g)

-- those of the left part, then those of the right one
unfoldable pub rest_transitions : World → State → (ℕ → Program) → Rest → List RestTransition
rest_transitions W s p gone = []
rest_transitions W s p (leaf i) = (leaf_of W s p i).transitions
rest_transitions W s p (node tag l r) =
    map (on_rest (λ (g : Rest). node tag g r)) (rest_transitions W s p l)
    ++ map (on_rest (wrap_right tag l)) (only (goes_right tag (rest_final W s p l) (is_none (rest_transitions W s p l))) (rest_transitions W s p r))

-- document 01: "A configuration is a remaining program and the values", as it is held
abbrev pub Compact : Type 0
Compact = Rest × State

-- its transitions, and whether it is final
abbrev pub compact_transitions : World → (ℕ → Program) → Compact → List (Option ℕ × Compact)
compact_transitions W p c = map (λ (x : RestTransition). (x.0, (x.1, after W x.0 c.1))) (rest_transitions W c.1 p c.0)

abbrev pub compact_final : World → (ℕ → Program) → Compact → Bool
compact_final W p c = rest_final W c.1 p c.0
