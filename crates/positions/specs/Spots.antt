-- Own vocabulary: where a transition of a record stands among those that it would have if everything were possible (document 02, F-6): a
-- number with four bits for each level at which more than one part, or more than one value, may go. It needs no state, so a cursor that
-- rises goes through all transitions although their number may be beyond any counter. Assumes nothing.
use Rattle.std.specs.Prelude.{ℕ, ◌+◌, ◌-◌, ◌*◌, ◌^◌, max, Bool, cond, ◌||◌, List, [], ◌∷◌, ◌++◌, map, eqb, ltb, get_or}
use Rattle.records.specs.declared.Program.{Program}
use Rattle.records.specs.Table.{entry_of}
use Rattle.records.specs.Placeholders.{read_in, put_in}
use Rattle.kinds.specs.Programs.{picks, own_of, uses_a, uses_b, tag_a, tag_b}
use Rattle.golog.specs.declared.State.{State}
use Rattle.golog.specs.World.{World, holds, possible}
use Rattle.golog.specs.Transitions.{is_none, lists_from}
use Rattle.runs.specs.Guide.{only}
use Rattle.remaining.specs.Rest.{Rest, gone, leaf, node, nodes}
use Rattle.remaining.specs.Leaves.{RestTransition, on_rest, wrap_a, wrap_b, own_move, sibling_a, leaf_of, goes_right, wrap_right, rest_final, rest_transitions}

-- the levels of a raw record that need four bits, given those of its parts; endable, its part a may be final in some state; span, the number
-- of values that are listed
abbrev pub digits_by : Program → (endable : Bool) (span da db : ℕ) → ℕ
digits_by r endable span da db =
    get_or
    (
    0 ∷ 0 ∷ 0 ∷ (max da db + cond endable 1 0) ∷ (max da db + 1) ∷ da ∷ max da db ∷ da ∷ (max da db + 1) ∷ max da db ∷ da ∷ da
    ∷ (db + cond (eqb span 1) 0 1) ∷ []
    )
    r.kind 0

-- a transition and its position
abbrev pub Spot : Type 0
Spot = ℕ × RestTransition

-- the same further on, leaving f of what it left
abbrev pub moved : (by : ℕ) → (Rest → Rest) → Spot → Spot
moved by f x = (by + x.0, on_rest f x.1)

-- how far apart the parts of a record of d digits, or the values that it chooses from, stand
abbrev pub apart : (d : ℕ) → ℕ
apart d = 16 ^ (d - 1)

-- a record r, number j, that chooses no value, given whether its part a is final, and the transitions of its parts with their positions
unfoldable pub spots_with : World → State → Program → (j d : ℕ) → (fa : Bool) → (As Bs : List Spot) → List Spot
spots_with W s r j d fa As Bs =
    only (own_of r.kind (possible W r.a s) (holds W r.a s)) ((0, (own_move r, gone)) ∷ [])
    ++ (map (moved 0 (wrap_a (tag_a r.kind) (sibling_a r j))) (only (uses_a r.kind (holds W r.c s) s.running) As)
    ++ map (moved (cond (eqb r.kind 3 || eqb r.kind 4 || eqb r.kind 8) (apart d) 0) (wrap_b (tag_b r.kind) r.a))
    (only (uses_b r.kind fa (holds W r.c s) (is_none As)) Bs))

-- a choice between n values
unfoldable pub spots_picked : (d n : ℕ) → (F : ℕ → List Spot) → List Spot
spots_picked d n F = lists_from (λ (v : ℕ). map (moved (v * apart d) (λ (g : Rest). g)) (F v)) 0 n

-- number j of the written-out table P, given the lower ones; `digits` are those of the raw records
abbrev pub spots_at : World → State → (P : ℕ → Program) (digits : ℕ → ℕ) → ℕ → (lower : List (List Spot)) → List Spot
spots_at W s P digits j lower =
    let r = P j in
    let d = digits (read_in j) in
    cond (picks r.kind) (spots_picked d r.a (λ (v : ℕ). get_or lower (put_in r.b r.c v) []))
    (spots_with W s r j d (leaf_of W s P r.a).final (get_or lower r.a []) (get_or lower r.b []))

unfoldable pub spots_of : World → State → (P : ℕ → Program) (digits : ℕ → ℕ) → ℕ → List Spot
spots_of W s P digits j = entry_of [] (spots_at W s P digits) j

-- those of a remaining program that stands at a place of the work area: the place of the record's node counts first
unfoldable pub rest_spots : World → State → (P : ℕ → Program) (digits : ℕ → ℕ) → (place : ℕ) → Rest → List Spot
rest_spots W s P digits place gone = []
rest_spots W s P digits place (leaf j) = map (moved (place * 2 ^ 64) (λ (g : Rest). g)) (spots_of W s P digits j)
rest_spots W s P digits place (node tag l r) =
    map (moved 0 (λ (g : Rest). node tag g r)) (rest_spots W s P digits (place + 3) l)
    ++ map (moved 0 (wrap_right tag l))
    (only (goes_right tag (rest_final W s P l) (is_none (rest_transitions W s P l))) (rest_spots W s P digits (place + 3 + 3 * nodes l) r))

-- those from position k on: positions rise, so no later one is below k where an earlier one is not
abbrev pub from_spot : (k : ℕ) → List Spot → List Spot
from_spot k [] = []
from_spot k (x ∷ xs) = let later : List Spot = from_spot k xs in cond (ltb x.0 k) later (x ∷ xs)
