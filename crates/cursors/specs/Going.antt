-- Own vocabulary: cursors into the transitions of a remaining program whose records are read in environments: the place in the work area of a
-- record's node, and a position among the record's transitions. What is asked and what is answered where the first from a cursor on is
-- found, and where the one at a cursor is laid out. Assumes nothing.
use Rattle.std.specs.Prelude.{◌≡◌, Option, Some, None, Result, Ok, Err, IfErr, ℕ, ◌+◌, ◌*◌, ◌^◌, ◌≤◌, ◌<◌}
use mathlib.Core.List.{List, map, Memᴰ}
use Rattle.records.specs.Placeholders.{environments, read_in}
use Rattle.golog.specs.declared.State.{State}
use Rattle.golog.specs.World.{World}
use Rattle.golog.specs.Transitions.{is_none}
use Rattle.golog.specs.Written.{written_records}
use Rattle.remaining.specs.Rest.{Rest, leaf, nodes, largest, high}
use Rattle.remaining.specs.Leaves.{RestTransition, rest_final, rest_transitions}
use Rattle.words.specs.Words.{At, Room}
use Rattle.steps.specs.declared.Laid.{Laid}
use Rattle.positions.specs.Spots.{Spot, rest_spots, from_spot}
use Rattle.positions.specs.Found.{first_of, Tables, digits_in, Surveyed}
use Rattle.positions.specs.Placed.{Placed}
use Rattle.cursors.specs.declared.Cursor.{Cursor}
use Rattle.cursors.specs.declared.Passed.{Passed}

-- a cursor as one number: the place counts first
abbrev pub cursor_at : (place k : ℕ) → ℕ
cursor_at place k = place * 2 ^ 64 + k

-- the transitions of a remaining program that stands at a place, with their cursors
abbrev pub rest_spots_in : World → State → Tables → (place : ℕ) → Rest → List Spot
rest_spots_in W s t place g = rest_spots W s (written_records t.records) (digits_in t) place g

-- those from a cursor on, without their cursors
abbrev pub steps_from : World → State → Tables → (place : ℕ) → Rest → (c : ℕ) → List RestTransition
steps_from W s t place g c = map (λ (x : Spot). x.1) (from_spot c (rest_spots_in W s t place g))

-- its leaves are records of the table, read in environments, that have at most 16 digits
pub record Inside (t : Tables) (g : Rest) : Type 0 where
  pub number : largest (λ (n : ℕ). n) g < environments * t.many
  pub low : largest (λ (n : ℕ). digits_in t (read_in n)) g ≤ 16

-- where an answer points
abbrev pub pointed : Result Cursor Passed → Option ℕ
pointed (Ok c) = Some (cursor_at c.place c.k)
pointed (Err p) = None

-- the answer r for g, which stands at a place: the first transition from cursor c on; where there is none, whether g is final, and whether it
-- has no transition at all
pub record Points (W : World) (s : State) (t : Tables) (place : ℕ) (g : Rest) (c : ℕ) (r : Result Cursor Passed) : Type 0 where
  pub first : first_of (from_spot c (rest_spots_in W s t place g)) ≡ pointed r
  pub final : IfErr r (λ p. p.done ≡ rest_final W s (written_records t.records) g)
  pub idle : IfErr r (λ p. p.idle ≡ is_none (rest_transitions W s (written_records t.records) g))

-- a remaining program of the table stands at a place, and the sets are those of some state
pub record CanPoint (t : Tables) (w : List ℕ) (place : ℕ) : Type 0 where
  pub world : World
  pub state : State
  pub surveyed : Surveyed world state t
  pub rest : Rest
  pub at : At rest w place
  pub inside : Inside t rest

-- in every state that the sets are of, of a record's leaf, number n, and of what stands there
abbrev pub FindsLeaf : Tables → (n at place k : ℕ) → Result Cursor Passed → Type 0
FindsLeaf t n at place k r = (W : World) (s : State) → Surveyed W s t → Points W s t at (leaf n) (cursor_at place k) r

abbrev pub FindsRest : Tables → (w : List ℕ) (at place k : ℕ) → Result Cursor Passed → Type 0
FindsRest t w at place k r = (W : World) (s : State) → Surveyed W s t → (g : Rest) → At g w at → Points W s t at g (cursor_at place k) r

-- it stands below `to`, has a transition at the cursor in the state that it is looked at in, and there is room for what any of its transitions
-- leaves
pub record CanLayRest (t : Tables) (w : List ℕ) («from» to place k : ℕ) : Type 0 where
  pub can : CanPoint t w «from»
  pub move : RestTransition
  pub there : Memᴰ (cursor_at place k, move) (rest_spots_in can.world can.state t «from» can.rest)
  pub below : «from» + 3 * nodes can.rest ≤ to
  pub room : Room w to (nodes can.rest + 2 * high (written_records t.records) can.rest)

-- in every state that the sets are of, the transition at the cursor of what stands at `from`
abbrev pub PlacesRest : Tables → («from» place k to : ℕ) (w w' : List ℕ) → Laid → Type 0
PlacesRest t «from» place k to w w' r =
    (W : World) (s : State) → Surveyed W s t → (g : Rest) → At g w «from» → (x : RestTransition) → Memᴰ (cursor_at place k, x) (rest_spots_in W s t «from» g)
    → Placed x to w w' r.entry r.size
