-- Own vocabulary: the first transition at a position or later, and what is asked of the tables that find it: those made once a sheet, and
-- the sets of environments of a state. Assumes nothing.
use Rattle.std.specs.Prelude.{◌≡◌, Bool, true, false, not, cond, ◌&&◌, ◌||◌, ◌⊎◌, ℕ, ◌+◌, ◌-◌, ◌*◌, ◌/◌, ◌%◌, ◌^◌, ◌≤◌, ◌<◌, min, T, eqb, ltb, length, get_or}
use mathlib.Core.List.{List, [], ◌∷◌, Memᴰ}
use Rattle.std.specs.Bool.{then_some}
use Rattle.std.specs.Prelude.{Option, Some, None}
use Rattle.std.specs.Option.{option_or, option_map, ForSome}
use Rattle.records.specs.declared.Program.{Program}
use Rattle.records.specs.Records.{TwoBytes}
use Rattle.records.specs.Placeholders.{environments, put, reading}
use Rattle.kinds.specs.Programs.{has_a, has_condition, picks, links, has_own, uses_a, uses_b, tag_a, tag_b}
use Rattle.sets.specs.Sets.{member, Has, set_at}
use Rattle.golog.specs.declared.State.{State}
use Rattle.golog.specs.World.{World, holds}
use Rattle.golog.specs.Transitions.{is_none}
use Rattle.golog.specs.Written.{span_of, program_read, written_records}
use Rattle.remaining.specs.Leaves.{RestTransition, on_rest, wrap_a, wrap_b, sibling_a, leaf_of}
use Rattle.leaves.specs.Running as table
use Rattle.positions.specs.declared.Tables as given
use Rattle.positions.specs.declared.Way.{Way}
use Rattle.positions.specs.declared.Fork.{Fork}
use Rattle.positions.specs.Spots.{Spot, apart, spots_of, from_spot}
use Rattle.positions.specs.Rising.{Spread, Endable}

-- the position of the first
abbrev pub first_of : List Spot → Option ℕ
first_of [] = None
first_of (x ∷ xs) = Some x.0

-- a position, where there is one, further on
abbrev pub further : ℕ → Option ℕ → Option ℕ
further by = option_map (λ (k : ℕ). by + k)

-- the least value from v on, below n, that is enabled, where there is one
abbrev pub NextValue : (enabled : ℕ → Bool) (v n : ℕ) → Option ℕ → Type 0
NextValue enabled v n None = (u : ℕ) → v ≤ u → u < n → enabled u ≡ false
NextValue enabled v n (Some w) = (v ≤ w) × (w < n) × (enabled w ≡ true) × ((u : ℕ) → v ≤ u → u < w → enabled u ≡ false)

-- the table that runs, with its number of records; how many values each choice lists; the digits of each record; whether interrupts run;
-- and sets of environments: where each formula holds (from set 0 on), where each record is final (from 512 on), where it has a transition
-- (from 772 on)
pub record Tables : Type 0 where
  pub records : ℕ → Program
  pub many : ℕ
  pub running : Bool
  pub spans : List ℕ
  pub digits : List ℕ
  pub sets : List ℕ

abbrev pub tables_by : table.Running → (running : Bool) → (spans digits sets : List ℕ) → Tables
tables_by p running spans digits sets = record {
  records = table.records p;
  many = table.size p;
  running = running;
  spans = spans;
  digits = digits;
  sets = sets;
}

-- as they are lent
abbrev pub tables_of : given.Tables → Tables
tables_of t = tables_by t.programs.now t.running t.spans.now t.digits.now t.table.now

abbrev pub digits_in : Tables → ℕ → ℕ
digits_in t i = get_or t.digits i 0

-- the transitions of record i, read in e, with their positions
abbrev pub spots_in : World → State → Tables → (i e : ℕ) → List Spot
spots_in W s t i e = spots_of W s (written_records t.records) (digits_in t) (reading i e)

-- the tables made once are those of the records, and these keep to their bounds
pub record Prepared (t : Tables) : Type 0 where
  pub endable : ℕ → Bool
  pub spread : Spread t.records endable (digits_in t)
  pub spans_are : (i : ℕ) → T (picks (t.records i).kind) → get_or t.spans i 1 ≡ span_of t.records i
  pub few : t.many ≤ 260
  pub conditions : (i : ℕ) → T (has_condition (t.records i).kind) → (t.records i).c < 512
  pub long : 8256 ≤ length t.sets

-- the sets are those of a state
pub record Surveyed (W : World) (s : State) (t : Tables) : Type 0 where
  pub prepared : Prepared t
  pub ends : Endable W s t.records prepared.endable
  pub runs : s.running ≡ t.running
  pub truths : (q : ℕ) → q < 512 → Has (λ (e : ℕ). holds W (reading q e) s) (set_at t.sets q)
  pub finals : (i : ℕ) → i < t.many → Has (λ (e : ℕ). (leaf_of W s (written_records t.records) (reading i e)).final) (set_at t.sets (512 + i))
  pub enabled :
      (i : ℕ) → i < t.many
      → Has (λ (e : ℕ). not (is_none (leaf_of W s (written_records t.records) (reading i e)).transitions)) (set_at t.sets (772 + i))

-- the first transition that a way leads to, where it goes
abbrev pub way_first : World → State → Tables → Option Way → Option ℕ
way_first W s t None = None
way_first W s t (Some w) = further w.base (first_of (from_spot w.k (spots_in W s t w.i w.e)))

-- a way from record i leads to a record that it names, in an environment, and its positions stay below 16 to the digits of i
pub record Leads (t : Tables) (i : ℕ) (w : Way) : Type 0 where
  pub named : Memᴰ w.i (links (t.records i))
  pub small : w.e < environments
  pub bounded : w.base + 16 ^ digits_in t w.i ≤ 16 ^ digits_in t i

-- record i, read in e, its positions from k on: the first is the one way's, else the other's. One at k is the one way's, where that goes, else
-- the other's, and what it leaves stands in the construct of part a, or of part b
pub record Forks (W : World) (s : State) (t : Tables) (i e k : ℕ) (f : Fork) : Type 0 where
  pub found : first_of (from_spot k (spots_in W s t i e)) ≡ option_or (way_first W s t f.first) (way_first W s t f.second)
  pub laid :
      let r = program_read e (span_of t.records i) (t.records i) in
      (x : RestTransition) → Memᴰ (k, x) (spots_in W s t i e)
      → ((w : Way) × (f.first ≡ Some w) × (y : RestTransition) × Memᴰ (w.k, y) (spots_in W s t w.i w.e)
      × (x ≡ on_rest (wrap_a (tag_a r.kind) (sibling_a r (reading i e))) y))
      ⊎ ((f.first ≡ None) × (w : Way) × (f.second ≡ Some w) × (y : RestTransition) × Memᴰ (w.k, y) (spots_in W s t w.i w.e)
      × (x ≡ on_rest (wrap_b (tag_b r.kind) r.a) y))

-- so in every state that the sets are of
pub record Forked (t : Tables) (i e k : ℕ) (f : Fork) : Type 0 where
  pub first : ForSome f.first (Leads t i)
  pub second : ForSome f.second (Leads t i)
  pub forks : (W : World) (s : State) → Surveyed W s t → Forks W s t i e k f

-- the ways of record r, d digits, that chooses no value, read in e: h, its condition holds; fin, en, its part a is final, has a transition
abbrev pub parted : (kind : ℕ) → Bool
parted kind = eqb kind 3 || eqb kind 4 || eqb kind 8

abbrev pub gap_of : (kind : ℕ) (goes : Bool) (d : ℕ) → ℕ
gap_of kind goes d = cond (goes && parted kind) (apart d) 0

abbrev pub fork_parts : Program → (h running : Bool) (d e k : ℕ) (fin en : Bool) → Fork
fork_parts r h running d e k fin en =
    let b = uses_b r.kind fin h (not en) in
    let by = gap_of r.kind b d in
    record {
      r = r;
      first = then_some ((uses_a r.kind h running && en) && (eqb by 0 || ltb k by)) (record { i = r.a; e = e; k = k; base = 0 });
      second = then_some b (record { i = r.b; e = e; k = k - by; base = by });
    }

-- record r, d digits, can be looked at in e by the sets
pub record CanFork (r : Program) (d e : ℕ) (sets : List ℕ) : Type 0 where
  pub long : 8256 ≤ length sets
  pub a : T (has_a r.kind) → r.a < 260
  pub c : T (has_condition r.kind) → r.c < 512
  pub small : e < environments
  pub low : d ≤ 16

-- its ways are those by what the sets say
pub record ForksParts (r : Program) (running : Bool) (d e k : ℕ) (sets : List ℕ) (f : Fork) : Type 0 where
  pub holds : Bool
  pub condition : T (has_condition r.kind) → holds ≡ member (set_at sets r.c) e
  pub is : f ≡ fork_parts r holds running d e k (member (set_at sets (512 + r.a)) e) (member (set_at sets (772 + r.a)) e)

-- the way of value u of a choice r, read in e, whose values stand `by` apart
abbrev pub value_way : Program → (e u k by : ℕ) → Way
value_way r e u k by = record { i = r.b; e = put e r.c u; k = k; base = u * by }

-- the ways of a choice r between n values, d digits, read in e: that of the value at k, then that of the next that is enabled
pub record ForksValues (r : Program) (n d e k : ℕ) (enabled : ℕ → Bool) (f : Fork) : Type 0 where
  pub record_is : f.r ≡ r
  pub alone : n ≡ 1 → (f.first ≡ Some (value_way r e 0 k 1)) × (f.second ≡ None)
  pub several :
      (n ≡ 1 → ⊥)
      → let v = min (k / apart d) 16 in
      (f.first ≡ then_some (ltb v n) (value_way r e v (k % apart d) (apart d)))
      × (w : Option ℕ) × NextValue enabled (v + 1) n w × (f.second ≡ option_map (λ (w : ℕ). value_way r e w 0 (apart d)) w)

-- record i of the table, and its ways where it has no transition of its own
pub record ForksRecord (t : Tables) (i e k : ℕ) (f : Fork) : Type 0 where
  pub record_is : f.r ≡ t.records i
  pub fields : TwoBytes f.r
  pub forked : has_own f.r.kind ≡ false → Forked t i e k f

-- record i, read in e, can be looked at: it has at most 16 digits, and the sets are those of some state
pub record CanLook (t : Tables) (i e : ℕ) : Type 0 where
  pub world : World
  pub state : State
  pub surveyed : Surveyed world state t
  pub inside : i < t.many
  pub small : e < environments
  pub low : digits_in t i ≤ 16

-- a way can be gone
pub record CanGo (t : Tables) (w : Way) : Type 0 where
  pub look : CanLook t w.i w.e
  pub bounded : w.base + 16 ^ digits_in t w.i ≤ 2 ^ 64

-- the answer is the first that the way leads to, in every state that the sets are of
abbrev pub FindsWay : Tables → Option Way → Option ℕ → Type 0
FindsWay t w r = (W : World) (s : State) → Surveyed W s t → way_first W s t w ≡ r

-- the answer is the first at k or later of record i, read in e, in every state that the sets are of
abbrev pub FindsRecord : Tables → (i e k : ℕ) → Option ℕ → Type 0
FindsRecord t i e k r = (W : World) (s : State) → Surveyed W s t → first_of (from_spot k (spots_in W s t i e)) ≡ r
