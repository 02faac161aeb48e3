-- Own vocabulary: finality and the number of transitions of a remaining program, by tables of those of its records (document 01, "Steps and
-- endings"), and how far it is from its end at least. That they are those of the meaning is in proofs/Tabled.antt and proofs/Endings.antt.
-- Assumes nothing.
use Rattle.std.specs.Prelude.{◌≡◌, ℕ, ◌+◌, ◌*◌, ◌^◌, ◌≤◌, ◌<◌, min, max, Bool, true, cond, ◌&&◌, List, eqb, get_or}
use Rattle.records.specs.declared.Program.{Program}
use Rattle.remaining.specs.Rest.{Rest, gone, leaf, node, nodes, largest, high}
use Rattle.remaining.specs.Leaves.{goes_right}
use Rattle.words.specs.Words.{At}
use Rattle.leaves.specs.Distances.{farthest}
use Rattle.ends.specs.declared.Totals.{Totals}

-- final: a construct, where both parts are
unfoldable pub final_by_table : (finals : List Bool) → Rest → Bool
final_by_table finals gone = true
final_by_table finals (leaf i) = get_or finals i true
final_by_table finals (node tag l r) = final_by_table finals l && final_by_table finals r

-- how many transitions: those of the left part, and of the right one where it goes
unfoldable pub count_by_table : (finals : List Bool) (counts : List ℕ) → Rest → ℕ
count_by_table finals counts gone = 0
count_by_table finals counts (leaf i) = get_or counts i 0
count_by_table finals counts (node tag l r) =
    count_by_table finals counts l + cond (goes_right tag (final_by_table finals l) (eqb (count_by_table finals counts l) 0)) (count_by_table finals counts r) 0

-- how far it is from its end at least: as far as its parts together
unfoldable pub far_by_table : (distances : List ℕ) → Rest → ℕ
far_by_table distances gone = 0
far_by_table distances (leaf i) = get_or distances i 0
far_by_table distances (node tag l r) = far_by_table distances l + far_by_table distances r

-- the same by way of any transition, that one counted: of a record that has so many, and is so far from its end
abbrev pub soon_of : (count far : ℕ) → ℕ
soon_of count far = cond (eqb count 0) farthest (max 1 far)

-- the totals of a record, from whether it is final, its count and its distance
abbrev pub totals_of : (done : Bool) (count far : ℕ) → Totals
totals_of done count far = record { done = done; count = count; far = far; soon = soon_of count far }

-- of a construct, from those of its parts: a transition of one leaves the other as it is
abbrev pub soon_both : (goes : Bool) (farL soonL farR soonR : ℕ) → ℕ
soon_both goes farL soonL farR soonR = min (soonL + farR) (cond goes (farL + soonR) farthest)

-- of what remains; where there is no transition, every number is right
unfoldable pub soon_by_table : (finals : List Bool) (distances counts : List ℕ) → Rest → ℕ
soon_by_table finals distances counts gone = farthest
soon_by_table finals distances counts (leaf i) = soon_of (get_or counts i 0) (get_or distances i 0)
soon_by_table finals distances counts (node tag l r) =
    soon_both (goes_right tag (final_by_table finals l) (eqb (count_by_table finals counts l) 0))
    (far_by_table distances l) (soon_by_table finals distances counts l) (far_by_table distances r) (soon_by_table finals distances counts r)

-- the totals of a construct, from those of its parts
abbrev pub joined : (tag : ℕ) → Totals → Totals → Totals
joined tag l r = record {
  done = l.done && r.done;
  count = l.count + cond (goes_right tag l.done (eqb l.count 0)) r.count 0;
  far = l.far + r.far;
  soon = soon_both (goes_right tag l.done (eqb l.count 0)) l.far l.soon r.far r.soon;
}

-- no number of the totals is as large as n
pub record Below (n : ℕ) (t : Totals) : Type 0 where
  pub count_below : t.count < n
  pub far_below : t.far < n
  pub soon_below : t.soon < n

-- the totals are those of g; each number of a table fits a word, so they are few enough to add
pub record Totalled (finals : List Bool) (distances counts : List ℕ) (g : Rest) (t : Totals) : Type 0 where
  pub done_is : t.done ≡ final_by_table finals g
  pub count_is : t.count ≡ count_by_table finals counts g
  pub far_is : t.far ≡ far_by_table distances g
  pub soon_is : t.soon ≡ soon_by_table finals distances counts g
  pub few : Below (2 ^ 32 * nodes g) t

-- what is so of the number of each leaf
unfoldable pub Leaves : (ℕ → Type 0) → Rest → Type 0
Leaves P gone = Unit
Leaves P (leaf i) = P i
Leaves P (node tag l r) = Leaves P l × Leaves P r

-- a remaining program stands there, of each of whose leaves P is so
pub record Asked (P : ℕ → Type 0) (w : List ℕ) (i : ℕ) : Type 0 where
  pub rest : Rest
  pub at : At rest w i
  pub leaves : Leaves P rest

-- the totals of record i, of which R is so, are told by the tables
abbrev pub Told : (finals : List Bool) (distances counts : List ℕ) (R : Totals → Type 0) (i : ℕ) → Type 0
Told finals distances counts R i = (t : Totals) → R t → Totalled finals distances counts (leaf i) t

-- the height of the table that runs: 16, and 2 for the interrupts (document 01, "Work area": h)
abbrev pub most_levels : ℕ
most_levels = 18

-- its records are among the first m of the table p, and low enough for their counts to be exact
pub record InTable (p : ℕ → Program) (m : ℕ) (g : Rest) : Type 0 where
  pub number : largest (λ (i : ℕ). i) g < m
  pub height : high p g ≤ most_levels
