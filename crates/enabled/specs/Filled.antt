-- Own vocabulary: one table of sets of environments for a state: where each formula holds, where each record is final, where it is enabled,
-- where each action is possible. Assumes nothing.
use Rattle.std.specs.Prelude.{ℕ, ◌+◌, ◌*◌, ◌≤◌, ◌<◌, ◌≡◌, Bool, not, ◌&&◌, ◌||◌, ◌⊎◌, T, length, get_or}
use mathlib.Core.List.{List, Memᴰ}
use Rattle.records.specs.declared.Program.{Program}
use Rattle.kinds.specs.Programs.{has_a, has_b, has_condition, picks, acts, tests, links}
use Rattle.sets.specs.Sets.{set_words, member, Has, set_at}
use Rattle.golog.specs.declared.State.{State}
use Rattle.golog.specs.World.{World, start, special, possible}
use Rattle.golog.specs.Written.{entry_in}
use Rattle.truths.specs.Held.{HoldsIn}
use Rattle.state.specs.Conflicts.{most_actions}
use Rattle.remaining.specs.Extended.{most_records}
use Rattle.enabled.specs.Spans.{SpansKnown}
use Rattle.enabled.specs.Enabled.{Valuation, valuation_of, final_in, enabled_in}

-- the formulas that a sheet may have: set q is for formula q
abbrev pub most_formulas : ℕ
most_formulas = 512

-- set 512 + i is for where record i is final, 772 + i for where it is enabled, 1032 + a for where action a is possible
abbrev pub final_set : ℕ → ℕ
final_set i = 512 + i

abbrev pub enabled_set : ℕ → ℕ
enabled_set i = 772 + i

abbrev pub possible_set : ℕ → ℕ
possible_set a = 1032 + a

-- all of them
abbrev pub table_sets : ℕ
table_sets = 1096

-- what the sets of a table say; start and stop are always possible, and have none
abbrev pub valuation_by : (table : List ℕ) → Valuation
valuation_by table = record {
  final = λ (i e : ℕ). member (set_at table (final_set i)) e;
  enabled = λ (i e : ℕ). member (set_at table (enabled_set i)) e;
  holds = λ (q e : ℕ). member (set_at table q) e;
  possible = λ (a e : ℕ). special a || member (set_at table (possible_set a)) e;
}

-- the rules of record i of a table with nq formulas: it names lower records, formulas and actions that there can be, and chooses between 1
-- to 16 values in placeholder 0 or 1
pub record Ruled (nq i : ℕ) (r : Program) : Type 0 where
  pub linked : (a : ℕ) → Memᴰ a (links r) → a < i
  pub test : T (tests r.kind) → r.a < nq
  pub condition : T (has_condition r.kind) → r.c < nq
  pub act : T (acts r.kind) → r.a < start → r.a < most_actions
  pub choice : T (picks r.kind) → (1 ≤ r.a) × (r.a ≤ 16) × (r.c < 2)

-- so of every record
abbrev pub RuledTable : (nq : ℕ) → (ℕ → Program) → Type 0
RuledTable nq p = (i : ℕ) → Ruled nq i (p i)

-- a table has the sets that a record reads, which lists n values if it chooses one
pub record Readable (table : List ℕ) (n : ℕ) (r : Program) : Type 0 where
  pub room : set_words * table_sets ≤ length table
  pub part_a : T (has_a r.kind) → r.a < most_records
  pub part_b : T (has_b r.kind) → r.b < most_records
  pub test : T (tests r.kind) → r.a < most_formulas
  pub condition : T (has_condition r.kind) → r.c < most_formulas
  pub act : T (acts r.kind) → r.a < start → r.a < most_actions
  pub choice : T (picks r.kind) → (n ≤ 16) × (r.c < 2)

-- the set has the environments in which a record is final, and in which it is enabled, by the sets of the table
abbrev pub FinalBy : (table : List ℕ) (running : Bool) (n : ℕ) → Program → (set : List ℕ) → Type 0
FinalBy table running n r set = Has (final_in (valuation_by table) running n r) set

abbrev pub EnabledBy : (table : List ℕ) (running : Bool) (n : ℕ) → Program → (set : List ℕ) → Type 0
EnabledBy table running n r set = Has (enabled_in (valuation_by table) running n r) set

-- so those in which records a and b are both final
abbrev pub BothFinal : (table : List ℕ) (a b : ℕ) (set : List ℕ) → Type 0
BothFinal table a b set = let says : Valuation = valuation_by table in Has (λ (e : ℕ). says.final a e && says.final b e) set

-- and those in which a or b is enabled, or with `after` b after a, which has to be final
abbrev pub EitherEnabled : (table : List ℕ) (a b : ℕ) (after : Bool) (set : List ℕ) → Type 0
EitherEnabled table a b after set =
    let says : Valuation = valuation_by table in Has (λ (e : ℕ). says.enabled a e || ((not after || says.final a e) && says.enabled b e)) set

-- the table says of the state s what a record asks of it: the fields that its kind has, and no others
pub record SeesRecord (W : World) (s : State) (table : List ℕ) (r : Program) : Type 0 where
  pub condition : T (has_condition r.kind) → HoldsIn W s r.c (set_at table r.c)
  pub test : T (tests r.kind) → HoldsIn W s r.a (set_at table r.a)
  pub act : T (acts r.kind) → r.a < start → Has (λ (e : ℕ). possible W (entry_in r.a e) s) (set_at table (possible_set r.a))

-- so for the first m records of p; and `running` is whether interrupts run
pub record Sees (W : World) (s : State) (p : ℕ → Program) (m : ℕ) (running : Bool) (table : List ℕ) : Type 0 where
  pub runs : s.running ≡ running
  pub each : (i : ℕ) → i < m → SeesRecord W s table (p i)

-- the table says of the first k records of p where they are final and where they are enabled
pub record Known (W : World) (s : State) (p : ℕ → Program) (k : ℕ) (table : List ℕ) : Type 0 where
  pub final : (i : ℕ) → i < k → Has ((valuation_of W s p).final i) (set_at table (final_set i))
  pub enabled : (i : ℕ) → i < k → Has ((valuation_of W s p).enabled i) (set_at table (enabled_set i))

-- it does in every state that was seen so before
abbrev pub KnownWherever : (p : ℕ → Program) (m k : ℕ) (running : Bool) (old table : List ℕ) → Type 0
KnownWherever p m k running old table = (W : World) (s : State) → Sees W s p m running old → Known W s p k table

-- the sets of formulas and actions are as they were
pub record Kept (old table : List ℕ) : Type 0 where
  pub len : length table ≡ length old
  pub sets : (j : ℕ) → (j < final_set 0) ⊎ (possible_set 0 ≤ j) → set_at table j ≡ set_at old j
  pub words : (k : ℕ) → (k < set_words * final_set 0) ⊎ (set_words * possible_set 0 ≤ k) → get_or table k 0 ≡ get_or old k 0

-- what is asked before the sets of the first m records of p are filled in: room, records by the rules, and how many values each choice lists
pub record Fillable (p : ℕ → Program) (m : ℕ) (spans table : List ℕ) : Type 0 where
  pub room : set_words * table_sets ≤ length table
  pub ruled : RuledTable most_formulas p
  pub spans_known : SpansKnown p m spans

-- they are filled in
pub record Filled (p : ℕ → Program) (m : ℕ) (running : Bool) (old table : List ℕ) : Type 0 where
  pub known : KnownWherever p m m running old table
  pub kept : Kept old table

-- of formulas alone, as far as records that are final or not ask: the table says where the conditions of the first m records hold
pub record SeesConditions (W : World) (s : State) (p : ℕ → Program) (m : ℕ) (running : Bool) (table : List ℕ) : Type 0 where
  pub runs : s.running ≡ running
  pub each : (i : ℕ) → i < m → T (has_condition (p i).kind) → HoldsIn W s (p i).c (set_at table (p i).c)

-- in every state that was seen so before it says of the first k records where they are final
abbrev pub FinalsWherever : (p : ℕ → Program) (m k : ℕ) (running : Bool) (old table : List ℕ) → Type 0
FinalsWherever p m k running old table =
    (W : World) (s : State) → SeesConditions W s p m running old → (i : ℕ) → i < k → Has ((valuation_of W s p).final i) (set_at table (final_set i))

-- where they are final is filled in, and of the other sets only those of where records are enabled are left open
pub record FinalsFilled (p : ℕ → Program) (m : ℕ) (running : Bool) (old table : List ℕ) : Type 0 where
  pub known : FinalsWherever p m m running old table
  pub kept : Kept old table
