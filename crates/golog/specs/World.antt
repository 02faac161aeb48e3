-- To be believed: what formulas say of a state, when an action is possible and what performing it does (document 01, "The sheet" and "Moves";
-- document 02, F-2 and F-6); what a formula says of values, kind by kind, is in kinds/specs/Truth.antt. Assumes nothing.
use Rattle.std.specs.Prelude.{ℕ, zero, suc, Bool, false, not, cond, ◌&&◌, ◌||◌, List, [], ◌∷◌, eqb, ltb}
use Rattle.std.proofs.Math.Option.{Option, none, some}
use Rattle.records.specs.declared.Formula.{Formula}
use Rattle.records.specs.declared.Effect.{Effect}
use Rattle.records.specs.declared.Action.{Action}
use Rattle.records.specs.Table.{up_to, entry_of}
use Rattle.records.specs.Some.{some_from}
use Rattle.kinds.specs.Truth.{truth_of}
use Rattle.golog.specs.declared.State.{State}

-- the domain sizes of the fluents, and the three tables that conditions and actions are read in, each a function of the record's number,
-- actions of their entries in a history. Bound, initial values and program stand apart
pub record World : Type 0 where
  pub size : ℕ → ℕ
  pub formula : ℕ → Formula
  pub effect : ℕ → Effect
  pub action : ℕ → Action

-- formula i, given the lower ones
abbrev pub truth_at : World → (values : List ℕ) → ℕ → (lower : List Bool) → Bool
truth_at W values i lower = truth_of (W.formula i) values lower

-- the first n formulas
abbrev pub truths : World → (values : List ℕ) → ℕ → List Bool
truths W values n = up_to (truth_at W values) n

-- formula q holds in a state: the paper's φ[s]
unfoldable pub holds : World → ℕ → State → Bool
holds W q s = entry_of false (truth_at W s.values) q

-- document 01, "Steps and endings": start and stop, by their entries in a history
abbrev pub start : ℕ
start = 65534

abbrev pub stop : ℕ
stop = 65535

-- an entry that is one of the two
abbrev pub special : ℕ → Bool
special a = ltb 65533 a

-- two effects hold and give one fluent different values: `says` is what each formula says in the state, before any value is changed
abbrev pub contradict : (says : ℕ → Bool) → Effect → Effect → Bool
contradict says d e = (says d.condition && says e.condition) && (eqb d.fluent e.fluent && not (eqb d.value e.value))

-- so do two of the k effects from number i on
unfoldable pub conflicting : (says : ℕ → Bool) (effect : ℕ → Effect) (i k : ℕ) → Bool
conflicting says effect i k = some_from (λ (a : ℕ). some_from (λ (b : ℕ). contradict says (effect a) (effect b)) i k) i k

-- an effect holds and gives its fluent a value outside the domain
abbrev pub strays : (says : ℕ → Bool) (size : ℕ → ℕ) → Effect → Bool
strays says size e = says e.condition && not (ltb e.value (size e.fluent))

-- so does one of the k effects from number i on
unfoldable pub straying : (says : ℕ → Bool) (size : ℕ → ℕ) (effect : ℕ → Effect) (i k : ℕ) → Bool
straying says size effect i k = some_from (λ (a : ℕ). strays says size (effect a)) i k

-- neither is so of an action's range
abbrev pub sound : (says : ℕ → Bool) (size : ℕ → ℕ) (effect : ℕ → Effect) → Action → Bool
sound says size effect r = not (conflicting says effect r.first r.count) && not (straying says size effect r.first r.count)

-- "An action is possible when its precondition holds"; "Start and stop are always possible"; document 02, F-2: "An action with two holding
-- effects that give one fluent different values is now impossible"; F-6: "a holding effect whose value is outside its domain makes the
-- action impossible"
unfoldable pub possible_by : (says : ℕ → Bool) (size : ℕ → ℕ) (effect : ℕ → Effect) (action : ℕ → Action) → ℕ → Bool
possible_by says size effect action a = special a || (says (action a).precondition && sound says size effect (action a))

-- an effect names fluent x and its condition holds
abbrev pub changes : (says : ℕ → Bool) → Effect → (x : ℕ) → Bool
changes says e x = eqb e.fluent x && says e.condition

-- "the first effect in the action's range that names it and whose condition holds in the old values gives the new value; without one
-- the value stays": fluent x, with the value old, under the k effects from number i on
unfoldable pub given : (says : ℕ → Bool) (effect : ℕ → Effect) (x old i k : ℕ) → ℕ
given says effect x old i zero = old
given says effect x old i (suc k) = let later : ℕ = given says effect x old (suc i) k in cond (changes says (effect i) x) (effect i).value later

-- f at each value and its place, counted from x
unfoldable pub each : (ℕ → ℕ → ℕ) → (x : ℕ) → List ℕ → List ℕ
each f x [] = []
each f x (v ∷ vs) = f x v ∷ each f (suc x) vs

-- the values after an action
unfoldable pub changed : (says : ℕ → Bool) (effect : ℕ → Effect) → Action → (values : List ℕ) → List ℕ
changed says effect r values = each (λ (x old : ℕ). given says effect x old r.first r.count) 0 values

-- start and stop switch whether interrupts run, other actions change values
unfoldable pub perform_by : (says : ℕ → Bool) (effect : ℕ → Effect) (action : ℕ → Action) → ℕ → State → State
perform_by says effect action a s =
    let new : List ℕ = changed says effect (action a) s.values in
    record { values = cond (special a) s.values new; running = cond (special a) (eqb a start) s.running }

-- what each formula says in a state
abbrev pub says_in : World → State → ℕ → Bool
says_in W s q = holds W q s

-- the paper's Poss(a, s), and its do(a, s)
abbrev pub possible : World → ℕ → State → Bool
possible W a s = possible_by (says_in W s) W.size W.effect W.action a

abbrev pub perform : World → ℕ → State → State
perform W a s = perform_by (says_in W s) W.effect W.action a s

-- the state after a transition: "A test is a transition but no move"
abbrev pub after : World → Option ℕ → State → State
after W none s = s
after W (some a) s = perform W a s
