-- To be believed: the thirteen worked cases of document 01 (its example of three sections) as a list of equations about whole sheets in
-- bytes, case 13 by F-2 of document 02; beside them further rows, for the kinds that no case has, rows for F-1, F-2 and F-5, and document 01's edges
-- of the check. Assumes nothing.
use Rattle.std.specs.Prelude.{ℕ, zero, suc, ◌+◌, ◌*◌, true, false, ◌≡◌, length, replicate}
use mathlib.Core.List.{List, [], ◌∷◌, ◌++◌, flatten}
use Rattle.records.specs.Records.{formula_at, effect_at, action_at}
use Rattle.named.specs.Named.{formula_set, action_set}
use Rattle.sheet.specs.Check.{refused, check_of, accepted_with}
use Rattle.demands.specs.Planning.{refused_by, found, replied, plan_of, replay_of}

-- each proposition of a list holds
abbrev pub All : List (Type 0) → Type 0
All [] = Unit {0}
All (p ∷ ps) = p × All ps

-- a table: its records, each in bytes
abbrev Table : Type 0
Table = List (List ℕ)

-- a sheet without notes, of few records, and the bound d
abbrev sheet : (fluents formulas effects actions programs : Table) → (d : ℕ) → List ℕ
sheet fluents formulas effects actions programs d =
    let f = length fluents in
    let q = length formulas in
    let e = length effects in
    let a = length actions in
    let p = length programs in
    flatten (fluents ++ formulas ++ effects ++ actions ++ programs)
    ++ (f ∷ 0 ∷ q ∷ 0 ∷ e ∷ 0 ∷ a ∷ 0 ∷ p ∷ 0 ∷ d ∷ 0 ∷ [])
    ++ ((2 * f + 6 * q + 4 * e + 6 * a + 8 * p) ∷ 0 ∷ 0 ∷ 0 ∷ 0x42 ∷ 0x51 ∷ [])

-- fluent 0, size 3, starts with v; fluent 1, size 3, starts 0
abbrev fluents_from : ℕ → Table
fluents_from v = (3 ∷ v ∷ []) ∷ (3 ∷ 0 ∷ []) ∷ []

-- 0 fluent 1 is 0; 1 fluent 0 is 0; 2 both; 3 true
abbrev formulas : Table
formulas =
    (2 ∷ 1 ∷ 0 ∷ 0 ∷ 0 ∷ 0 ∷ [])
    ∷ (2 ∷ 0 ∷ 0 ∷ 0 ∷ 0 ∷ 0 ∷ [])
    ∷ (6 ∷ 0 ∷ 0 ∷ 0 ∷ 1 ∷ 0 ∷ [])
    ∷ (0 ∷ 0 ∷ 0 ∷ 0 ∷ 0 ∷ 0 ∷ [])
    ∷ []

-- not formula 1
abbrev not1 : List ℕ
not1 = 5 ∷ 0 ∷ 1 ∷ 0 ∷ 0 ∷ 0 ∷ []

-- under condition c: fluent x becomes v
abbrev effect_if : (c x v : ℕ) → List ℕ
effect_if c x v = c ∷ 0 ∷ x ∷ v ∷ []

abbrev effect : (x v : ℕ) → List ℕ
effect x v = effect_if 3 x v

abbrev effects : Table
effects = effect 0 0 ∷ effect 1 2 ∷ []

-- precondition, first effect, number of effects
abbrev action : (precondition first count : ℕ) → List ℕ
action precondition first count = precondition ∷ 0 ∷ first ∷ 0 ∷ count ∷ 0 ∷ []

-- 0 "shift to 0": precondition 0, effect 0; 1 "berth on 1–2": precondition 2, effect 1
abbrev actions : Table
actions = action 0 0 1 ∷ action 2 1 1 ∷ []

-- one program record: kind, a, b, c
abbrev line : (kind a b c : ℕ) → List ℕ
line kind a b c = kind ∷ 0 ∷ a ∷ 0 ∷ b ∷ 0 ∷ c ∷ 0 ∷ []

-- the twelve kinds: actions, formulas and lower program records by number
abbrev nil : List ℕ
nil = line 0 0 0 0

abbrev act : (a : ℕ) → List ℕ
act a = line 1 a 0 0

abbrev test : (a : ℕ) → List ℕ
test a = line 2 a 0 0

abbrev sequence : (a b : ℕ) → List ℕ
sequence a b = line 3 a b 0

abbrev choice : (a b : ℕ) → List ℕ
choice a b = line 4 a b 0

abbrev star : (a : ℕ) → List ℕ
star a = line 5 a 0 0

abbrev if_then_else : (c a b : ℕ) → List ℕ
if_then_else c a b = line 6 a b c

abbrev while : (c a : ℕ) → List ℕ
while c a = line 7 a 0 c

abbrev together : (a b : ℕ) → List ℕ
together a b = line 8 a b 0

abbrev over : (a b : ℕ) → List ℕ
over a b = line 9 a b 0

abbrev iteration : (a : ℕ) → List ℕ
iteration a = line 10 a 0 0

abbrev interrupt : (c a : ℕ) → List ℕ
interrupt c a = line 11 a 0 c

-- document 01's sheet with the bound d and these program records, the last one the root
abbrev sheet_of : (d : ℕ) → (programs : Table) → List ℕ
sheet_of d programs = sheet (fluents_from 1) formulas effects actions programs d

-- the same with formula 4, not formula 1
abbrev sheet_not : (d : ℕ) → (programs : Table) → List ℕ
sheet_not d programs = sheet (fluents_from 1) (formulas ++ (not1 ∷ [])) effects actions programs d

-- the same, where fluent 0 starts 0, with action 2, precondition 3, whose effects these are
abbrev sheet_with : (own : Table) → (d : ℕ) → (programs : Table) → List ℕ
sheet_with own d programs =
    sheet (fluents_from 0) (formulas ++ (not1 ∷ [])) (effects ++ own) (actions ++ (action 3 2 (length own) ∷ [])) programs d

-- action 2 gives fluent 0 the value 1
abbrev sheet_once : (d : ℕ) → (programs : Table) → List ℕ
sheet_once = sheet_with (effect 0 1 ∷ [])

-- its two effects give fluent 0 the values 1 and 2, neither of which it has yet
abbrev sheet_twice : (d : ℕ) → (programs : Table) → List ℕ
sheet_twice = sheet_with (effect 0 1 ∷ effect 0 2 ∷ [])

-- star(act 0); act 1
abbrev star_then_act : Table
star_then_act = act 0 ∷ star 0 ∷ act 1 ∷ sequence 1 2 ∷ []

-- star(act 0) over act 1
abbrev star_over_act : Table
star_over_act = act 0 ∷ star 0 ∷ act 1 ∷ over 1 2 ∷ []

-- case 3 with the trailer as document 01 prints it
abbrev case3 : List ℕ
case3 =
    flatten (fluents_from 1 ++ formulas ++ effects ++ actions ++ star_then_act)
    ++ (0x02 ∷ 0x00 ∷ 0x04 ∷ 0x00 ∷ 0x02 ∷ 0x00 ∷ 0x02 ∷ 0x00 ∷ 0x04 ∷ 0x00 ∷ 0x02 ∷ 0x00 ∷ 0x50 ∷ 0x00 ∷ 0x00 ∷ 0x00 ∷ 0x42 ∷ 0x51 ∷ [])

-- case 13: the root is act 2
abbrev case13 : List ℕ
case13 = sheet_twice 1 (act 2 ∷ [])

-- "Proved cases, root and verdict": a row each
abbrev pub rows : List (Type 0)
rows =
    -- 1 "nil, D 0: found 0 0"
    (plan_of (sheet_of 0 (nil ∷ [])) ≡ found [] 0)
    -- 2 "act 1, D 5: 13"
    ∷ (plan_of (sheet_of 5 (act 1 ∷ [])) ≡ refused_by 13)
    -- 3 "star(act 0); act 1, D 2: found 2 2, history 0 1"; "work 273"
    ∷ ((plan_of case3 ≡ found (0 ∷ 1 ∷ []) 2) × (check_of case3 ≡ accepted_with 273 3))
    -- 4 "The same, D 1: 14"
    ∷ (plan_of (sheet_of 1 star_then_act) ≡ refused_by 14)
    -- 5 "test 3, D 0: 14; D 1: found 0 1"
    ∷ ((plan_of (sheet_of 0 (test 3 ∷ [])) ≡ refused_by 14) × (plan_of (sheet_of 1 (test 3 ∷ [])) ≡ found [] 1))
    -- 6 "not-holding test 1, D 0: 13"
    ∷ (plan_of (sheet_of 0 (test 1 ∷ [])) ≡ refused_by 13)
    -- 7 "act 0 over act 1, D 2: history 0 1 yes, 1 0 no; star(act 0) over act 1, D 2: history 0 1 no, plan 14"
    ∷ ((replay_of (sheet_of 2 (act 0 ∷ act 1 ∷ over 0 1 ∷ [])) (0 ∷ 1 ∷ []) ≡ replied true)
    × (replay_of (sheet_of 2 (act 0 ∷ act 1 ∷ over 0 1 ∷ [])) (1 ∷ 0 ∷ []) ≡ replied false)
    × (replay_of (sheet_of 2 star_over_act) (0 ∷ 1 ∷ []) ≡ replied false)
    × (plan_of (sheet_of 2 star_over_act) ≡ refused_by 14))
    -- 8 "act 1 over act 0, D 2: found 2 2, 0 1"
    ∷ (plan_of (sheet_of 2 (act 1 ∷ act 0 ∷ over 0 1 ∷ [])) ≡ found (0 ∷ 1 ∷ []) 2)
    -- 9 "interrupt (not formula 1), act 0, D 3: found 3 3, 65534 0 65535"
    ∷ (plan_of (sheet_not 3 (act 0 ∷ interrupt 4 0 ∷ [])) ≡ found (65534 ∷ 0 ∷ 65535 ∷ []) 3)
    -- 10 "interrupt true, nil, D 2: found 2 2, 65534 65535"
    ∷ (plan_of (sheet_of 2 (nil ∷ interrupt 3 0 ∷ [])) ≡ found (65534 ∷ 65535 ∷ []) 2)
    -- 11 "interrupt true, act 0, D 4: 14"
    ∷ (plan_of (sheet_of 4 (act 0 ∷ interrupt 3 0 ∷ [])) ≡ refused_by 14)
    -- 12 "while formula 0 do nil, D 0: found 0 0"
    ∷ (plan_of (sheet_of 0 (nil ∷ while 0 0 ∷ [])) ≡ found [] 0)
    -- 13 "An action with two holding effects on fluent 0, values 1 then 2", by F-2: "no step"
    ∷ ((plan_of case13 ≡ refused_by 13) × (replay_of case13 (2 ∷ []) ≡ replied false))
    ∷ []

-- beside the thirteen, a row for each kind that they do not have, with equations that tell it from its neighbours
abbrev pub further : List (Type 0)
further =
    -- 4 "steps of either; final if either is"
    -- act 1 | act 0, D 1: the second where the first is not possible
    ((plan_of (sheet_of 1 (act 1 ∷ act 0 ∷ choice 0 1 ∷ [])) ≡ found (0 ∷ []) 1)
    -- act 0 | nil, D 2: no move or one, where act 0 together with nil takes one and star(act 0) also two
    × (replay_of (sheet_of 2 (act 0 ∷ nil ∷ choice 0 1 ∷ [])) [] ≡ replied true)
    × (replay_of (sheet_of 2 (act 0 ∷ nil ∷ choice 0 1 ∷ [])) (0 ∷ []) ≡ replied true)
    × (replay_of (sheet_of 2 (act 0 ∷ nil ∷ choice 0 1 ∷ [])) (0 ∷ 0 ∷ []) ≡ replied false)
    × (replay_of (sheet_of 2 (act 0 ∷ nil ∷ together 0 1 ∷ [])) [] ≡ replied false)
    × (replay_of (sheet_of 2 (act 0 ∷ star 0 ∷ [])) (0 ∷ 0 ∷ []) ≡ replied true)
    -- (nil | act 0); test 1, D 2: the test does not hold before act 0 and holds after it
    × (plan_of (sheet_of 2 (nil ∷ act 0 ∷ choice 0 1 ∷ test 1 ∷ sequence 2 3 ∷ [])) ≡ found (0 ∷ []) 2))
    -- 6 "steps and finality of the branch that c picks now"
    -- if formula 0 then act 0 else nil, D 1: the condition takes no transition, and the end of the branch not picked does not count
    ∷ ((plan_of (sheet_of 1 (act 0 ∷ nil ∷ if_then_else 0 0 1 ∷ [])) ≡ found (0 ∷ []) 1)
    × (replay_of (sheet_of 1 (act 0 ∷ nil ∷ if_then_else 0 0 1 ∷ [])) [] ≡ replied false)
    -- if formula 1 then act 0 else nil, D 1
    × (plan_of (sheet_of 1 (act 0 ∷ nil ∷ if_then_else 1 0 1 ∷ [])) ≡ found [] 0)
    × (replay_of (sheet_of 1 (act 0 ∷ nil ∷ if_then_else 1 0 1 ∷ [])) (0 ∷ []) ≡ replied false)
    -- act 0; (if formula 1 then act 1 else nil), D 2: the condition does not hold before act 0 and holds after it
    × (plan_of (sheet_of 2 (act 0 ∷ act 1 ∷ nil ∷ if_then_else 1 1 2 ∷ sequence 0 3 ∷ [])) ≡ found (0 ∷ 1 ∷ []) 2)
    × (replay_of (sheet_of 2 (act 0 ∷ act 1 ∷ nil ∷ if_then_else 1 1 2 ∷ sequence 0 3 ∷ [])) (0 ∷ []) ≡ replied false))
    -- 8 "either steps, the other stays. Final if both are"
    -- act 0 together with act 2, D 2: both orders, where act 0; act 2 and act 0 over act 2 have only one; not act 0 alone
    ∷ ((replay_of (sheet_once 2 (act 0 ∷ act 2 ∷ together 0 1 ∷ [])) (0 ∷ 2 ∷ []) ≡ replied true)
    × (replay_of (sheet_once 2 (act 0 ∷ act 2 ∷ together 0 1 ∷ [])) (2 ∷ 0 ∷ []) ≡ replied true)
    × (replay_of (sheet_once 2 (act 0 ∷ act 2 ∷ sequence 0 1 ∷ [])) (2 ∷ 0 ∷ []) ≡ replied false)
    × (replay_of (sheet_once 2 (act 0 ∷ act 2 ∷ over 0 1 ∷ [])) (2 ∷ 0 ∷ []) ≡ replied false)
    × (replay_of (sheet_once 2 (act 0 ∷ act 2 ∷ together 0 1 ∷ [])) (0 ∷ []) ≡ replied false)
    -- (act 0 together with act 2); test 1, D 3: the test holds after act 0 and does not after act 2
    × (plan_of (sheet_once 3 (act 0 ∷ act 2 ∷ together 0 1 ∷ test 1 ∷ sequence 2 3 ∷ [])) ≡ found (2 ∷ 0 ∷ []) 3))
    -- 10 "a step of a leaves (rest together with the iteration). Always final"
    -- (iteration of act 0); act 1, D 2: final after a round
    ∷ ((plan_of (sheet_of 2 (act 0 ∷ iteration 0 ∷ act 1 ∷ sequence 1 2 ∷ [])) ≡ found (0 ∷ 1 ∷ []) 2)
    -- iteration of (act 0; act 2), D 4: rounds interleave, where those of star do not; each round ends
    × (replay_of (sheet_once 4 (act 0 ∷ act 2 ∷ sequence 0 1 ∷ iteration 2 ∷ [])) (0 ∷ 0 ∷ 2 ∷ 2 ∷ []) ≡ replied true)
    × (replay_of (sheet_once 4 (act 0 ∷ act 2 ∷ sequence 0 1 ∷ star 2 ∷ [])) (0 ∷ 0 ∷ 2 ∷ 2 ∷ []) ≡ replied false)
    × (replay_of (sheet_once 4 (act 0 ∷ act 2 ∷ sequence 0 1 ∷ iteration 2 ∷ [])) (0 ∷ 0 ∷ 2 ∷ []) ≡ replied false)
    -- iteration of (act 0 | (act 2; test 1)), D 3: the test does not hold after act 2 and holds after another round's act 0
    × (replay_of (sheet_once 3 (act 0 ∷ act 2 ∷ test 1 ∷ sequence 1 2 ∷ choice 0 3 ∷ iteration 4 ∷ [])) (2 ∷ 0 ∷ []) ≡ replied true)
    × (replay_of (sheet_once 3 (act 0 ∷ act 2 ∷ test 1 ∷ sequence 1 2 ∷ choice 0 3 ∷ star 4 ∷ [])) (2 ∷ 0 ∷ []) ≡ replied false))
    ∷ []

-- document 02, F-1: "the plan is the first: fewest transitions, and among those the history that is smaller at the first differing entry, a
-- proper beginning counting as smaller"
abbrev pub firsts : List (Type 0)
firsts =
    -- star(act 0); act 1, D 12: no more transitions than needed
    (plan_of (sheet_of 12 star_then_act) ≡ found (0 ∷ 1 ∷ []) 2)
    -- (act 0; act 0) | act 2, D 2: fewer transitions, although the history is larger
    ∷ (plan_of (sheet_once 2 (act 0 ∷ sequence 0 0 ∷ act 2 ∷ choice 1 2 ∷ [])) ≡ found (2 ∷ []) 1)
    -- act 2 | act 0, D 1: the smaller entry, although it is listed later
    ∷ (plan_of (sheet_once 1 (act 2 ∷ act 0 ∷ choice 0 1 ∷ [])) ≡ found (0 ∷ []) 1)
    -- (act 0; act 2) | (act 0; test 3), D 2: a proper beginning
    ∷ (plan_of (sheet_once 2 (act 0 ∷ act 2 ∷ sequence 0 1 ∷ test 3 ∷ sequence 0 3 ∷ choice 2 4 ∷ [])) ≡ found (0 ∷ []) 2)
    -- ((act 0; test 3) | (act 0; act 0)); act 2, D 3: 0 is smaller than 0 0, but 0 2 is larger than 0 0 2
    ∷ (plan_of (sheet_once 3 (act 0 ∷ test 3 ∷ sequence 0 1 ∷ sequence 0 0 ∷ choice 2 3 ∷ act 2 ∷ sequence 4 5 ∷ [])) ≡ found (0 ∷ 0 ∷ 2 ∷ []) 3)
    ∷ []

-- document 02, F-2: "An action with two holding effects that give one fluent different values is now impossible, like one whose precondition
-- fails; equal values are fine"
abbrev pub conflicts : List (Type 0)
conflicts =
    -- values 1 and 1, neither of which fluent 0 has yet: act 2, D 1
    (plan_of (sheet_with (effect 0 1 ∷ effect 0 1 ∷ []) 1 (act 2 ∷ [])) ≡ found (2 ∷ []) 1)
    -- values 1 and, where fluent 0 is not 0, 2: act 2 once, since in the old values the second condition fails; not twice, since then it holds
    ∷ ((plan_of (sheet_with (effect 0 1 ∷ effect_if 4 0 2 ∷ []) 1 (act 2 ∷ [])) ≡ found (2 ∷ []) 1)
    × (plan_of (sheet_with (effect 0 1 ∷ effect_if 4 0 2 ∷ []) 2 (act 2 ∷ sequence 0 0 ∷ [])) ≡ refused_by 13)
    × (replay_of (sheet_with (effect 0 1 ∷ effect_if 4 0 2 ∷ []) 2 (act 2 ∷ sequence 0 0 ∷ [])) (2 ∷ 2 ∷ []) ≡ replied false))
    -- a conflict on another fluent than the first effect's
    ∷ (plan_of (sheet_with (effect 0 1 ∷ effect 1 1 ∷ effect 1 2 ∷ []) 1 (act 2 ∷ [])) ≡ refused_by 13)
    -- and one with an effect on another fluent between
    ∷ (plan_of (sheet_with (effect 0 1 ∷ effect 1 1 ∷ effect 0 2 ∷ []) 1 (act 2 ∷ [])) ≡ refused_by 13)
    -- star(act 2) over act 0, D 1: the second goes where act 2 conflicts, and does not where it is possible
    ∷ ((plan_of (sheet_twice 1 (act 2 ∷ star 0 ∷ act 0 ∷ over 1 2 ∷ [])) ≡ found (0 ∷ []) 1)
    × (plan_of (sheet_once 1 (act 2 ∷ star 0 ∷ act 0 ∷ over 1 2 ∷ [])) ≡ refused_by 14))
    -- interrupt true, act 2, D 2: stopped at once where act 2 conflicts, and never where it is possible
    ∷ ((plan_of (sheet_twice 2 (act 2 ∷ interrupt 3 0 ∷ [])) ≡ found (65534 ∷ 65535 ∷ []) 2)
    × (plan_of (sheet_once 2 (act 2 ∷ interrupt 3 0 ∷ [])) ≡ refused_by 14))
    ∷ []

-- formulas of every kind over four fluents: 0 true; 1 false; 2 fluent 2 is 1; 3 fluent 3 is less than 2; 4 fluents 0 and 3 are equal; 5 not 2;
-- 6 both 2 and 4; 7 one of 3 and 5
abbrev every : Table
every =
    (0 ∷ 0 ∷ 0 ∷ 0 ∷ 0 ∷ 0 ∷ [])
    ∷ (1 ∷ 0 ∷ 0 ∷ 0 ∷ 0 ∷ 0 ∷ [])
    ∷ (2 ∷ 2 ∷ 1 ∷ 0 ∷ 0 ∷ 0 ∷ [])
    ∷ (3 ∷ 3 ∷ 2 ∷ 0 ∷ 0 ∷ 0 ∷ [])
    ∷ (4 ∷ 0 ∷ 3 ∷ 0 ∷ 0 ∷ 0 ∷ [])
    ∷ (5 ∷ 0 ∷ 2 ∷ 0 ∷ 0 ∷ 0 ∷ [])
    ∷ (6 ∷ 0 ∷ 2 ∷ 0 ∷ 4 ∷ 0 ∷ [])
    ∷ (7 ∷ 0 ∷ 3 ∷ 0 ∷ 5 ∷ 0 ∷ [])
    ∷ []

-- what formula q of these names, as a number
abbrev set_of : (q : ℕ) → ℕ
set_of q = formula_set (formula_at (flatten every)) q

-- what an action with precondition 2 names, whose effects these are
abbrev set_with : (own : Table) → ℕ
set_with own = action_set (formula_at (flatten every)) (effect_at (flatten own)) (action_at (flatten (action 2 0 (length own) ∷ [])) 0)

-- document 01's sheet with a fluent 2, size 3, that starts with v and that no formula names; its effects may give it values
abbrev sheet_beside : (v d : ℕ) → (programs : Table) → List ℕ
sheet_beside v d programs = sheet (fluents_from 1 ++ ((3 ∷ v ∷ []) ∷ [])) formulas (effects ++ (effect 2 1 ∷ [])) (action 0 0 1 ∷ action 2 1 2 ∷ []) programs d

-- document 02, F-5: "a 32-bit set (bit x for fluent x) of the fluents its formula names, through all its subformulas"
abbrev pub named : List (Type 0)
named =
    -- each kind
    ((set_of 0 ≡ 0) × (set_of 1 ≡ 0) × (set_of 2 ≡ 4) × (set_of 3 ≡ 8) × (set_of 4 ≡ 9) × (set_of 5 ≡ 4) × (set_of 6 ≡ 13) × (set_of 7 ≡ 12))
    -- "the union for its precondition and its effects' conditions": under true fluent 0, under formula 4, which need not hold, fluent 1
    ∷ ((set_with [] ≡ 4) × (set_with (effect_if 0 0 1 ∷ []) ≡ 4) × (set_with (effect_if 0 0 1 ∷ effect_if 4 1 1 ∷ []) ≡ 13))
    -- "the union over its formula table"
    ∷ ((check_of (sheet (replicate 4 (3 ∷ 0 ∷ [])) every [] [] (nil ∷ []) 0) ≡ accepted_with 67 13) × (check_of (sheet_beside 0 2 star_then_act) ≡ accepted_with 273 3))
    -- another initial value of a fluent outside it: the same
    ∷ ((check_of (sheet_beside 2 2 star_then_act) ≡ accepted_with 273 3)
    × (plan_of (sheet_beside 0 2 star_then_act) ≡ found (0 ∷ 1 ∷ []) 2)
    × (plan_of (sheet_beside 2 2 star_then_act) ≡ found (0 ∷ 1 ∷ []) 2)
    × (replay_of (sheet_beside 0 2 star_then_act) (1 ∷ []) ≡ replied false)
    × (replay_of (sheet_beside 2 2 star_then_act) (1 ∷ []) ≡ replied false))
    -- of one inside it: another answer
    ∷ ((plan_of (sheet (fluents_from 1) formulas effects actions (act 1 ∷ []) 1) ≡ refused_by 13)
    × (plan_of (sheet (fluents_from 0) formulas effects actions (act 1 ∷ []) 1) ≡ found (1 ∷ []) 1))
    ∷ []

-- n fluents that are always 0, and the root nil
abbrev fluents_sheet : (n : ℕ) → List ℕ
fluents_sheet n = sheet (replicate n (1 ∷ 0 ∷ [])) [] [] [] (nil ∷ []) 0

-- program records of height h: nil under h stars
abbrev stars : (h : ℕ) → Table
stars zero = nil ∷ []
stars (suc h) = stars h ++ (star h ∷ [])

-- document 01, "Edges": those of the check
abbrev pub edges : List (Type 0)
edges =
    -- "33 fluents 2, 32 pass"
    ((check_of (fluents_sheet 33) ≡ refused 2 0) × (check_of (fluents_sheet 32) ≡ accepted_with 67 0))
    -- "D 65 gives 2, 64 passes"
    ∷ ((check_of (sheet_of 65 (nil ∷ [])) ≡ refused 2 0) × (check_of (sheet_of 64 (nil ∷ [])) ≡ accepted_with 4355 3))
    -- "height 17 gives 9, 16 passes"
    ∷ ((check_of (sheet_of 1 (stars 17)) ≡ refused 9 0) × (check_of (sheet_of 1 (stars 16)) ≡ accepted_with 326 3))
    ∷ []
