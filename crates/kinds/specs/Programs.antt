-- Own vocabulary: what each kind of program record is and does, a column for each question, a place for each of the kinds 0 nil, 1 act,
-- 2 test, 3 a;b, 4 a|b, 5 star, 6 if, 7 while, 8 together, 9 over, 10 concurrent iteration, 11 interrupt, 12 choice of a value. That the
-- fields' roles are document 01's rule is proved in proofs/ProgramFields.antt; that no kind does more, or less, than the columns say, in
-- remaining/proofs/Same.antt. Of 12 the columns say what it is with one value; what it does with each is said there. The functions of these
-- names are in src/programs.rt. Assumes nothing.
use Rattle.std.specs.Prelude.{ℕ, ◌+◌, min, Bool, true, false, not, cond, ◌&&◌, ◌||◌, List, [], ◌∷◌, eqb, ltb, leb, get_or, Option, Some, None}
use Rattle.records.specs.declared.Program.{Program}
use Rattle.kinds.specs.declared.programs.Kind.{Kind}
use Rattle.kinds.specs.declared.programs.Kind.TheVariants.{Nil, Act, Test, Sequence, Choice, Star, If, While, Together, Over, Iteration, Interrupt, Pick}
use Rattle.kinds.specs.declared.programs.Field.{Field}
use Rattle.kinds.specs.declared.programs.Field.TheVariants.{Unused, Action, Formula, Record, Choices, Placeholder}

-- the kind of a number, and its number
abbrev pub kind_of : ℕ → Option Kind
kind_of number =
    get_or
    (
    Some Nil ∷ Some Act ∷ Some Test ∷ Some Sequence ∷ Some Choice ∷ Some Star ∷ Some If ∷ Some While ∷ Some Together ∷ Some Over
    ∷ Some Iteration ∷ Some Interrupt ∷ Some Pick ∷ []
    )
    number None

abbrev pub number_of : Kind → ℕ
number_of Nil = 0
number_of Act = 1
number_of Test = 2
number_of Sequence = 3
number_of Choice = 4
number_of Star = 5
number_of If = 6
number_of While = 7
number_of Together = 8
number_of Over = 9
number_of Iteration = 10
number_of Interrupt = 11
number_of Pick = 12

-- what a, b and c are
unfoldable pub field_a : ℕ → Field
field_a kind =
    get_or (Unused ∷ Action ∷ Formula ∷ Record ∷ Record ∷ Record ∷ Record ∷ Record ∷ Record ∷ Record ∷ Record ∷ Record ∷ Choices ∷ []) kind Unused

unfoldable pub field_b : ℕ → Field
field_b kind =
    get_or (Unused ∷ Unused ∷ Unused ∷ Record ∷ Record ∷ Unused ∷ Record ∷ Unused ∷ Record ∷ Record ∷ Unused ∷ Unused ∷ Record ∷ []) kind Unused

unfoldable pub field_c : ℕ → Field
field_c kind =
    get_or (Unused ∷ Unused ∷ Unused ∷ Unused ∷ Unused ∷ Unused ∷ Formula ∷ Formula ∷ Unused ∷ Unused ∷ Unused ∷ Formula ∷ Placeholder ∷ []) kind Unused

-- a field keeps its role, in record i of a sheet with nq formulas and na actions
abbrev pub field_ok : (nq na i : ℕ) → Field → ℕ → Bool
field_ok nq na i Unused x = eqb x 0
field_ok nq na i Action x = ltb x na
field_ok nq na i Formula x = ltb x nq
field_ok nq na i Record x = ltb x i
field_ok nq na i Choices x = ltb 0 x && leb x 16
field_ok nq na i Placeholder x = ltb x 2

-- the kind is known, and each field keeps its role
unfoldable pub program_ok : (nq na i : ℕ) → Program → Bool
program_ok nq na i r =
    leb r.kind 11
    && field_ok nq na i (field_a r.kind) r.a
    && field_ok nq na i (field_b r.kind) r.b
    && field_ok nq na i (field_c r.kind) r.c

abbrev pub is_action : Field → Bool
is_action Unused = false
is_action Action = true
is_action Formula = false
is_action Record = false
is_action Choices = false
is_action Placeholder = false

abbrev pub is_formula : Field → Bool
is_formula Unused = false
is_formula Action = false
is_formula Formula = true
is_formula Record = false
is_formula Choices = false
is_formula Placeholder = false

abbrev pub is_record : Field → Bool
is_record Unused = false
is_record Action = false
is_record Formula = false
is_record Record = true
is_record Choices = false
is_record Placeholder = false

-- its part a, its part b is a program record
abbrev pub has_a : ℕ → Bool
has_a kind = is_record (field_a kind)

abbrev pub has_b : ℕ → Bool
has_b kind = is_record (field_b kind)

-- its c is a formula
abbrev pub has_condition : ℕ → Bool
has_condition kind = is_formula (field_c kind)

-- it chooses a value
abbrev pub picks : ℕ → Bool
picks kind = eqb kind 12

-- it performs the action a; it tests the formula a
abbrev pub acts : ℕ → Bool
acts kind = is_action (field_a kind)

abbrev pub tests : ℕ → Bool
tests kind = is_formula (field_a kind)

-- a link, where there is one, before the others
abbrev pub link_if : Bool → ℕ → List ℕ → List ℕ
link_if true a more = a ∷ more
link_if false a more = more

-- the program records that a record names
unfoldable pub links : Program → List ℕ
links r = link_if (has_a r.kind) r.a (link_if (has_b r.kind) r.b [])

-- it is final: fa, fb, its parts are; h, c holds; running, interrupts run
unfoldable pub final_of : (kind : ℕ) (fa fb h running : Bool) → Bool
final_of kind fa fb h running =
    get_or
    (
    true ∷ false ∷ false ∷ (fa && fb) ∷ (fa || fb) ∷ true ∷ ((h && fa) || (not h && fb)) ∷ (not h || fa) ∷ (fa && fb)
    ∷ (fa && fb) ∷ true ∷ (not running || (h && fa)) ∷ fb ∷ []
    )
    kind true

-- the same by what the formulas say, and by what is tabled of lower records
unfoldable pub final_by : Program → (truths : List Bool) (running : Bool) (finals : List Bool) → Bool
final_by r truths running finals = final_of r.kind (get_or finals r.a true) (get_or finals r.b true) (get_or truths r.c false) running

-- where a and b say it of its parts: with `most`, whether it may be final in some state; without, whether it is in every one
unfoldable pub final_bound_of : (kind : ℕ) (most a b : Bool) → Bool
final_bound_of kind most a b =
    get_or
    (
    true ∷ false ∷ false ∷ (a && b) ∷ (a || b) ∷ true ∷ ((a && b) || (most && (a || b))) ∷ (most || a) ∷ (a && b) ∷ (a && b)
    ∷ true ∷ most ∷ b ∷ []
    )
    kind true

-- the same by what is tabled of lower records
unfoldable pub final_bound_by : Program → (most : Bool) (marks : List Bool) → Bool
final_bound_by r most marks = final_bound_of r.kind most (get_or marks r.a true) (get_or marks r.b true)

-- it has a transition of its own, by what its a is: can, action a is possible; passes, formula a holds
abbrev pub own_by : Field → (can passes : Bool) → Bool
own_by Unused can passes = false
own_by Action can passes = can
own_by Formula can passes = passes
own_by Record can passes = false
own_by Choices can passes = false
own_by Placeholder can passes = false

abbrev pub own_of : (kind : ℕ) (can passes : Bool) → Bool
own_of kind can passes = own_by (field_a kind) can passes

-- it may have one
abbrev pub has_own : ℕ → Bool
has_own kind = own_of kind true true

-- the transitions of a are among its own
unfoldable pub uses_a : (kind : ℕ) (h running : Bool) → Bool
uses_a kind h running = get_or (false ∷ false ∷ false ∷ true ∷ true ∷ true ∷ h ∷ h ∷ true ∷ true ∷ true ∷ (running && h) ∷ []) kind false

-- the transitions of b are among its own; idle, a has none
unfoldable pub uses_b : (kind : ℕ) (fa h idle : Bool) → Bool
uses_b kind fa h idle = get_or (false ∷ false ∷ false ∷ fa ∷ true ∷ false ∷ not h ∷ false ∷ true ∷ idle ∷ []) kind false

-- what a transition of a leaves stands in a construct of this kind, left of a sibling; 0 where it stands alone
unfoldable pub tag_a : ℕ → ℕ
tag_a kind = get_or (0 ∷ 0 ∷ 0 ∷ 3 ∷ 0 ∷ 3 ∷ 0 ∷ 3 ∷ 8 ∷ 9 ∷ 8 ∷ 3 ∷ []) kind 0

-- that sibling is the record itself, or else its part b
unfoldable pub loops : ℕ → Bool
loops kind = get_or (false ∷ false ∷ false ∷ false ∷ false ∷ true ∷ false ∷ true ∷ false ∷ false ∷ true ∷ true ∷ []) kind false

-- what a transition of b leaves stands in a construct of this kind, right of a; 0 where it stands alone
unfoldable pub tag_b : ℕ → ℕ
tag_b kind = get_or (0 ∷ 0 ∷ 0 ∷ 0 ∷ 0 ∷ 0 ∷ 0 ∷ 0 ∷ 8 ∷ 9 ∷ []) kind 0

-- how many transitions it has, where its parts have ca and cb: its own, those of a and those of b (proofs/Counting.antt)
unfoldable pub count_of : (kind : ℕ) (can passes fa h running : Bool) (ca cb : ℕ) → ℕ
count_of kind can passes fa h running ca cb =
    get_or
    (
    0 ∷ cond can 1 0 ∷ cond passes 1 0 ∷ (ca + cond fa cb 0) ∷ (ca + cb) ∷ ca ∷ cond h ca cb ∷ cond h ca 0 ∷ (ca + cb)
    ∷ (ca + cond (eqb ca 0) cb 0) ∷ ca ∷ cond (running && h) ca 0 ∷ []
    )
    kind 0

-- the same by what the formulas say, and by what is tabled of lower records; can, its action is possible
unfoldable pub count_by : Program → (can : Bool) (truths : List Bool) (running : Bool) (finals : List Bool) (counts : List ℕ) → ℕ
count_by r can truths running finals counts =
    count_of r.kind can (get_or truths r.a false) (get_or finals r.a true) (get_or truths r.c false) running (get_or counts r.a 0)
    (get_or counts r.b 0)

-- how many of them are its part a's: they come first
unfoldable pub first_by : Program → (truths : List Bool) (running : Bool) (counts : List ℕ) → ℕ
first_by r truths running counts = cond (uses_a r.kind (get_or truths r.c false) running) (get_or counts r.a 0) 0

-- how far it is from its end at least, in transitions and whatever the states, where its parts are da and db from theirs
unfoldable pub distance_of : (kind da db : ℕ) → ℕ
distance_of kind da db = get_or (0 ∷ 1 ∷ 1 ∷ (da + db) ∷ min da db ∷ 0 ∷ min da db ∷ 0 ∷ (da + db) ∷ (da + db) ∷ 0 ∷ 0 ∷ db ∷ []) kind 0

-- the same by what is tabled of lower records
unfoldable pub distance_by : Program → (distances : List ℕ) → ℕ
distance_by r distances = distance_of r.kind (get_or distances r.a 0) (get_or distances r.b 0)
