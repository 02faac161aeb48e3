-- Own vocabulary: a sheet with placeholders, written out (document 02, F-6; 000, section 4.1, where π puts its argument in); to be believed
-- once such sheets are accepted. Each record is read in each environment: what it names is read in the same one, and where a placeholder
-- stood its value stands. A formula that goes through values, and a choice of a value, name what is read with another value put in
-- (kinds/specs/Truth.antt, Prog.antt): so an inner one hides an outer one, and nothing outside sees its value. Assumes nothing.
use Rattle.std.specs.Prelude.{ℕ, ◌+◌, ◌-◌, ◌*◌, ◌/◌, ◌%◌, Bool, true, false, not, cond, ◌&&◌, ◌||◌, List, [], ◌∷◌, eqb, ltb, get_or}
use Rattle.records.specs.declared.Formula.{Formula}
use Rattle.records.specs.declared.Effect.{Effect}
use Rattle.records.specs.declared.Action.{Action}
use Rattle.records.specs.declared.Program.{Program}
use Rattle.records.specs.Table.{entry_of}
use Rattle.records.specs.Placeholders.{look, reading, read_in, environment_of}
use Rattle.golog.specs.World.{World, special}

-- a formula with other fields a and b
abbrev pub formula_with : Formula → (a b : ℕ) → Formula
formula_with r a b = record { kind = r.kind; x = r.x; a = a; b = b }

-- a formula, read in e
unfoldable pub formula_read : (e : ℕ) → Formula → Formula
formula_read e r =
    get_or
    (
    r ∷  -- 0 true
    r ∷  -- 1 false
    r ∷  -- 2 fluent x has value a
    r ∷  -- 3 fluent x is less than a
    r ∷  -- 4 fluents x and a have equal values
    formula_with r (reading r.a e) r.b ∷  -- 5 not a
    formula_with r (reading r.a e) (reading r.b e) ∷  -- 6 a and b
    formula_with r (reading r.a e) (reading r.b e) ∷  -- 7 a or b
    formula_with r (look e r.a) r.b ∷  -- 8 fluent x equals placeholder a
    formula_with r (reading r.a e) r.b ∷  -- 9 for some value below x in placeholder b, a
    formula_with r (reading r.a e) r.b ∷  -- 10 for every value below x in placeholder b, a
    []
    )
    r.kind r

-- "Effect value bytes 16 and 17 mean placeholders 0 and 1"
abbrev pub resolved : (e value : ℕ) → ℕ
resolved e value = cond (ltb value 16) value (look e (value - 16))

-- an effect, read in e
abbrev pub effect_read : (e : ℕ) → Effect → Effect
effect_read e r = record { condition = reading r.condition e; fluent = r.fluent; value = resolved e r.value }

-- an action, read in e: its effects are numbered so that a range stays one
abbrev pub action_read : (e : ℕ) → Action → Action
action_read e r = record { precondition = reading r.precondition e; first = 512 * e + r.first; count = r.count }

-- "A history entry is the action number + 64 × placeholder 0 + 1024 × placeholder 1 as they were when it was performed; start and stop keep
-- their entries"
abbrev pub entry_in : (a e : ℕ) → ℕ
entry_in a e = cond (special a) a (a + 64 * e)

-- the world of a sheet written out: formulas by record and environment, effects by environment and record, actions by entries
abbrev pub written_world : World → World
written_world W = record {
  size = W.size;
  formula = λ (n : ℕ). formula_read (environment_of n) (W.formula (read_in n));
  effect = λ (n : ℕ). effect_read (n / 512) (W.effect (n % 512));
  action = λ (n : ℕ). action_read (n / 64) (W.action (n % 64));
}

-- a program record with other fields
abbrev pub program_with : Program → (a b c : ℕ) → Program
program_with r a b c = record { kind = r.kind; a = a; b = b; c = c }

-- a program record, read in e, where n values are listed for it if it chooses one
unfoldable pub program_read : (e n : ℕ) → Program → Program
program_read e n r =
    let a = reading r.a e in
    let b = reading r.b e in
    let c = reading r.c e in
    get_or
    (
    r ∷  -- 0 nil
    program_with r (entry_in r.a e) r.b r.c ∷  -- 1 act a
    program_with r a r.b r.c ∷  -- 2 test a
    program_with r a b r.c ∷  -- 3 a;b
    program_with r a b r.c ∷  -- 4 a|b
    program_with r a r.b r.c ∷  -- 5 star a
    program_with r a b c ∷  -- 6 if c then a else b
    program_with r a r.b c ∷  -- 7 while c do a
    program_with r a b r.c ∷  -- 8 a together with b
    program_with r a b r.c ∷  -- 9 a over b
    program_with r a r.b r.c ∷  -- 10 concurrent iteration of a
    program_with r a r.b c ∷  -- 11 interrupt c, a
    program_with r n b r.c ∷  -- 12 for some value below a in placeholder c, b
    []
    )
    r.kind r

-- the value in placeholder c stands somewhere in what a record unfolds to, given of which lower ones it does: in each act and each condition
abbrev pub sees_of : Program → (c : ℕ) → (lower : List Bool) → Bool
sees_of r c lower =
    let a = get_or lower r.a false in
    let b = get_or lower r.b false in
    get_or (false ∷ true ∷ true ∷ (a || b) ∷ (a || b) ∷ a ∷ true ∷ true ∷ (a || b) ∷ (a || b) ∷ a ∷ true ∷ (b && not (eqb r.c c)) ∷ []) r.kind false

unfoldable pub sees : (ℕ → Program) → (c i : ℕ) → Bool
sees p c i = entry_of false (λ (j : ℕ) (lower : List Bool). sees_of (p j) c lower) i

-- how many values are listed: one stands for all where b does not see them, since b is then the same program with each. That the choice is
-- of every value below a is proved in remaining/proofs/Chosen.antt
abbrev pub span_of : (ℕ → Program) → (i : ℕ) → ℕ
span_of p i = cond (sees p (p i).c (p i).b) (p i).a 1

-- the program records of a sheet written out: record i, read in e, has the number 256 × i + e
abbrev pub written_records : (ℕ → Program) → ℕ → Program
written_records p n = program_read (environment_of n) (span_of p (read_in n)) (p (read_in n))
