-- To be believed: programs: the paper's constructs as a tree, unfolded from a table of records. Where there are placeholders, these are
-- records read in an environment (Written.antt). Assumes nothing.
use Rattle.std.specs.Prelude.{ℕ, Bool, true, false, List, [], ◌∷◌, get_or}
use Rattle.records.specs.declared.Program.{Program}
use Rattle.records.specs.Table.{entry_of}
use Rattle.records.specs.Placeholders.{put_in}
use Rattle.golog.specs.World.{start, stop}

-- the thirteen constructs: actions by their entries in a history, formulas by number
pub data Prog : Type 0 where
  nil : Prog
  act test : ℕ → Prog
  sequence choice together over : Prog → Prog → Prog
  star iteration : Prog → Prog
  if_then_else : ℕ → Prog → Prog → Prog
  while interrupt : ℕ → Prog → Prog
  -- nondeterministic choice of argument (π): for some value below a number, the program with that value put in
  pick : ℕ → (ℕ → Prog) → Prog

-- document 01, "Program" and "Steps and endings": the program of a record, given those of its parts a and b, and of b with each value put in
unfoldable pub construct : Program → (P Q : Prog) (F : ℕ → Prog) → Prog
construct r P Q F =
    get_or
    (
    nil ∷  -- 0 nil
    act r.a ∷  -- 1 act a
    test r.a ∷  -- 2 test a
    sequence P Q ∷  -- 3 a;b
    choice P Q ∷  -- 4 a|b
    star P ∷  -- 5 star a
    if_then_else r.c P Q ∷  -- 6 if c then a else b
    while r.c P ∷  -- 7 while c do a
    together P Q ∷  -- 8 a together with b
    over P Q ∷  -- 9 a over b
    iteration P ∷  -- 10 concurrent iteration of a
    interrupt r.c P ∷  -- 11 interrupt c, a
    pick r.a F ∷  -- 12 for some value below a in placeholder c, b
    []
    )
    r.kind nil

-- a record, given the programs of the lower ones
abbrev pub prog_of : Program → (lower : List Prog) → Prog
prog_of r lower = construct r (get_or lower r.a nil) (get_or lower r.b nil) (λ (v : ℕ). get_or lower (put_in r.b r.c v) nil)

-- record i of the table p, given the lower ones
abbrev pub prog_at : (ℕ → Program) → ℕ → (lower : List Prog) → Prog
prog_at p i lower = prog_of (p i) lower

-- the program of record i of the table p
unfoldable pub program_of : (ℕ → Program) → ℕ → Prog
program_of p i = entry_of nil (prog_at p) i

-- "If any program record has kind 11, what runs is: start; (root over stop)" (000, section 5: {start_interrupts; (δ ≫ stop_interrupts)})
abbrev pub started : (interrupts : Bool) → (root : Prog) → Prog
started true root = sequence (act start) (over root (act stop))
started false root = root
