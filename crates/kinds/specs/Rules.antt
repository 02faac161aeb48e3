-- To be believed: the rule that a formula and a program record keeps, kind by kind, and which program records a record links to, in the
-- words of document 01 ("The sheet, read from its end"): "Every number that names a record must name one that exists. Unused fields
-- are 0." nf, nq, na are the numbers of fluents, formulas and actions. That the tests of Formulas.antt and Programs.antt decide these
-- rules, and `links` lists the links, is proved in proofs/FormulaFields.antt and proofs/ProgramFields.antt. Assumes nothing.
use Rattle.std.specs.Prelude.{◌≡◌, ◌⊎◌, ℕ, ◌≤◌, ◌<◌}
use Rattle.records.specs.declared.Formula.{Formula}
use Rattle.records.specs.declared.Program.{Program}

-- formula i, where size is the domain size of fluent x. "In 5 to 7, a and b are formulas with lower numbers"
abbrev pub FormulaRule : (nf size i : ℕ) → Formula → Type 0
FormulaRule nf size i r =
    -- "0 true"
    ((r.kind ≡ 0) × (r.x ≡ 0) × (r.a ≡ 0) × (r.b ≡ 0))
    -- "1 false"
    ⊎ ((r.kind ≡ 1) × (r.x ≡ 0) × (r.a ≡ 0) × (r.b ≡ 0))
    -- "2 fluent x has value a (a below its size)"
    ⊎ ((r.kind ≡ 2) × (r.x < nf) × (r.a < size) × (r.b ≡ 0))
    -- "3 fluent x is less than a (a at most its size)"
    ⊎ ((r.kind ≡ 3) × (r.x < nf) × (r.a ≤ size) × (r.b ≡ 0))
    -- "4 fluents x and a have equal values"
    ⊎ ((r.kind ≡ 4) × (r.x < nf) × (r.a < nf) × (r.b ≡ 0))
    -- "5 not a"
    ⊎ ((r.kind ≡ 5) × (r.x ≡ 0) × (r.a < i) × (r.b ≡ 0))
    -- "6 a and b"
    ⊎ ((r.kind ≡ 6) × (r.x ≡ 0) × (r.a < i) × (r.b < i))
    -- "7 a or b"
    ⊎ ((r.kind ≡ 7) × (r.x ≡ 0) × (r.a < i) × (r.b < i))

-- program record i. "a and b are lower program records, but in 1 an action and in 2 a formula; c is a formula"
abbrev pub ProgramRule : (nq na i : ℕ) → Program → Type 0
ProgramRule nq na i r =
    -- "0 nil"
    ((r.kind ≡ 0) × (r.a ≡ 0) × (r.b ≡ 0) × (r.c ≡ 0))
    -- "1 act a"
    ⊎ ((r.kind ≡ 1) × (r.a < na) × (r.b ≡ 0) × (r.c ≡ 0))
    -- "2 test a"
    ⊎ ((r.kind ≡ 2) × (r.a < nq) × (r.b ≡ 0) × (r.c ≡ 0))
    -- "3 a;b"
    ⊎ ((r.kind ≡ 3) × (r.a < i) × (r.b < i) × (r.c ≡ 0))
    -- "4 a|b"
    ⊎ ((r.kind ≡ 4) × (r.a < i) × (r.b < i) × (r.c ≡ 0))
    -- "5 star a"
    ⊎ ((r.kind ≡ 5) × (r.a < i) × (r.b ≡ 0) × (r.c ≡ 0))
    -- "6 if c then a else b"
    ⊎ ((r.kind ≡ 6) × (r.a < i) × (r.b < i) × (r.c < nq))
    -- "7 while c do a"
    ⊎ ((r.kind ≡ 7) × (r.a < i) × (r.b ≡ 0) × (r.c < nq))
    -- "8 a together with b"
    ⊎ ((r.kind ≡ 8) × (r.a < i) × (r.b < i) × (r.c ≡ 0))
    -- "9 a over b"
    ⊎ ((r.kind ≡ 9) × (r.a < i) × (r.b < i) × (r.c ≡ 0))
    -- "10 concurrent iteration of a"
    ⊎ ((r.kind ≡ 10) × (r.a < i) × (r.b ≡ 0) × (r.c ≡ 0))
    -- "11 interrupt c, a"
    ⊎ ((r.kind ≡ 11) × (r.a < i) × (r.b ≡ 0) × (r.c < nq))

-- the kinds whose a and b are program records: a;b, a|b, if, together, over
abbrev pub TwoParts : ℕ → Type 0
TwoParts kind = (kind ≡ 3) ⊎ (kind ≡ 4) ⊎ (kind ≡ 6) ⊎ (kind ≡ 8) ⊎ (kind ≡ 9)

-- the kinds whose a alone is one: star, while, concurrent iteration, interrupt
abbrev pub OnePart : ℕ → Type 0
OnePart kind = (kind ≡ 5) ⊎ (kind ≡ 7) ⊎ (kind ≡ 10) ⊎ (kind ≡ 11)

-- the kind whose b alone is one: choice of a value (document 02, F-6)
abbrev pub PartB : ℕ → Type 0
PartB kind = kind ≡ 12

-- a link from a program record to program record j
abbrev pub Link : Program → ℕ → Type 0
Link r j = (TwoParts r.kind × ((j ≡ r.a) ⊎ (j ≡ r.b))) ⊎ (OnePart r.kind × (j ≡ r.a)) ⊎ (PartB r.kind × (j ≡ r.b))
