-- A table whose records name lower ones, read in environments (golog/specs/Written.antt), is such a table again, of the same heights; and
-- the program of a reading is made of readings. Assumes nothing.
use mathlib.Core.Path.{◌≡◌, refl, sym, ◌∙◌, ap, ap₂, subst, fun_ext}
use mathlib.Core.List.Memᴰ
use mathlib.Core.List.{List, [], ◌∷◌, map, Memᴰ}
use Prim.Native.Nat.{ℕ, zero, suc, ◌<◌, max}
use native.Mathlib.Omega.{arith}
use borrow.Author.Tests.{eqb-true}
use lib.Dec.{T}
use Rattle.records.specs.declared.Program.{Program}
use Rattle.records.specs.Placeholders.{environments, put, reading, read_in, environment_of, put_in}
use Rattle.records.proofs.Placeholders.{environment_small, read_in_lem, environment_of_lem, put_small, put_reading}
use Rattle.records.proofs.Truth.{is_true}
use Rattle.kinds.specs.declared.programs.Field.{Field}
use Rattle.kinds.specs.declared.programs.Field.TheVariants.{Unused, Action, Formula, Record, Choices, Placeholder}
use Rattle.kinds.specs.Programs.{field_a, field_b, field_c, is_action, is_formula, is_record, has_a, has_b, has_condition, picks, acts, tests, links}
use Rattle.kinds.proofs.ProgramKinds.{by_kind, record_of}
use Rattle.kinds.proofs.ProgramFields.{link_b}
use Rattle.height.specs.Height.{rise}
use Rattle.height.proofs.Paths.{above, rise_above, rise_less}
use Rattle.golog.specs.Written.{entry_in, program_read, span_of, written_records}
use Rattle.golog.specs.Prog.{Prog, pick, construct, program_of}
use Rattle.golog.proofs.Construct.{construct_same, construct_pick}
use Rattle.remaining.specs.Rest.{AllLower}
use Rattle.remaining.proofs.Entries.{chosen, program_step}

-- the kind that chooses a value has a part b
pub picks_b : (kind : ℕ) → T (picks kind) → T (has_b kind)
unfolding field_b
picks_b kind t = let k : kind ≡ 12 = eqb-true kind 12 (is_true (picks kind) t) in rw k tt

-- a record read in e, where n values are listed for it: each field by its role
module _ (e n : ℕ) where
  abbrev pub field_read : Field → ℕ → ℕ
  field_read Unused x = x
  field_read Action x = entry_in x e
  field_read Formula x = reading x e
  field_read Record x = reading x e
  field_read Choices x = n
  field_read Placeholder x = x

  action_read : (f : Field) (x : ℕ) → T (is_action f) → field_read f x ≡ entry_in x e
  action_read Unused x t = absurd t
  action_read Action x t = refl
  action_read Formula x t = absurd t
  action_read Record x t = absurd t
  action_read Choices x t = absurd t
  action_read Placeholder x t = absurd t

  formula_read : (f : Field) (x : ℕ) → T (is_formula f) → field_read f x ≡ reading x e
  formula_read Unused x t = absurd t
  formula_read Action x t = absurd t
  formula_read Formula x t = refl
  formula_read Record x t = absurd t
  formula_read Choices x t = absurd t
  formula_read Placeholder x t = absurd t

  record_read : (f : Field) (x : ℕ) → T (is_record f) → field_read f x ≡ reading x e
  record_read Unused x t = absurd t
  record_read Action x t = absurd t
  record_read Formula x t = absurd t
  record_read Record x t = refl
  record_read Choices x t = absurd t
  record_read Placeholder x t = absurd t

  module _ (r : Program) where
    pub read_fields :
        program_read e n r
        ≡ record_of r.kind (field_read (field_a r.kind) r.a) (field_read (field_b r.kind) r.b) (field_read (field_c r.kind) r.c)
    unfolding program_read field_a field_b field_c
    read_fields =
        by_kind
        (λ (k : ℕ). program_read e n (record_of k r.a r.b r.c)
        ≡ record_of k (field_read (field_a k) r.a) (field_read (field_b k) r.b) (field_read (field_c k) r.c))
        refl refl refl refl refl refl refl refl refl refl refl refl refl (λ k. refl) r.kind

    pub read_kind : (program_read e n r).kind ≡ r.kind
    read_kind = ap (λ (x : Program). x.kind) read_fields

    pub read_a : T (has_a r.kind) → (program_read e n r).a ≡ reading r.a e
    read_a t = ap (λ (x : Program). x.a) read_fields ∙ record_read (field_a r.kind) r.a t

    pub read_b : T (has_b r.kind) → (program_read e n r).b ≡ reading r.b e
    read_b t = ap (λ (x : Program). x.b) read_fields ∙ record_read (field_b r.kind) r.b t

    pub read_act : T (acts r.kind) → (program_read e n r).a ≡ entry_in r.a e
    read_act t = ap (λ (x : Program). x.a) read_fields ∙ action_read (field_a r.kind) r.a t

    pub read_test : T (tests r.kind) → (program_read e n r).a ≡ reading r.a e
    read_test t = ap (λ (x : Program). x.a) read_fields ∙ formula_read (field_a r.kind) r.a t

    pub read_condition : T (has_condition r.kind) → (program_read e n r).c ≡ reading r.c e
    read_condition t = ap (λ (x : Program). x.c) read_fields ∙ formula_read (field_c r.kind) r.c t

    pub read_pick : T (picks r.kind) → ((program_read e n r).a ≡ n) × ((program_read e n r).c ≡ r.c)
    unfolding field_a field_c
    read_pick t =
        let k : r.kind ≡ 12 = eqb-true r.kind 12 (is_true (picks r.kind) t) in
        (ap (λ (x : Program). x.a) read_fields ∙ rw k refl, ap (λ (x : Program). x.c) read_fields ∙ rw k refl)

    -- a choice names its part b with each value put in
    pub read_chosen : e < environments → T (picks r.kind) → (v : ℕ) → put_in (program_read e n r).b (program_read e n r).c v ≡ reading r.b (put e r.c v)
    read_chosen h t v = ap₂ (λ (b c : ℕ). put_in b c v) (read_b (picks_b r.kind t)) (read_pick t).1 ∙ put_reading e h r.b r.c v

    -- what it names is read in e too
    pub read_links : links (program_read e n r) ≡ map (λ (a : ℕ). reading a e) (links r)
    unfolding program_read links field_a field_b
    read_links =
        by_kind (λ (k : ℕ). links (program_read e n (record_of k r.a r.b r.c)) ≡ map (λ (a : ℕ). reading a e) (links (record_of k r.a r.b r.c)))
        refl refl refl refl refl refl refl refl refl refl refl refl refl (λ k. refl) r.kind

-- the same height over links, by other names and heights
above_map : (h g f : ℕ → ℕ) (xs : List ℕ) → ((a : ℕ) → Memᴰ a xs → h (f a) ≡ g a) → above h (map f xs) ≡ above g xs
unfolding above
above_map h g f [] e = refl
above_map h g f (a ∷ xs) e = ap₂ (λ (x y : ℕ). max (suc x) y) (e a (Memᴰ.head refl)) (above_map h g f xs (λ b k. e b (Memᴰ.tail k)))

-- the records of a table name lower ones
abbrev pub Linked : (ℕ → Program) → Type 0
Linked p = (i a : ℕ) → Memᴰ a (links (p i)) → a < i

-- record i, read in e, and its program
abbrev pub program_in : (ℕ → Program) → (i e : ℕ) → Prog
program_in p i e = program_of (written_records p) (reading i e)

pub written_at : (p : ℕ → Program) (i e : ℕ) → e < environments → written_records p (reading i e) ≡ program_read e (span_of p i) (p i)
written_at p i e h = ap₂ (λ (j d : ℕ). program_read d (span_of p j) (p j)) (read_in_lem e h i) (environment_of_lem e h i)

module _ (p : ℕ → Program) (low : Linked p) where
  -- so do its readings
  linked : Linked (written_records p)
  linked n a k =
      let e : ℕ = environment_of n in
      let i : ℕ = read_in n in
      let m = Memᴰ.of_map (λ (b : ℕ). reading b e) (links (p i)) (subst (Memᴰ a) (read_links e (span_of p i) (p i)) k) in
      omega (arith, low i m.0 m.1, m.2)

  -- a reading has the height of its record
  pub rise_read : (n : ℕ) → rise (written_records p) n ≡ rise p (read_in n)
  rise_read n = go (suc n) n (omega arith)
    where
      P : ℕ → Program
      P = written_records p

      go : (m n : ℕ) → n < m → rise P n ≡ rise p (read_in n)
      go zero n l = absurd (omega arith)
      go (suc m) n l =
          let i : ℕ = read_in n in
          let e : ℕ = environment_of n in
          rise_above P (suc n) (λ j a h. linked j a) n (omega arith)
          ∙ ap (above (rise P)) (read_links e (span_of p i) (p i))
          ∙ above_map (rise P) (rise p) (λ (a : ℕ). reading a e) (links (p i))
          (λ a k. go m (reading a e) (omega (arith, low i a k)) ∙ ap (rise p) (read_in_lem e (environment_small n) a))
          ∙ sym (rise_above p (suc i) (λ j a h. low j a) i (omega arith))

  pub written_lower : AllLower (written_records p)
  written_lower = record { linked = linked; picked = picked }
    where
      picked :
          (n v : ℕ) → let r = written_records p n in
          T (picks r.kind) → (put_in r.b r.c v < n) × (rise (written_records p) (put_in r.b r.c v) < rise (written_records p) n)
      picked n v t =
          let e : ℕ = environment_of n in
          let i : ℕ = read_in n in
          let u : T (picks (p i).kind) = subst (λ (k : ℕ). T (picks k)) (read_kind e (span_of p i) (p i)) t in
          let k = link_b (p i) (picks_b (p i).kind u) in
          let d : ℕ = put e (p i).c v in
          let small : d < environments = put_small e (environment_small n) (p i).c v in
          let same = read_chosen e (span_of p i) (p i) (environment_small n) u v in
          let high = rise_less p (suc i) (λ j a l. low j a) i (p i).b (omega arith) k in (
            omega (arith, same, low i (p i).b k),
            rw (same, rise_read (reading (p i).b d), read_in_lem d small (p i).b, rise_read n) high,
          )

  -- the program of record i, read in e, is made of those of its parts, read in e, and of that of b with each value put in
  module _ (i e : ℕ) (small : e < environments) where
    pub written_step :
        program_in p i e
        ≡ construct (program_read e (span_of p i) (p i)) (program_in p (p i).a e) (program_in p (p i).b e) (λ (v : ℕ). program_in p (p i).b (put e (p i).c v))
    written_step =
        let f : ℕ → Prog = program_of (written_records p) in
        let n : ℕ = span_of p i in
        let r : Program = program_read e n (p i) in
        let same = read_kind e n (p i) in
        program_step (written_records p) written_lower (reading i e)
        ∙ ap (λ (r : Program). construct r (f r.a) (f r.b) (chosen f r)) (written_at p i e small)
        ∙ construct_same r.kind r.a r.b r.c _ _ _ _ _ _
        (λ h. ap f (read_a e n (p i) (rw same at h))) (λ h. ap f (read_b e n (p i) (rw same at h)))
        (λ h. fun_ext (λ v. ap f (read_chosen e n (p i) small (rw same at h) v)))

    -- of a record that chooses a value
    pub written_pick : T (picks (p i).kind) → program_in p i e ≡ pick (span_of p i) (λ (v : ℕ). program_in p (p i).b (put e (p i).c v))
    written_pick t =
        let n : ℕ = span_of p i in
        let F : ℕ → Prog = λ (v : ℕ). program_in p (p i).b (put e (p i).c v) in
        written_step
        ∙ construct_pick (program_read e n (p i)) _ _ F (ap picks (read_kind e n (p i)) ∙ is_true (picks (p i).kind) t)
        ∙ ap (λ (m : ℕ). pick m F) (read_pick e n (p i) t).0
