-- The sets of a state, filled one kind after the other: truths, then where the marked actions are possible, then where records are final
-- and enabled. Assumes nothing.
use Prim.Native.Nat.{ℕ, zero, suc, ◌+◌, ◌-◌, ◌≤◌, ◌<◌}
use mathlib.Core.Path.{◌≡◌, refl, sym, ◌∙◌, ap, subst}
use mathlib.Core.Bool.{Bool, true, false, not}
use mathlib.Core.List.{List}
use mathlib.Core.Logic.{inl}
use native.Mathlib.Decide.{dec_lt}
use native.Mathlib.Omega.{arith}
use borrow.Author.Tests.{eqb-true}
use lib.Dec.{T, eqb}
use lib.ListN.{get_or}
use Rattle.records.specs.declared.Program.{Program}
use Rattle.records.specs.Records.{action_at, program_at}
use Rattle.kinds.specs.Programs.{field_a, acts}
use Rattle.sets.specs.Sets.{Has, set_at, PutSet}
use Rattle.golog.specs.declared.State.{State}
use Rattle.golog.specs.World.{World, start, possible}
use Rattle.golog.specs.Written.{entry_in}
use Rattle.truths.specs.Held.{HoldsIn, AllHold}
use Rattle.truths.specs.Evaluated as truths
use Rattle.remaining.specs.Extended.{empty, virtual}
use Rattle.remaining.proofs.Started.{table_below, table_above}
use Rattle.possible.specs.Written.{Written}
use Rattle.possible.specs.Possible.{NeverConflicts, PossibleSet}
use Rattle.possible.proofs.Exclusive.{exclusive_conflicts_none}
use Rattle.enabled.specs.Filled.{most_formulas, possible_set, RuledTable, Sees}
use Rattle.enabled.specs.Filled as enabled
use Rattle.enabled.proofs.Ruling.{table_ruled, ruled_more, sees_all}
use Rattle.machine.specs.declared.Shape.{Shape}
use Rattle.machine.specs.Tables.{records_of, many_of}
use Rattle.machine.specs.Ruled.{RuledOnce, RuledTables}
use Rattle.machine.specs.Told.{Marks, SetOf, ActionsFilled, SetsKnown}
use Rattle.machine.proofs.Reading.{range_few, asks_below}

-- sets of formulas that are kept tell the same
pub held_kept :
    (W : World) (s : State) (n : ℕ) (old table : List ℕ) → ((q : ℕ) → q < n → set_at table q ≡ set_at old q) → AllHold W s n old → AllHold W s n table
held_kept W s n old table same H q l = subst (HoldsIn W s q) (sym (same q l)) (H q l)

module _ {fluents effects actions marks : List ℕ} where
  module _ {a : ℕ} {old table : List ℕ} (F : ActionsFilled fluents effects actions marks a old table) where
    -- an action that no record performs
    pub actions_skip : get_or marks a 0 ≡ 0 → ActionsFilled fluents effects actions marks (a + 1) old table
    actions_skip z = record { len = F.len; below = F.below; each = λ b l n. go b n (dec_lt b a) l }
      where
        go : (b : ℕ) → ¬ (get_or marks b 0 ≡ 0) → Dec (b < a) → b < a + 1
            → SetOf fluents effects actions old b (not (eqb (get_or marks b 0) 1)) (set_at table (possible_set b))
        go b n (yes k) l = F.each b k n
        go b n (no k) l = let e : b ≡ a = omega arith in absurd (n (ap (λ (c : ℕ). get_or marks c 0) e ∙ z))

    pub actions_more :
        {set table' : List ℕ} → PossibleSet fluents effects actions table a (not (eqb (get_or marks a 0) 1)) set → PutSet (possible_set a) set table table'
        → ActionsFilled fluents effects actions marks (a + 1) old table'
    actions_more {set} {table'} S P = record {
      len = P.len ∙ F.len;
      below = λ j l. P.others j (λ z. omega arith) ∙ F.below j l;
      each = λ b l n. go b n (dec_lt b a) l;
    }
      where
        here : SetOf fluents effects actions old a (not (eqb (get_or marks a 0) 1)) set
        here formulas W s n few is low held never = S formulas W s n is low (held_kept W s _ _ _ (λ q l. F.below q (omega arith)) held) never

        go : (b : ℕ) → ¬ (get_or marks b 0 ≡ 0) → Dec (b < a) → b < a + 1
            → SetOf fluents effects actions old b (not (eqb (get_or marks b 0) 1)) (set_at table' (possible_set b))
        go b n (yes k) l = rw (P.others (possible_set b) (λ z. omega arith)) (F.each b k n)
        go b n (no k) l = let e : b ≡ a = omega arith in rw (e, P.here) here

-- the records above the sheet's perform start and stop
virtual_acts : (b : Bool) (n k : ℕ) → T (acts (get_or (virtual b n) k empty).kind) → start ≤ (get_or (virtual b n) k empty).a
unfolding field_a
virtual_acts false n k t = absurd t
virtual_acts true n zero t = omega arith
virtual_acts true n (suc zero) t = omega arith
virtual_acts true n (suc (suc zero)) t = absurd t
virtual_acts true n (suc (suc (suc zero))) t = absurd t
virtual_acts true n (suc (suc (suc (suc k)))) t = absurd t

module _ {formulas effects actions programs : List ℕ} {v : Shape} (R : RuledOnce formulas effects actions programs v) where
  pub records_ruled : RuledTable v.q (records_of programs v)
  records_ruled = table_ruled v.interrupts (program_at programs) v.p v.q R.each_record

  pub records_allowed : RuledTable most_formulas (records_of programs v)
  records_allowed = ruled_more R.moves.few_formulas records_ruled

  -- so what else is performed is performed by a record of the sheet
  acts_below : (i : ℕ) → T (acts (records_of programs v i).kind) → (records_of programs v i).a < start → (i < v.p) × (records_of programs v i ≡ program_at programs i)
  acts_below i t l = go (dec_lt i v.p)
    where
      go : Dec (i < v.p) → (i < v.p) × (records_of programs v i ≡ program_at programs i)
      go (yes k) = (k, table_below v.interrupts (program_at programs) v.p i k)
      go (no k) =
          let e : records_of programs v i ≡ get_or (virtual v.interrupts v.p) (i - v.p) empty =
          ap (records_of programs v) (omega arith) ∙ table_above v.interrupts (program_at programs) v.p (i - v.p) in
          absurd (omega (arith, virtual_acts v.interrupts v.p (i - v.p) (rw e at t), ap (λ (r : Program). r.a) e))

module _ {fluents formulas effects actions programs : List ℕ} {v : Shape} (R : RuledTables fluents formulas effects actions programs v) {marks : List ℕ}
    (M : Marks formulas effects actions programs v.p marks) where
  marked_known : (a : ℕ) → ¬ (get_or marks a 0 ≡ 0) → a < v.a
  marked_known a n = let (i, l, t, e) = M.only a n in subst (λ (b : ℕ). b < v.a) e (R.once.acts_known i l t)

  -- effects that are not compared contradict each other in no environment
  never : (W : World) → Written fluents formulas effects actions W → (s : State) (a : ℕ) → a < v.a → not (eqb (get_or marks a 0) 1) ≡ false → NeverConflicts W s actions a
  never W is s a l z e small =
      exclusive_conflicts_none is (action_at actions a).first (action_at actions a).count (range_few R.once.moves l)
      (M.harmless a (eqb-true (get_or marks a 0) 1 (undone (eqb (get_or marks a 0) 1) z))) s e small
    where
      undone : (b : Bool) → not b ≡ false → b ≡ true
      undone true z = refl
      undone false z = cc

  module _ (s : State) {t₀ t₁ t₂ : List ℕ} (F : truths.Filled formulas s.values v.q t₀ t₁) (A : ActionsFilled fluents effects actions marks 64 t₁ t₂)
      (W : World) (is : Written fluents formulas effects actions W) where
    held_first : AllHold W s v.q t₁
    held_first = F.held W s is.formula_is refl

    held_next : AllHold W s v.q t₂
    held_next = held_kept W s _ _ _ (λ q l. A.below q (omega (arith, R.once.moves.few_formulas))) held_first

    can :
        (i : ℕ) → T (acts (records_of programs v i).kind) → (records_of programs v i).a < start
        → Has (λ (e : ℕ). possible W (entry_in (records_of programs v i).a e) s) (set_at t₂ (possible_set (records_of programs v i).a))
    can i t h =
        let (l, e) = acts_below R.once i t h in
        let a = (records_of programs v i).a in
        let same : (program_at programs i).a ≡ a = ap (λ (r : Program). r.a) (sym e) in
        let u : T (acts (program_at programs i).kind) = subst (λ (r : Program). T (acts r.kind)) e t in
        let k : a < v.a = omega (arith, R.once.acts_known i l u) in
        let few : a < 64 = omega (arith, R.once.moves.few_actions) in
        A.each a few (M.performed a few (i, l, u, same)) formulas W s v.q R.once.moves.few_formulas is (asks_below R.once.moves k) held_first (never W is s a k)

    pub sees : Sees W s (records_of programs v) (many_of v) s.running t₂
    sees = sees_all (records_ruled R.once) refl held_next (λ i l. can i)

  pub filled_known :
      (s : State) {t₀ t₁ t₂ t₃ : List ℕ} → truths.Filled formulas s.values v.q t₀ t₁ → ActionsFilled fluents effects actions marks 64 t₁ t₂
      → enabled.Filled (records_of programs v) (many_of v) s.running t₂ t₃ → SetsKnown fluents formulas effects actions programs v s t₃
  filled_known s F A E = record {
    held = λ W is. held_kept W s _ _ _ (λ q l. E.kept.sets q (inl (omega (arith, R.once.moves.few_formulas)))) (held_next s F A W is);
    known = λ W is. E.known W s (sees s F A W is);
  }
