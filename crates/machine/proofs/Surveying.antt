-- What is told once, and of a state, is what going by positions asks for: no record is final where it is not marked so, none is nearer to
-- its end than its distance says, and the sets are those of the state. Assumes nothing.
use Prim.Native.Nat.{ℕ, ◌+◌, ◌-◌, ◌≤◌, ◌<◌}
use mathlib.Core.Path.{◌≡◌, refl, ◌∙◌, ap, subst}
use mathlib.Core.Bool.{Bool, true, false, cond}
use mathlib.Core.List.{List}
use native.Mathlib.Decide.{dec_lt}
use native.Mathlib.Omega.{arith}
use lib.Dec.{T}
use lib.ListN.{get_or, get_or-eq_default}
use Rattle.records.specs.declared.Program.{Program}
use Rattle.records.specs.Records.{program_at}
use Rattle.records.specs.Table.{up_to}
use Rattle.records.specs.Placeholders.{environments, reading}
use Rattle.records.proofs.Fills.{default_at, length_up, get_d_any}
use Rattle.kinds.specs.Programs.{picks}
use Rattle.golog.specs.declared.State.{State}
use Rattle.golog.specs.World.{World}
use Rattle.golog.specs.Written.{span_of, sees, written_records}
use Rattle.golog.specs.Distance.{distance}
use Rattle.golog.specs.Prog.{program_of}
use Rattle.remaining.specs.Extended.{empty, virtual}
use Rattle.remaining.proofs.Started.{table_above}
use Rattle.remaining.proofs.Written.{Linked}
use Rattle.sets.specs.Sets.{set_at}
use Rattle.truths.specs.Held.{HoldsIn}
use Rattle.possible.specs.Written.{Written}
use Rattle.leaves.specs.Endable.{final_bound_at, final_bounds_of}
use Rattle.enabled.specs.Spans.{SpansKnown, spans_of}
use Rattle.enabled.proofs.Listing as listing
use Rattle.enabled.proofs.Told.{endable_read, distances_read}
use Rattle.positions.specs.Found.{tables_by, Prepared, Surveyed}
use Rattle.positions.specs.Rising.{Spread, Endable}
use Rattle.positions.proofs.Levels.{digits_spread}
use Rattle.machine.specs.declared.Shape.{Shape}
use Rattle.machine.specs.Tables.{spans_on, digits_on, distances_on, sets_from, sets_at, records_of, many_of, table_in}
use Rattle.machine.specs.Ruled.{RuledOnce, RuledTables}
use Rattle.machine.specs.Told.{Told, StateTold}
use Rattle.machine.proofs.Windows.{window_long}
use Rattle.machine.proofs.Filling.{records_ruled, records_allowed}

many_few : (b : Bool) (n : ℕ) → n ≤ 256 → n + cond b 4 0 ≤ 260
many_few true n l = omega arith
many_few false n l = omega arith

fewer : (b : Bool) (n : ℕ) → n ≤ n + cond b 4 0
fewer true n = omega arith
fewer false n = omega arith

-- behind the records that run stands nil
behind_nil : (b : Bool) (n k : ℕ) → n + cond b 4 0 ≤ n + k → get_or (virtual b n) k empty ≡ empty
behind_nil false n k l = refl
behind_nil true n k l = let h : 4 ≤ k = omega arith in get_or-eq_default (virtual true n) empty h

module _ {formulas effects actions programs : List ℕ} {v : Shape} (R : RuledOnce formulas effects actions programs v) where
  few : many_of v ≤ 260
  few = many_few v.interrupts v.p R.programs_long.few

  pub linked : Linked (records_of programs v)
  linked i a k = (records_ruled R i).linked a k

  nil : (i : ℕ) → many_of v ≤ i → (records_of programs v i).kind ≡ 0
  nil i l =
      let k = i - v.p in
      let e : records_of programs v i ≡ get_or (virtual v.interrupts v.p) k empty =
      ap (records_of programs v) (omega (arith, fewer v.interrupts v.p)) ∙ table_above v.interrupts (program_at programs) v.p k in
      ap (λ (r : Program). r.kind) (e ∙ behind_nil v.interrupts v.p k (omega (arith, fewer v.interrupts v.p)))

  span_few : (i : ℕ) → T (picks (records_of programs v i).kind) → span_of (records_of programs v) i ≤ 16
  span_few i t = go (sees (records_of programs v) (records_of programs v i).c (records_of programs v i).b)
    where
      go : (b : Bool) → cond b (records_of programs v i).a 1 ≤ 16
      go true = ((records_ruled R i).choice t).1
      go false = omega arith

  pub spans_known : SpansKnown (records_of programs v) (many_of v) (spans_of (records_of programs v) (many_of v))
  spans_known = listing.spans_known (records_of programs v) (many_of v) linked (λ i t. ((records_ruled R i).choice t).2) few

  -- a choice is one of them
  picks_below : (i : ℕ) → T (picks (records_of programs v i).kind) → i < many_of v
  picks_below i t = go (dec_lt i (many_of v))
    where
      go : Dec (i < many_of v) → i < many_of v
      go (yes l) = l
      go (no l) = absurd (subst (λ (k : ℕ). T (picks k)) (nil i (omega arith)) t)

  spans_any : (i : ℕ) → T (picks (records_of programs v i).kind) → get_or (spans_of (records_of programs v) (many_of v)) i 1 ≡ span_of (records_of programs v) i
  spans_any i t =
      let l = picks_below i t in
      get_d_any (spans_of (records_of programs v) (many_of v)) i 1 0 (omega (arith, spans_known.len, few)) ∙ spans_known.each i l t

  -- a record that is not marked is final in no state and environment
  pub ends_marked : (W : World) (s : State) → Endable W s (records_of programs v) (λ (a : ℕ). get_or (final_bounds_of true (records_of programs v) (many_of v)) a true)
  unfolding final_bounds_of
  ends_marked W s a e small f = go (dec_lt a (many_of v))
    where
      past : many_of v ≤ a → get_or (final_bounds_of true (records_of programs v) (many_of v)) a true ≡ true
      past l =
          let up = up_to (final_bound_at true (records_of programs v)) (many_of v) in
          default_at true up (260 - many_of v) a ∙ get_or-eq_default up true (omega (arith, length_up (final_bound_at true (records_of programs v)) (many_of v)))

      go : Dec (a < many_of v) → get_or (final_bounds_of true (records_of programs v) (many_of v)) a true ≡ true
      go (yes l) = endable_read (records_of programs v) linked W s (many_of v) a e l small f
      go (no l) = past (omega arith)

  module _ {numbers : List ℕ} (T : Told formulas effects actions programs v numbers) where
    -- no record is nearer to its end than its distance says
    pub far : (i e : ℕ) → i < many_of v → e < environments → get_or (distances_on numbers) i 0 ≤ distance (program_of (written_records (records_of programs v)) (reading i e))
    far i e l small = rw T.distances_are (distances_read (records_of programs v) linked (many_of v) i e l small)

    pub spread :
        Spread (records_of programs v) (λ (a : ℕ). get_or (final_bounds_of true (records_of programs v) (many_of v)) a true) (λ (i : ℕ). get_or (digits_on numbers) i 0)
    spread =
        rw T.digits_are
        (digits_spread (records_of programs v) (many_of v) (final_bounds_of true (records_of programs v) (many_of v)) (spans_of (records_of programs v) (many_of v)) linked span_few
        spans_any nil)

    pub prepared : (s : State) (d : ℕ) → Prepared (tables_by (table_in programs v) s.running (spans_on numbers) (digits_on numbers) (sets_at d numbers))
    prepared s d = record {
      endable = λ (a : ℕ). get_or (final_bounds_of true (records_of programs v) (many_of v)) a true;
      spread = spread;
      spans_are = λ i t. ap (λ (x : List ℕ). get_or x i 1) T.spans_are ∙ spans_any i t;
      few = few;
      conditions = λ i t. (records_allowed R i).condition t;
      long = omega (arith, window_long (sets_from d) 8768 numbers (omega (arith, T.long)));
    }

-- in the world of the tables what positions are found by is known, if the sets behind those of its formulas are told too: `positions` asks for
-- those of 512 formulas, whichever records have conditions
pub surveyed :
    {fluents formulas effects actions programs : List ℕ} {v : Shape} {s : State} {d : ℕ} {numbers : List ℕ} → RuledTables fluents formulas effects actions programs v
    → StateTold fluents formulas effects actions programs v s d numbers → (W : World) → Written fluents formulas effects actions W
    → ((q : ℕ) → v.q ≤ q → q < 512 → HoldsIn W s q (set_at (sets_at d numbers) q))
    → Surveyed W s (tables_by (table_in programs v) s.running (spans_on numbers) (digits_on numbers) (sets_at d numbers))
unfolding prepared
surveyed {programs = programs} {v = v} {s = s} {d = d} {numbers = numbers} R S W is behind =
    let K = S.sets_known.known W is in
    record {
      prepared = prepared R.once S.told s d;
      ends = ends_marked R.once W s;
      runs = refl;
      truths = λ q few. truth_at q few (dec_lt q v.q);
      finals = K.final;
      enabled = K.enabled;
    }
  where
    truth_at : (q : ℕ) → q < 512 → Dec (q < v.q) → HoldsIn W s q (set_at (sets_at d numbers) q)
    truth_at q few (yes l) = S.sets_known.held W is q l
    truth_at q few (no l) = behind q (omega arith) few
