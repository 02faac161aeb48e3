-- What callers know: records that keep their rules in a sheet keep them in the table that runs; and sets of formulas and of actions tell of
-- the state all that the records ask. Assumes nothing.
use mathlib.Core.Path.{◌≡◌, refl, ◌∙◌, ap}
use mathlib.Core.Bool.{Bool, true, false}
use mathlib.Core.List.{List, Memᴰ}
use Prim.Native.Nat.{ℕ, zero, suc, ◌-◌, ◌≤◌, ◌<◌}
use native.Mathlib.Decide.{dec_lt}
use native.Mathlib.Omega.{arith}
use lib.Dec.{T}
use lib.ListN.{get_or}
use Rattle.records.specs.declared.Program.{Program}
use Rattle.kinds.specs.Programs.{field_a, field_c, has_condition, picks, acts, tests, links}
use Rattle.sets.specs.Sets.{Has, set_at}
use Rattle.golog.specs.declared.State.{State}
use Rattle.golog.specs.World.{World, start, possible}
use Rattle.golog.specs.Written.{entry_in}
use Rattle.remaining.specs.Extended.{empty, virtual, extended}
use Rattle.remaining.proofs.Started.{table_below, table_above, table_linked}
use Rattle.truths.specs.Held.{AllHold}
use Rattle.enabled.specs.Filled.{possible_set, Ruled, RuledTable, Sees}

-- more formulas are allowed
pub ruled_more : {nq nq' : ℕ} {p : ℕ → Program} → nq ≤ nq' → RuledTable nq p → RuledTable nq' p
ruled_more l ruled i = record {
  linked = (ruled i).linked;
  test = λ t. let h = (ruled i).test t in omega arith;
  condition = λ t. let h = (ruled i).condition t in omega arith;
  act = (ruled i).act;
  choice = (ruled i).choice;
}

-- a record that names no formula, chooses no value and performs at most start or stop
bare :
    (nq i : ℕ) (r : Program) → ((a : ℕ) → Memᴰ a (links r) → a < i) → tests r.kind ≡ false → has_condition r.kind ≡ false → picks r.kind ≡ false
    → (T (acts r.kind) → start ≤ r.a) → Ruled nq i r
bare nq i r low x y z special = record {
  linked = low;
  test = λ t. absurd (rw x at t);
  condition = λ t. absurd (rw y at t);
  act = λ t l. absurd (omega (arith, special t));
  choice = λ t. absurd (rw z at t);
}

-- so are those above the sheet's
virtual_ruled : (b : Bool) (n nq k i : ℕ) → ((a : ℕ) → Memᴰ a (links (get_or (virtual b n) k empty)) → a < i) → Ruled nq i (get_or (virtual b n) k empty)
unfolding field_a field_c
virtual_ruled false n nq k i low = bare nq i _ low refl refl refl absurd
virtual_ruled true n nq zero i low = bare nq i _ low refl refl refl (λ t. omega arith)
virtual_ruled true n nq (suc zero) i low = bare nq i _ low refl refl refl (λ t. omega arith)
virtual_ruled true n nq (suc (suc zero)) i low = bare nq i _ low refl refl refl absurd
virtual_ruled true n nq (suc (suc (suc zero))) i low = bare nq i _ low refl refl refl absurd
virtual_ruled true n nq (suc (suc (suc (suc k)))) i low = bare nq i _ low refl refl refl absurd

module _ (b : Bool) (p : ℕ → Program) (n nq : ℕ) where
  pub table_ruled : ((i : ℕ) → i < n → Ruled nq i (p i)) → RuledTable nq (extended b p n)
  table_ruled ruled i = go (dec_lt i n)
    where
      low : (a : ℕ) → Memᴰ a (links (extended b p n i)) → a < i
      low a = table_linked b p n (λ j a l. (ruled j l).linked a) i a

      go : Dec (i < n) → Ruled nq i (extended b p n i)
      go (yes l) = rw (table_below b p n i l) (ruled i l)
      go (no l) =
          let e : extended b p n i ≡ get_or (virtual b n) (i - n) empty = ap (extended b p n) (omega arith) ∙ table_above b p n (i - n) in
          rw e (virtual_ruled b n nq (i - n) i (rw e at low))

-- where the table has the environments in which formulas hold, and in which the actions that records perform are possible
pub sees_all :
    {W : World} {s : State} {p : ℕ → Program} {nq m : ℕ} {running : Bool} {table : List ℕ} → RuledTable nq p → s.running ≡ running → AllHold W s nq table
    → ((i : ℕ) → i < m → T (acts (p i).kind) → (p i).a < start → Has (λ (e : ℕ). possible W (entry_in (p i).a e) s) (set_at table (possible_set (p i).a)))
    → Sees W s p m running table
sees_all {p = p} ruled runs held can = record {
  runs = runs;
  each = λ i l. record {
    condition = λ t. held (p i).c ((ruled i).condition t);
    test = λ t. held (p i).a ((ruled i).test t);
    act = can i l;
  };
}
