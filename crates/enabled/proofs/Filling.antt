-- The sets below record i are right, so what is put for record i is: what it asks of the table is what is so in the state. And the sets of
-- formulas and actions stay. Assumes nothing.
use mathlib.Core.Path.{◌≡◌, refl, sym, ◌∙◌, ap, subst}
use mathlib.Core.Bool.{Bool, true, false, cond, ◌||◌}
use mathlib.Core.List.{List}
use mathlib.Core.Logic.{inl, inr, ⊎_elim}
use Prim.Native.Nat.{ℕ, ◌+◌, ◌*◌, ◌≤◌, ◌<◌}
use native.Mathlib.Decide.{dec_lt}
use native.Mathlib.Omega.{arith}
use borrow.Author.Tests.{lt-ltb, le-ltb}
use lib.Dec.{T}
use lib.ListN.{get_or}
use Rattle.records.specs.declared.Program.{Program}
use Rattle.records.specs.Placeholders.{put}
use Rattle.records.specs.Some.{some_from}
use Rattle.records.proofs.Placeholders.{put_small}
use Rattle.records.proofs.Truth.{or_left}
use Rattle.kinds.specs.Programs.{has_a, has_b, picks}
use Rattle.kinds.proofs.ProgramFields.{link_a, link_b}
use Rattle.sets.specs.Sets.{member, Has, set_at, PutSet}
use Rattle.sets.proofs.Members.{has_by}
use Rattle.golog.specs.declared.State.{State}
use Rattle.golog.specs.World.{World, special, possible, possible_by}
use Rattle.golog.specs.Written.{entry_in, sees, span_of}
use Rattle.remaining.proofs.Written.{Linked, picks_b}
use Rattle.enabled.specs.Spans.{SpansKnown}
use Rattle.enabled.specs.Enabled.{Valuation, valuation_of, final_in, enabled_in}
use Rattle.enabled.specs.Filled.{most_formulas, final_set, enabled_set, possible_set, valuation_by, RuledTable, Readable, Fillable, FinalBy, EnabledBy}
use Rattle.enabled.specs.Filled.{Sees, Known, KnownWherever, SeesConditions, FinalsWherever, Kept}
use Rattle.enabled.proofs.Read.{Agree, either_same, final_agrees, enabled_agrees, final_read, enabled_read}

-- nothing was put
pub kept_none : (table : List ℕ) → Kept table table
kept_none table = record { len = refl; sets = λ j o. refl; words = λ k o. refl }

-- a set is put that is not one of formulas or actions
pub kept_more : {j : ℕ} {old table new set : List ℕ} → final_set 0 ≤ j → j < possible_set 0 → PutSet j set table new → Kept old table → Kept old new
kept_more low high put K = record {
  len = put.len ∙ K.len;
  sets = λ j o. put.others j (λ e. ⊎_elim (λ a. omega arith) (λ a. omega arith) o) ∙ K.sets j o;
  words = λ k o. put.words k (⊎_elim (λ a. inl (omega arith)) (λ a. inr (omega arith)) o) ∙ K.words k o;
}

pub known_none : {p : ℕ → Program} {m : ℕ} {running : Bool} {old : List ℕ} → KnownWherever p m 0 running old old
known_none W s S = record { final = λ i l. absurd (omega arith); enabled = λ i l. absurd (omega arith) }

pub finals_none : {p : ℕ → Program} {m : ℕ} {running : Bool} {old : List ℕ} → FinalsWherever p m 0 running old old
finals_none W s S i l = absurd (omega arith)

-- the sets of record i are put
module _ {i : ℕ} {table mid new ends goes : List ℕ} (few : i < 260) (first : PutSet (enabled_set i) goes table mid) (second : PutSet (final_set i) ends mid new) where
  other : (j : ℕ) → ¬ (j ≡ final_set i) → ¬ (j ≡ enabled_set i) → set_at new j ≡ set_at table j
  other j a b = second.others j a ∙ first.others j b

  -- so they have what is to be had of the records below i + 1
  put_known : {W : World} {s : State} {p : ℕ → Program} → Known W s p i table → Has ((valuation_of W s p).final i) ends → Has ((valuation_of W s p).enabled i) goes
      → Known W s p (i + 1) new
  put_known {W} {s} {p} D F G = record { final = λ j h. at_final j (dec_lt j i) h; enabled = λ j h. at_enabled j (dec_lt j i) h }
    where
      at_final : (j : ℕ) → Dec (j < i) → j < i + 1 → Has ((valuation_of W s p).final j) (set_at new (final_set j))
      at_final j (yes k) h = subst (Has _) (sym (other (final_set j) (λ e. omega arith) (λ e. omega arith))) (D.final j k)
      at_final j (no k) h = let z : j ≡ i = omega arith in rw (z, second.here) F

      at_enabled : (j : ℕ) → Dec (j < i) → j < i + 1 → Has ((valuation_of W s p).enabled j) (set_at new (enabled_set j))
      at_enabled j (yes k) h = subst (Has _) (sym (other (enabled_set j) (λ e. omega arith) (λ e. omega arith))) (D.enabled j k)
      at_enabled j (no k) h = let z : j ≡ i = omega arith in rw (z, second.others (enabled_set i) (λ e. omega arith), first.here) G

module _ {p : ℕ → Program} (ruled : RuledTable most_formulas p) where
  pub linked : Linked p
  linked i a k = (ruled i).linked a k

  pub below_a : (i : ℕ) → T (has_a (p i).kind) → (p i).a < i
  below_a i t = linked i (p i).a (link_a (p i) t)

  pub below_b : (i : ℕ) → T (has_b (p i).kind) → (p i).b < i
  below_b i t = linked i (p i).b (link_b (p i) t)

  -- no more values are listed than the record says
  span_few : (i : ℕ) → T (picks (p i).kind) → span_of p i ≤ 16
  span_few i t = go (sees p (p i).c (p i).b)
    where
      go : (b : Bool) → cond b (p i).a 1 ≤ 16
      go true = ((ruled i).choice t).1
      go false = omega arith

  -- a record reads sets that there are
  pub readable : {m i : ℕ} {spans old table : List ℕ} → Fillable p m spans old → Kept old table → m ≤ 260 → i < m → Readable table (get_or spans i 0) (p i)
  readable {m} {i} F K few l = record {
    room = omega (arith, K.len, F.room);
    part_a = λ t. omega (arith, below_a i t);
    part_b = λ t. omega (arith, below_b i t);
    test = (ruled i).test;
    condition = (ruled i).condition;
    act = (ruled i).act;
    choice = λ t. (omega (arith, F.spans_known.each i l t, span_few i t), ((ruled i).choice t).2);
  }

  -- start and stop are possible, and have no set
  act_seen :
      (W : World) (s : State) (table : List ℕ) (a e : ℕ) → (a < 65534 → member (set_at table (possible_set a)) e ≡ possible W (entry_in a e) s)
      → (special a || member (set_at table (possible_set a)) e) ≡ possible W (entry_in a e) s
  unfolding possible_by
  act_seen W s table a e seen = go (dec_lt a 65534)
    where
      go : Dec (a < 65534) → (special a || member (set_at table (possible_set a)) e) ≡ possible W (entry_in a e) s
      go (yes l) = let z : special a ≡ false = le-ltb 65533 a (omega arith) in ap (λ (b : Bool). b || member (set_at table (possible_set a)) e) z ∙ seen l
      go (no l) =
          let z : special a ≡ true = lt-ltb 65533 a (omega arith) in
          let same : entry_in a e ≡ a = ap (λ (b : Bool). cond b a (a + 64 * e)) z in
          or_left (special a) _ z ∙ sym (ap (λ (n : ℕ). possible W n s) same ∙ or_left (special a) _ z)

  -- what record i asks of the table is so in a state that it tells of
  module _ {W : World} {s : State} {m i : ℕ} {running : Bool} {old table : List ℕ} (S : Sees W s p m running old) (K : Kept old table)
      (D : Known W s p i table) (l : i < m) where
    part_seen : (j : ℕ) → j < i → (e : ℕ) → e < 256
        → ((valuation_by table).final j e ≡ (valuation_of W s p).final j e) × ((valuation_by table).enabled j e ≡ (valuation_of W s p).enabled j e)
    part_seen j h e small = ((D.final j h).each e small, (D.enabled j h).each e small)

    agree : (n e : ℕ) → e < 256 → Agree (valuation_by table) (valuation_of W s p) n (p i) e
    agree n e small = record {
      condition = λ t. ap (λ (x : List ℕ). member x e) (K.sets (p i).c (inl ((ruled i).condition t))) ∙ ((S.each i l).condition t).each e small;
      test = λ t. ap (λ (x : List ℕ). member x e) (K.sets (p i).a (inl ((ruled i).test t))) ∙ ((S.each i l).test t).each e small;
      act = λ t. act_seen W s table (p i).a e
          (λ h. ap (λ (x : List ℕ). member x e) (K.sets (possible_set (p i).a) (inr (omega arith))) ∙ ((S.each i l).act t h).each e small);
      part_a = λ t. part_seen (p i).a (below_a i t) e small;
      part_b = λ t. part_seen (p i).b (below_b i t) e small;
      chosen_b = λ t v h. part_seen (p i).b (below_b i (picks_b (p i).kind t)) (put e (p i).c v) (put_small e small (p i).c v);
    }

  -- how many values are listed counts where one is chosen
  pub span_read : {m : ℕ} {spans : List ℕ} → SpansKnown p m spans → (i : ℕ) → i < m → (says : Valuation) (running : Bool) (e : ℕ)
      → (final_in says running (get_or spans i 0) (p i) e ≡ final_in says running (span_of p i) (p i) e)
      × (enabled_in says running (get_or spans i 0) (p i) e ≡ enabled_in says running (span_of p i) (p i) e)
  unfolding final_in enabled_in
  span_read {m} {spans} known i l says running e = (
    either_same (picks (p i).kind) (λ t. ap (some_from _ 0) (known.each i l t)) refl,
    either_same (picks (p i).kind) (λ t. ap (some_from _ 0) (known.each i l t)) refl,
  )

  -- where record i is final is right, where it is for those below: of a state no more is asked than where conditions hold
  final_right :
      {W : World} {s : State} {m i : ℕ} {running : Bool} {spans old table ends : List ℕ} → SeesConditions W s p m running old → SpansKnown p m spans → i < m → Kept old table
      → ((k : ℕ) → k < i → Has ((valuation_of W s p).final k) (set_at table (final_set k))) → FinalBy table running (get_or spans i 0) (p i) ends
      → Has ((valuation_of W s p).final i) ends
  final_right {W} {s} {m} {i} {running} {spans} {old} {table} S known l K D F =
      has_by F
      (λ e small. agrees (get_or spans i 0) e small
      ∙ (span_read known i l (valuation_of W s p) running e).0
      ∙ ap (λ (b : Bool). final_in (valuation_of W s p) b (span_of p i) (p i) e) (sym S.runs)
      ∙ sym (final_read W s p linked i e small))
    where
      below : (k e : ℕ) → k < i → e < 256 → (valuation_by table).final k e ≡ (valuation_of W s p).final k e
      below k e g small = (D k g).each e small

      agrees : (n e : ℕ) → e < 256 → final_in (valuation_by table) running n (p i) e ≡ final_in (valuation_of W s p) running n (p i) e
      agrees n e small =
          final_agrees (valuation_by table) (valuation_of W s p) n (p i) e running
          (λ t. ap (λ (x : List ℕ). member x e) (K.sets (p i).c (inl ((ruled i).condition t))) ∙ (S.each i l t).each e small)
          (λ t. below (p i).a e (below_a i t) small) (λ t. below (p i).b e (below_b i t) small)
          (λ t v g. below (p i).b (put e (p i).c v) (below_b i (picks_b (p i).kind t)) (put_small e small (p i).c v))

  pub finals_more :
      {m i : ℕ} {spans old table new ends : List ℕ} (running : Bool) → SpansKnown p m spans → i < m → m ≤ 260
      → PutSet (final_set i) ends table new → Kept old table → FinalBy table running (get_or spans i 0) (p i) ends → FinalsWherever p m i running old table
      → FinalsWherever p m (i + 1) running old new
  finals_more {m} {i} {spans} {old} {table} {new} {ends} running known l few put_at K F D W s S j h = go (dec_lt j i)
    where
      go : Dec (j < i) → Has ((valuation_of W s p).final j) (set_at new (final_set j))
      go (yes k) = subst (Has _) (sym (put_at.others (final_set j) (λ e. omega arith))) (D W s S j k)
      go (no k) = let z : j ≡ i = omega arith in rw (z, put_at.here) (final_right S known l K (D W s S) F)

  -- the sets of record i are right, where those below are
  pub known_more :
      {m i : ℕ} {spans old table mid new ends goes : List ℕ} (running : Bool) → SpansKnown p m spans → i < m → m ≤ 260
      → PutSet (enabled_set i) goes table mid → PutSet (final_set i) ends mid new → Kept old table
      → FinalBy table running (get_or spans i 0) (p i) ends → EnabledBy table running (get_or spans i 0) (p i) goes
      → KnownWherever p m i running old table → KnownWherever p m (i + 1) running old new
  known_more {m} {i} {spans} running known l few first second K F G D W s S =
      put_known (omega arith) first second (D W s S)
      (final_right (record { runs = S.runs; each = λ j l. (S.each j l).condition }) known l K (D W s S).final F)
      (has_by G
      (λ e small. enabled_agrees (agree S K (D W s S) l (get_or spans i 0) e small) running
      ∙ (span_read known i l (valuation_of W s p) running e).1
      ∙ ap (λ (b : Bool). enabled_in (valuation_of W s p) b (span_of p i) (p i) e) (sym S.runs)
      ∙ sym (enabled_read W s p linked i e small)))
