-- The tables are as long as they are read, and writing in one of them leaves the others: those of another depth too, unless it is as many
-- deeper as there are sets. Assumes nothing.
use Rattle.std.proofs.Common.{◌≡◌, ℕ, ◌+◌, ◌*◌, ◌<◌, ◌≤◌, Bool, true, List, length, get_or, replicate, sym, refl, ap, ◌∙◌, subst, mul-le-mul_left, mul-suc, arith}
use native.Mathlib.Decide.{ℕ_discrete, dec_lt}
use Rattle.records.proofs.Fills.{get_d_same}
use Rattle.sheet.specs.Layout.{layout_of}
use Rattle.golog.specs.declared.State.{State}
use Rattle.demands.specs.Decoded.{world_of}
use Rattle.state.specs.Truths.{AreTruths}
use Rattle.engine.specs.Tables.{window, Only, set_of, extended_size_of, endable_in, truths_from, finals_from, truths_at}
use Rattle.engine.specs.Tables.{finals_at, skips_in, distances_in, may_conflict_in, number_places, surveys_at, counts_from, counts_at}
use Rattle.engine.specs.Tables.{ListsMayConflict, Prepared, Surveyed, SameTables, Filled}
use Rattle.engine.proofs.Windows.{window_long, earlier, only_same, window_before, window_behind}

module _ {s : List ℕ} {flags : List Bool} {numbers : List ℕ} (P : Prepared s flags numbers) where
  pub truths_long : (d : ℕ) → length (truths_at d flags) ≡ 512
  truths_long d = window_long (truths_from d) 512 flags (omega (arith, P.flags_long))

  pub finals_long : (d : ℕ) → length (finals_at d flags) ≡ 260
  finals_long d = window_long (finals_from d) 260 flags (omega (arith, P.flags_long))

  pub counts_long : (d : ℕ) → length (counts_at d numbers) ≡ 260
  counts_long d = window_long (counts_from d) 260 numbers (omega (arith, P.numbers_long))

-- an array of zeros may be prepared
pub blank : (i : ℕ) → get_or {A = ℕ} (replicate number_places 0) i 0 ≡ 0
blank i = get_d_same 0 number_places i

-- what is told of the sheet is in front of every set
pub endable_kept : {flags flags' : List Bool} {o n : ℕ} → 260 ≤ o → Only o n flags flags' → endable_in flags' ≡ endable_in flags
endable_kept {flags} {flags'} {o} h P = earlier o 260 flags flags' h P.before

pub skips_kept : {numbers numbers' : List ℕ} {o n : ℕ} → 261 ≤ o → Only o n numbers numbers' → skips_in numbers' ≡ skips_in numbers
skips_kept {numbers} {numbers'} {o} h P = earlier o 261 numbers numbers' h P.before

pub distances_kept : {numbers numbers' : List ℕ} {o n : ℕ} → 521 ≤ o → Only o n numbers numbers' → length numbers' ≡ length numbers → 261 ≤ length numbers
    → distances_in numbers' ≡ distances_in numbers
distances_kept h P n l = window_before P n 261 260 h l

pub may_conflict_kept : {numbers numbers' : List ℕ} {o n : ℕ} → 586 ≤ o → Only o n numbers numbers' → length numbers' ≡ length numbers → 521 ≤ length numbers
    → may_conflict_in numbers' ≡ may_conflict_in numbers
may_conflict_kept h P n l = window_before P n 521 65 h l

-- what is told of the sheet stands while only tables of states are filled
pub prepared_again :
    {s : List ℕ} {flags flags' : List Bool} {numbers numbers' : List ℕ} → Prepared s flags numbers
    → {o n : ℕ} → 260 ≤ o → Only o n flags flags' → length flags' ≡ length flags
    → {p m : ℕ} → 586 ≤ p → Only p m numbers numbers' → length numbers' ≡ length numbers
    → ((d i : ℕ) → extended_size_of s ≤ i → get_or (counts_at d numbers') i 0 ≡ 0) → Prepared s flags' numbers'
prepared_again {s} P low F f above N n none = record {
  flags_long = f ∙ P.flags_long;
  numbers_long = n ∙ P.numbers_long;
  none_final = λ i h. ap (λ (x : List Bool). get_or x i true) (endable_kept low F) ∙ P.none_final i h;
  none_counted = none;
  skipping = rw (endable_kept low F, skips_kept (omega arith) N) P.skipping;
  distances = rw (distances_kept (omega arith) N n (omega (arith, P.numbers_long))) P.distances;
  may_conflict = subst (ListsMayConflict s) (sym (may_conflict_kept above N n (omega (arith, P.numbers_long)))) P.may_conflict;
}

-- depths less than eight apart have sets of their own
apart : (d e : ℕ) → d < e → e < d + 8 → ¬ (set_of d ≡ set_of e)
apart d e l h z = omega arith

-- m places for each of eight sets, from place b on: where those of the set j are written, a window in those of another stands
module _ {A : Type 0} (b m j : ℕ) {l l' : List A} (P : Only (b + m * j) m l l') (n : length l' ≡ length l) where
  below : (i k : ℕ) → i < k → m * i + m ≤ m * k
  below i k h = omega (arith, mul-suc m i, mul-le-mul_left m h)

  pub other : (i o k : ℕ) → ¬ (i ≡ j) → b + m * i ≤ o → o + k ≤ b + m * i + m → o ≤ length l → window o k l' ≡ window o k l
  other i o k z h g f = go (dec_lt i j)
    where
      go : Dec (i < j) → window o k l' ≡ window o k l
      go (yes x) = window_before P n o k (omega (arith, below i j x)) f
      go (no x) = window_behind P n o k (omega (arith, below j i (omega (arith, z))))

module _
    {flags flags' : List Bool} {numbers numbers' : List ℕ} (d : ℕ) (fl : length flags ≡ 6436) (nl : length numbers ≡ 2667)
    (F : Only (truths_from d) 772 flags flags') (f : length flags' ≡ length flags)
    (N : Only (counts_from d) 260 numbers numbers') (n : length numbers' ≡ length numbers) where
  -- the tables for depth d were filled, and no others
  pub filled : Filled d d flags flags' numbers numbers'
  filled e l h =
      let z = apart e d l h in
      record {
        same_truths = other 260 772 (set_of d) F f (set_of e) (truths_from e) 512 z (omega arith) (omega arith) (omega arith);
        same_finals = other 260 772 (set_of d) F f (set_of e) (finals_from e) 260 z (omega arith) (omega arith) (omega arith);
        same_counts = other 586 260 (set_of d) N n (set_of e) (counts_from e) 260 z (omega arith) (omega arith) (omega arith);
      }

-- a place of the counts for depth e, where those for depth d were written anew: it is 0 where it was, or where that is
pub none_by :
    (d e i : ℕ) {numbers numbers' : List ℕ} → length numbers ≡ 2667 → Only (counts_from d) 260 numbers numbers' → length numbers' ≡ length numbers
    → get_or (counts_at e numbers) i 0 ≡ 0 → get_or (counts_at d numbers') i 0 ≡ 0 → get_or (counts_at e numbers') i 0 ≡ 0
none_by d e i {numbers} {numbers'} l N n old new = go (ℕ_discrete (set_of e) (set_of d))
  where
    go : Dec (set_of e ≡ set_of d) → get_or (counts_at e numbers') i 0 ≡ 0
    go (yes z) = ap (λ (j : ℕ). get_or (window (586 + 260 * j) 260 numbers') i 0) z ∙ new
    go (no z) = ap (λ (x : List ℕ). get_or x i 0) (other 586 260 (set_of d) N n (set_of e) (counts_from e) 260 z (omega arith) (omega arith) (omega arith)) ∙ old

-- tables that stand are still those of the state
pub stands :
    {s : List ℕ} {st : State} {d : ℕ} {flags flags' : List Bool} {numbers numbers' : List ℕ}
    → Surveyed s st d flags numbers → Prepared s flags' numbers' → SameTables d flags flags' numbers numbers' → Surveyed s st d flags' numbers'
stands {s} {st} {d} S P E = record {
  prepared = P;
  truths_are = subst (AreTruths (world_of s) st (layout_of s).q) (sym E.same_truths) S.truths_are;
  tabled = rw (E.same_truths, E.same_finals, E.same_counts) S.tabled;
}

-- the surveys are counted behind every set
module _ {numbers numbers' : List ℕ} (N : Only surveys_at 1 numbers numbers') (n : length numbers' ≡ length numbers) (l : length numbers ≡ number_places) where
  counted_same : {flags : List Bool} (d : ℕ) → SameTables d flags flags numbers numbers'
  counted_same d = record { same_truths = refl; same_finals = refl; same_counts = window_before N n (counts_from d) 260 (omega arith) (omega arith) }

  counted_prepared : {s : List ℕ} {flags : List Bool} → Prepared s flags numbers → Prepared s flags numbers'
  counted_prepared {flags = flags} P = prepared_again P {o = 260} {n = 0} (omega arith) (only_same flags) refl (omega arith) N n
      (λ d i h. ap (λ (x : List ℕ). get_or x i 0) (counted_same {flags = flags} d).same_counts ∙ P.none_counted d i h)

  pub counted : {s : List ℕ} {st : State} {d : ℕ} {flags : List Bool} → Surveyed s st d flags numbers → Surveyed s st d flags numbers'
  counted {d = d} S = stands S (counted_prepared S.prepared) (counted_same d)

  pub counted_filled : (lo hi : ℕ) {flags : List Bool} → Filled lo hi flags flags numbers numbers'
  counted_filled lo hi d a b = counted_same d

-- nothing filled, and one filling after another
pub filled_none : {flags : List Bool} {numbers : List ℕ} (lo hi : ℕ) → Filled lo hi flags flags numbers numbers
filled_none lo hi d l h = record { same_truths = refl; same_finals = refl; same_counts = refl }

pub filled_then :
    {flags flags' flags'' : List Bool} {numbers numbers' numbers'' : List ℕ} {lo hi lo' hi' : ℕ}
    → Filled lo hi flags flags' numbers numbers' → Filled lo' hi' flags' flags'' numbers' numbers''
    → (lo'' hi'' : ℕ) → lo'' ≤ lo → lo'' ≤ lo' → hi ≤ hi'' → hi' ≤ hi'' → Filled lo'' hi'' flags flags'' numbers numbers''
filled_then F G lo'' hi'' a b c e d l h =
    let P = F d (omega arith) (omega arith) in
    let Q = G d (omega arith) (omega arith) in
    record {
      same_truths = Q.same_truths ∙ P.same_truths;
      same_finals = Q.same_finals ∙ P.same_finals;
      same_counts = Q.same_counts ∙ P.same_counts;
    }
