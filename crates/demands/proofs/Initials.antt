-- Sheets that differ in initial values of fluents outside a set alone (document 02, F-5): every table lies where it lay, all but the
-- fluents' with the same bytes, and the fluents have the same domain sizes. So an accepted sheet with other initial values inside their
-- domains gets the same answer of the check, and the initial states agree on the set. Assumes nothing.
use mathlib.Core.Path.{◌≡◌, sym, ◌∙◌, ap, subst}
use mathlib.Core.Bool.{true, false, false≢true}
use mathlib.Core.List.{List}
use Prim.Native.Nat.{ℕ, ◌+◌, ◌-◌, ◌*◌, ◌%◌, ◌^◌, ◌≤◌, ◌<◌}
use native.Mathlib.Decide.{dec_lt, ℕ_discrete}
use native.Mathlib.Nat.{zero-div}
use native.Mathlib.Omega.{arith}
use lib.Dec.{eqb}
use lib.ListN.{length, get_or, length-set, length-append, length-replicate, get_or-eq_default}
use lib.Seq.{get_or-set_same, get_or-set_other}
use Rattle.records.specs.Bytes.{part}
use Rattle.records.specs.Mask.{has_bit}
use Rattle.records.specs.Records.{fluent_at}
use Rattle.records.specs.declared.Fluent.{Fluent}
use Rattle.records.proofs.Fills.{default_at, length_up, up_at, entry_is}
use Rattle.rules.specs.Rules.{fluent_ok}
use Rattle.rules.proofs.Kept.{fluent_exactly}
use Rattle.sheet.specs.Trailer.{trailer_in, trailer_of}
use Rattle.sheet.specs.Layout.{layout_of, fluents_in}
use Rattle.sheet.specs.Check.{Accepts, check_of}
use Rattle.sheet.specs.declared.Layout.{Layout}
use Rattle.sheet.proofs.Accepted.{trailed, trailed_checked, ruled, laid}
use Rattle.sheet.proofs.Lower.{fluent_of_lem}
use Rattle.sheet.proofs.Parts.{part_byte, byte_same, part_same}
use Rattle.sheet.proofs.Tables.{SameRest, checked_same}
use Rattle.sheet.proofs.Alike as alike
use Rattle.demands.specs.Decoded.{initials, starting_with, initial_of, bound_of}
use Rattle.demands.specs.Initials.{initial_at, SameButInitials, with_initial}

-- the record of fluent x of a sheet
abbrev pub fluent_of : List ℕ → (x : ℕ) → Fluent
fluent_of s = fluent_at (fluents_in s (layout_of s))

-- the values of the first state of n fluents: the initial values, and 0 behind them
module _ (fluents : List ℕ) (n : ℕ) where
  abbrev value : ℕ → List ℕ → ℕ
  value x lower = (fluent_at fluents x).initial

  starting_at : (x : ℕ) → x < n → get_or (starting_with fluents n).values x 0 ≡ (fluent_at fluents x).initial
  starting_at x l = default_at 0 (initials fluents n) (32 - n) x ∙ up_at 0 value n x l ∙ entry_is 0 value x

  starting_past : (x : ℕ) → ¬ (x < n) → get_or (starting_with fluents n).values x 0 ≡ 0
  starting_past x l = default_at 0 (initials fluents n) (32 - n) x ∙ get_or-eq_default (initials fluents n) 0 (omega (arith, length_up value n))

  starting_places : n ≤ 32 → length (starting_with fluents n).values ≡ 32
  starting_places l = simp (length-append, length_up, length-replicate) (omega arith)

module _ (s s' : List ℕ) (accepted : Accepts s) (names : ℕ) (but : SameButInitials names s s') where
  -- no initial value stands behind the fluents' table
  bytes_behind : (i : ℕ) → (layout_of s).formulas ≤ i → get_or s' i 0 ≡ get_or s i 0
  bytes_behind i l = let at = (laid s accepted).at_formulas in but.bytes i (λ x k o e. omega arith)

  trailer_same : trailer_of s' ≡ trailer_of s
  trailer_same =
      let at = laid s accepted in
      let same = part_same s s' (length s - 18) (length s) but.len (λ i l h. bytes_behind i (omega arith)) in
      ap trailer_in (ap (λ (n : ℕ). part s' (n - 18) n) but.len ∙ same)

  -- every table lies where it lay, with as many records, under the same bound
  pub layout_same : layout_of s' ≡ layout_of s
  unfolding layout_of
  layout_same = alike.layout_same s s' but.len (trailer_of s).d trailer_same

  pub bound_same : bound_of s' ≡ bound_of s
  bound_same = ap (λ (l : Layout). l.d) layout_same

  -- and but for the fluents' with the same bytes
  pub rest_same : SameRest s s'
  rest_same = alike.rest_same s s' but.len (trailer_of s).d trailer_same accepted (λ i l h. bytes_behind i l)

  -- the fluents' table has the same bytes but for those initial values
  fluents_at :
      (j : ℕ) → ((x : ℕ) → x < (layout_of s).f → has_bit names x ≡ false → ¬ (j ≡ 2 * x + 1))
      → get_or (fluents_in s' (layout_of s')) j 0 ≡ get_or (fluents_in s (layout_of s)) j 0
  fluents_at j off =
      let m = layout_of s in
      ap (λ (l : Layout). get_or (fluents_in s' l) j 0) layout_same
      ∙ byte_same s s' m.fluents m.formulas j (λ h. but.bytes (m.fluents + j) (λ x k o e. off x k o (omega arith)))

  -- the same domain sizes
  pub size_same : (x : ℕ) → (fluent_of s' x).size ≡ (fluent_of s x).size
  unfolding fluent_at
  size_same x = fluents_at (2 * x) (λ y k o e. omega arith)

  -- and the same initial values of the set
  pub initial_same : (x : ℕ) → (x < (layout_of s).f → has_bit names x ≡ true) → (fluent_of s' x).initial ≡ (fluent_of s x).initial
  unfolding fluent_at
  initial_same x set =
      fluents_at (2 * x + 1) (λ y k o e. let z : y ≡ x = omega arith in false≢true (sym o ∙ ap (has_bit names) z ∙ set (omega arith)))

  -- where the initial values are below the domain sizes, the fluents keep their rules alike
  module _ (inside : (x : ℕ) → x < (layout_of s).f → (fluent_of s' x).initial < (fluent_of s x).size) where
    kept : (x : ℕ) → fluent_ok (fluent_of s' x) ≡ fluent_ok (fluent_of s x)
    kept x = go (dec_lt x (layout_of s).f)
      where
        go : Dec (x < (layout_of s).f) → fluent_ok (fluent_of s' x) ≡ fluent_ok (fluent_of s x)
        go (yes l) =
            let e = size_same x in
            let (some, few, old) = fluent_of_lem s accepted x l in
            let new = inside x l in
            (fluent_exactly (fluent_of s' x)).1 (omega arith, omega arith, omega arith) ∙ sym ((ruled s accepted).fluent x l)
        go (no n) = λ i. fluent_ok record { size = size_same x i; initial = initial_same x (λ l. absurd (n l)) i }

    -- and the check answers the same: the same figure and the same union
    pub initials_accepted : check_of s' ≡ check_of s
    initials_accepted =
        let old = trailed s accepted in
        trailed_checked s' (alike.trailed_too s s' but.len (trailer_of s).d trailer_same accepted old.within.d)
        ∙ checked_same record { rest = rest_same; sizes = size_same; kept = kept } bound_same
        ∙ sym (trailed_checked s old)

  -- so it does of two accepted sheets
  pub check_initials : Accepts s' → check_of s' ≡ check_of s
  check_initials accepted' =
      initials_accepted (λ x l. let e = size_same x in let h = (fluent_of_lem s' accepted' x (omega (arith, rest_same.f))).2 in omega arith)

  -- the initial states agree on the set, and on places that are no fluent's
  pub values_same : (x : ℕ) → (x < (layout_of s).f → has_bit names x ≡ true) → get_or (initial_of s).values x 0 ≡ get_or (initial_of s').values x 0
  values_same x set = go (dec_lt x (layout_of s).f)
    where
      go : Dec (x < (layout_of s).f) → get_or (initial_of s).values x 0 ≡ get_or (initial_of s').values x 0
      go (yes l) = starting_at _ _ x l ∙ sym (initial_same x set) ∙ sym (starting_at _ _ x (omega (arith, rest_same.f)))
      go (no n) = starting_past _ _ x n ∙ sym (starting_past _ _ x (omega (arith, rest_same.f)))

  -- "32 places"
  pub places : (length (initial_of s).values ≡ 32) × (length (initial_of s').values ≡ 32)
  places = let l = (laid s accepted).f in (starting_places _ _ l, starting_places _ _ (omega (arith, rest_same.f)))

-- the sheet with another initial value of fluent x
module _ (s : List ℕ) (accepted : Accepts s) (x v : ℕ) (known : x < (layout_of s).f) where
  -- differs in that alone
  pub initial_alone : (names : ℕ) → has_bit names x ≡ false → SameButInitials names s (with_initial s x v)
  unfolding with_initial
  initial_alone names out =
      record { len = length-set s (initial_at s x) v; bytes = λ i off. get_or-set_other s (initial_at s x) i v 0 (off x known out) }

  alone : SameButInitials 0 s (with_initial s x v)
  alone = initial_alone 0 (ap (λ (n : ℕ). eqb (n % 2) 1) (zero-div (2 ^ x)))

  -- the value is put there, and the initial state has it
  pub initial_put : (fluent_of (with_initial s x v) x).initial ≡ v
  unfolding fluent_at with_initial
  initial_put =
      let m = layout_of s in
      let at = laid s accepted in
      ap (λ (l : Layout). get_or (fluents_in (with_initial s x v) l) (2 * x + 1) 0) (layout_same s (with_initial s x v) accepted 0 alone)
      ∙ part_byte (with_initial s x v) m.fluents m.formulas (2 * x + 1) (omega arith)
      ∙ get_or-set_same s (initial_at s x) v 0 (omega arith)

  pub value_put : get_or (initial_of (with_initial s x v)).values x 0 ≡ v
  value_put = let e = (rest_same s (with_initial s x v) accepted 0 alone).f in starting_at _ _ x (omega arith) ∙ initial_put

  -- the other fluents have the initial values that they had
  others_same : (y : ℕ) → ¬ (y ≡ x) → (fluent_of (with_initial s x v) y).initial ≡ (fluent_of s y).initial
  unfolding fluent_at with_initial
  others_same y n =
      let m = layout_of s in
      ap (λ (l : Layout). get_or (fluents_in (with_initial s x v) l) (2 * y + 1) 0) (layout_same s (with_initial s x v) accepted 0 alone)
      ∙ byte_same s (with_initial s x v) m.fluents m.formulas (2 * y + 1)
      (λ l. get_or-set_other s (initial_at s x) (m.fluents + (2 * y + 1)) v 0 (λ e. n (omega arith)))

  -- with a value below the domain size the sheet is accepted, with the same answer
  module _ (below : v < (fluent_of s x).size) where
    pub initial_accepted : check_of (with_initial s x v) ≡ check_of s
    initial_accepted = initials_accepted s (with_initial s x v) accepted 0 alone (λ y l. go y l (ℕ_discrete y x))
      where
        go : (y : ℕ) → y < (layout_of s).f → Dec (y ≡ x) → (fluent_of (with_initial s x v) y).initial < (fluent_of s y).size
        go y l (yes e) = subst (λ (z : ℕ). (fluent_of (with_initial s x v) z).initial < (fluent_of s z).size) (sym e) (omega (arith, initial_put, below))
        go y l (no n) = omega (arith, others_same y n, (fluent_of_lem s accepted y l).2)

    pub initial_accepts : Accepts (with_initial s x v)
    initial_accepts = (accepted.0, accepted.1, initial_accepted ∙ accepted.2)
