-- Sheets that differ in the bound alone have the same tables: every table lies where it lay, with the same bytes. So an accepted sheet
-- with another bound is accepted, with the figure for that bound. Assumes nothing.
use mathlib.Core.Path.{◌≡◌, sym, ◌∙◌, ap, ap₂}
use mathlib.Core.List.{List}
use Prim.Native.Nat.{ℕ, ◌+◌, ◌-◌, ◌*◌, ◌/◌, ◌%◌, ◌≤◌, ◌<◌}
use native.Mathlib.Omega.{arith}
use lib.ListN.{length, get_or, set, length-set}
use lib.Seq.{get_or-set_same, get_or-set_other, lt-length-set}
use Rattle.records.specs.Bytes.{part, le16}
use Rattle.height.specs.Work.{work_words}
use Rattle.sheet.specs.Trailer.{trailer_in, trailer_of}
use Rattle.sheet.specs.Layout.{layout_in, layout_of, fluents_in}
use Rattle.sheet.specs.Check.{Accepts, check_of, accepted_with}
use Rattle.sheet.proofs.Accepted.{trailed, trailed_checked, laid}
use Rattle.sheet.proofs.Parts.{part_byte, byte_same, part_same}
use Rattle.sheet.proofs.Tables.{SameTables, sizes_same, figured, figure_of, checked_alike}
use Rattle.sheet.proofs.Alike.{rebound, layout_same, rest_same, trailed_too}
use Rattle.demands.specs.Decoded.{bound_of, levels_of}
use Rattle.demands.specs.Raised.{SameButBound, with_bound}

module _ (s s' : List ℕ) (long : 18 ≤ length s) (but : SameButBound s s') where
  abbrev tail : List ℕ
  tail = part s (length s - 18) (length s)

  abbrev tail' : List ℕ
  tail' = part s' (length s' - 18) (length s')

  -- byte k of the trailer, but for the two of the bound
  trailer_at : (k : ℕ) → k < 18 → ¬ (k ≡ 10) → ¬ (k ≡ 11) → get_or tail' k 0 ≡ get_or tail k 0
  trailer_at k h n m =
      ap (λ (n : ℕ). get_or (part s' (n - 18) n) k 0) but.len
      ∙ byte_same s s' (length s - 18) (length s) k (λ l. but.bytes (length s - 18 + k) (λ q. n (omega arith)) (λ q. m (omega arith)))

  -- a field of two bytes before the bound's, and one behind it
  field_before : (k : ℕ) → k + 1 < 10 → le16 tail' k ≡ le16 tail k
  field_before k h =
      ap₂ (λ (x y : ℕ). x + 256 * y) (trailer_at k (omega arith) (λ q. omega arith) (λ q. omega arith))
      (trailer_at (k + 1) (omega arith) (λ q. omega arith) (λ q. omega arith))

  field_behind : (k : ℕ) → 11 < k → k + 1 < 18 → le16 tail' k ≡ le16 tail k
  field_behind k g h =
      ap₂ (λ (x y : ℕ). x + 256 * y) (trailer_at k (omega arith) (λ q. omega arith) (λ q. omega arith))
      (trailer_at (k + 1) (omega arith) (λ q. omega arith) (λ q. omega arith))

  trailer_same : trailer_of s' ≡ rebound (trailer_of s) (bound_of s')
  unfolding trailer_in layout_of layout_in
  trailer_same =
      λ i. record {
        f = field_before 0 (omega arith) i;
        q = field_before 2 (omega arith) i;
        e = field_before 4 (omega arith) i;
        a = field_before 6 (omega arith) i;
        p = field_before 8 (omega arith) i;
        d = bound_of s';
        distance = field_behind 12 (omega arith) (omega arith) i + 65536 * field_behind 14 (omega arith) (omega arith) i;
        magic = field_behind 16 (omega arith) (omega arith) i;
      }

module _ (s s' : List ℕ) (accepted : Accepts s) (but : SameButBound s s') where
  -- the same trailer, but for the bound
  trailer : trailer_of s' ≡ rebound (trailer_of s) (bound_of s')
  trailer = trailer_same s s' (trailed s accepted).long but

  -- the bytes before the trailer are the same, and so the tables
  bytes_same : (i : ℕ) → i < (layout_of s).end → get_or s' i 0 ≡ get_or s i 0
  bytes_same i l = let g = (laid s accepted).inside in but.bytes i (λ z. omega arith) (λ z. omega arith)

  pub tables_same : SameTables s s'
  unfolding layout_of layout_in
  tables_same =
      let m = layout_of s in
      let at = laid s accepted in
      record {
        rest = rest_same s s' but.len (bound_of s') trailer accepted (λ i l h. bytes_same i h);
        fluents =
            ap (fluents_in s') (layout_same s s' but.len (bound_of s') trailer)
            ∙ part_same s s' m.fluents m.formulas but.len (λ i l h. bytes_same i (omega arith));
      }

  -- and the sheet is accepted, with the figure for its bound and the same union
  pub accepted_too : bound_of s' ≤ 64 → check_of s' ≡ accepted_with (work_words (levels_of s) (bound_of s')) accepted.1
  accepted_too small =
      trailed_checked s' (trailed_too s s' but.len (bound_of s') trailer accepted small)
      ∙ checked_alike (sizes_same tables_same)
      ∙ ap (figured (figure_of s (bound_of s'))) (sym (trailed_checked s (trailed s accepted)) ∙ accepted.2)

-- the sheet with a bound put in
module _ (s : List ℕ) (long : 18 ≤ length s) (d : ℕ) where
  put_len : length (with_bound s d) ≡ length s
  unfolding with_bound
  put_len = simp length-set

  -- differs in the bound alone
  pub bound_alone : SameButBound s (with_bound s d)
  unfolding with_bound
  bound_alone =
      record {
        len = put_len;
        bytes = λ i n₈ n₇.
            get_or-set_other (set s (length s - 8) (d % 256)) (length s - 7) i (d / 256) 0 (λ e. n₇ (omega arith))
            ∙ get_or-set_other s (length s - 8) i (d % 256) 0 (λ e. n₈ (omega arith));
      }

  -- its two bytes, and the bound that they make
  put_at : (k i : ℕ) → k < 18 → i + 18 ≡ length s + k → let x = with_bound s d in get_or (part x (length x - 18) (length x)) k 0 ≡ get_or x i 0
  put_at k i h e =
      let x = with_bound s d in
      let l = put_len in
      part_byte x (length x - 18) (length x) k (omega arith) ∙ ap (λ (j : ℕ). get_or x j 0) (omega arith)

  pub bound_put : bound_of (with_bound s d) ≡ d
  unfolding layout_of layout_in trailer_in with_bound
  bound_put =
      let n = length s in
      let low =
      put_at 10 (n - 8) (omega arith) (omega arith)
      ∙ get_or-set_other (set s (n - 8) (d % 256)) (n - 7) (n - 8) (d / 256) 0 (λ e. omega arith)
      ∙ get_or-set_same s (n - 8) (d % 256) 0 (omega arith) in
      let high =
      put_at 11 (n - 7) (omega arith) (omega arith)
      ∙ get_or-set_same (set s (n - 8) (d % 256)) (n - 7) (d / 256) 0 (lt-length-set s (n - 8) (d % 256) (omega arith)) in
      ap₂ (λ (x y : ℕ). x + 256 * y) low high ∙ omega arith
