-- What acceptance tells: no cause of 1 to 9 holds, so the tables lie in the sheet, every record keeps its rule, the height is at most
-- 16 and the answer is the figure and the union. Assumes nothing.
use mathlib.Core.Path.{◌≡◌, refl, sym, ap, subst}
use mathlib.Core.List.{List}
use mathlib.Core.Bool.{Bool, true, false, not, cond}
use Prim.Native.Nat.{ℕ, ◌+◌, ◌-◌, ◌≤◌, ◌<◌}
use native.Mathlib.Omega.{arith}
use borrow.Author.Tests.{ltb-false, not-false, eqb-true, le-ltb, eq-eqb}
use lib.ListN.{length}
use lib.Dec.{ltb, eqb}
use Rattle.records.specs.Lowest.{lowest}
use Rattle.records.specs.Records.{program_at}
use Rattle.records.proofs.Lowest.{lower_true}
use Rattle.rules.specs.Tables.{fluents_ok, formulas_ok, effects_ok, actions_ok, programs_ok}
use Rattle.height.specs.Height.{height_of}
use Rattle.height.specs.Work.{levels, work_words}
use Rattle.sheet.specs.Trailer.{trailer_of, limits_ok, WithinLimits, record_bytes, distance_ok}
use Rattle.sheet.specs.Layout.{layout_in, layout_of, LaidOut, fluents_in, formulas_in, effects_in, actions_in, programs_in}
use Rattle.sheet.specs.Check.{refused, refused_at, tables_checked, names_in, height_checked, records_checked, trailer_checked, check_of, Accepts, Checked, accepted_with, words_of, fluents_named}
use Rattle.sheet.proofs.Checking.{within, limits_exactly, lies, placed_exactly, fits}
use Rattle.sheet.specs.declared.Layout.{Layout}

-- an answer that accepts has passed the test
passed : (b : Bool) (n p : ℕ) (x : Checked) {w u : ℕ} → cond b (refused n p) x ≡ accepted_with w u → (b ≡ false) × (x ≡ accepted_with w u)
passed true n p x e = (cc, cc)
passed false n p x e = (refl, e)

-- and has found no faulty record
kept : (number : ℕ) (ok : ℕ → Bool) (n : ℕ) (next : Checked) {w u : ℕ} → refused_at number (lowest ok n) n next ≡ accepted_with w u
    → ((i : ℕ) → i < n → ok i ≡ true) × (next ≡ accepted_with w u)
unfolding refused_at
kept number ok n next e =
    let r = passed (ltb (lowest ok n) n) number (lowest ok n) next e in
    let l = ltb-false (lowest ok n) n r.0 in
    (λ i h. lower_true ok n i (omega arith), r.1)

-- what numbers 1 to 3 leave
pub record Trailed (s : List ℕ) : Type 0 where
  pub long : 18 ≤ length s
  pub magic : (trailer_of s).magic ≡ 0x5142
  pub within : WithinLimits (trailer_of s)
  pub sum : (trailer_of s).distance ≡ record_bytes (trailer_of s)
  pub room : (trailer_of s).distance ≤ length s - 18

-- of such a sheet numbers 4 to 9 are asked
pub trailed_checked : (s : List ℕ) → Trailed s → check_of s ≡ records_checked s (layout_of s)
unfolding check_of trailer_checked layout_of
trailed_checked s t =
    let r = trailer_of s in
    let room : ℕ = length s - 18 in
    simp (le-ltb (length s) 18 t.long, eq-eqb r.magic 0x5142 t.magic, (limits_exactly r).1 t.within, (placed_exactly r room).1 (t.sum, t.room))

-- what numbers 4 to 9 leave
pub record Ruled (s : List ℕ) (l : Layout) (w u : ℕ) : Type 0 where
  pub fluent : (i : ℕ) → i < l.f → fluents_ok (fluents_in s l) i ≡ true
  pub formula : (i : ℕ) → i < l.q → formulas_ok (fluents_in s l) l.f (formulas_in s l) i ≡ true
  pub effect : (i : ℕ) → i < l.e → effects_ok (fluents_in s l) l.f l.q (effects_in s l) i ≡ true
  pub action : (i : ℕ) → i < l.a → actions_ok l.q l.e (actions_in s l) i ≡ true
  pub program : (i : ℕ) → i < l.p → programs_ok l.q l.a (programs_in s l) i ≡ true
  pub height : height_of (program_at (programs_in s l)) l.p ≤ 16
  pub figure : w ≡ work_words (levels (program_at (programs_in s l)) l.p) l.d
  pub union : u ≡ names_in s l

figure_of : (x y w u : ℕ) → accepted_with x y ≡ accepted_with w u → (w ≡ x) × (u ≡ y)
figure_of x y w u e = (sym (ap words_of e), sym (ap fluents_named e))

ruled_in : (s : List ℕ) (l : Layout) (w u : ℕ) → records_checked s l ≡ accepted_with w u → Ruled s l w u
unfolding tables_checked height_checked
ruled_in s l w u e =
    let p = program_at (programs_in s l) in
    let k₄ = kept 4 (fluents_ok (fluents_in s l)) l.f _ e in
    let k₅ = kept 5 (formulas_ok (fluents_in s l) l.f (formulas_in s l)) l.q _ k₄.1 in
    let k₆ = kept 6 (effects_ok (fluents_in s l) l.f l.q (effects_in s l)) l.e _ k₅.1 in
    let k₇ = kept 7 (actions_ok l.q l.e (actions_in s l)) l.a _ k₆.1 in
    let k₈ = kept 8 (programs_ok l.q l.a (programs_in s l)) l.p _ k₇.1 in
    let h = passed (ltb 16 (height_of p l.p)) 9 0 _ k₈.1 in
    let a = figure_of (work_words (levels p l.p) l.d) (names_in s l) w u h.1 in
    record {
      fluent = k₄.0;
      formula = k₅.0;
      effect = k₆.0;
      action = k₇.0;
      program = k₈.0;
      height = ltb-false 16 _ h.0;
      figure = a.0;
      union = a.1;
    }

-- the two together
both : (s : List ℕ) (w u : ℕ) → check_of s ≡ accepted_with w u → Trailed s × Ruled s (layout_of s) w u
unfolding check_of trailer_checked layout_of
both s w u e =
    let t = trailer_of s in
    let e₁ = passed (ltb (length s) 18) 1 0 _ e in
    let e₂ = passed (not (eqb t.magic 0x5142)) 1 0 _ e₁.1 in
    let e₃ = passed (not (limits_ok t)) 2 0 _ e₂.1 in
    let e₄ = passed (not (distance_ok t (length s - 18))) 3 0 _ e₃.1 in
    let p = lies t (length s - 18) (not-false (distance_ok t (length s - 18)) e₄.0) in (
      record {
        long = ltb-false (length s) 18 e₁.0;
        magic = eqb-true t.magic 0x5142 (not-false (eqb t.magic 0x5142) e₂.0);
        within = within t (not-false (limits_ok t) e₃.0);
        sum = p.0;
        room = p.1;
      },
      ruled_in s (layout_in t (length s - 18)) w u e₄.1,
    )

module _ (s : List ℕ) (accepted : Accepts s) where
  pub trailed : Trailed s
  trailed = (both s accepted.0 accepted.1 accepted.2).0

  pub ruled : Ruled s (layout_of s) accepted.0 accepted.1
  ruled = (both s accepted.0 accepted.1 accepted.2).1

  -- the tables lie in the sheet
  pub laid : LaidOut (layout_of s) (length s)
  unfolding layout_of
  laid =
      let t = trailed in
      let e : length s - 18 + 18 ≡ length s = let l = t.long in omega arith in
      subst (LaidOut (layout_in (trailer_of s) (length s - 18))) e (fits (trailer_of s) (length s - 18) t.within t.sum t.room)
