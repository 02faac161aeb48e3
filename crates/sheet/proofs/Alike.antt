-- Sheets of the same length whose trailers are the same but for the bound: every table lies where it lay, and the trailer keeps its rules
-- with any bound up to 64. Assumes nothing.
use mathlib.Core.Path.{◌≡◌, sym, ◌∙◌, ap, ap₂, subst}
use mathlib.Core.List.{List}
use Prim.Native.Nat.{ℕ, ◌-◌, ◌≤◌, ◌<◌}
use native.Mathlib.Omega.{arith}
use lib.ListN.{length, get_or}
use Rattle.sheet.specs.Trailer.{trailer_of, WithinLimits, record_bytes}
use Rattle.sheet.specs.Layout.{layout_in, layout_of, formulas_in, effects_in, actions_in, programs_in}
use Rattle.sheet.specs.Check.{Accepts}
use Rattle.sheet.specs.declared.Trailer.{Trailer}
use Rattle.sheet.specs.declared.Layout.{Layout}
use Rattle.sheet.proofs.Accepted.{Trailed, trailed, laid}
use Rattle.sheet.proofs.Parts.{part_same}
use Rattle.sheet.proofs.Tables.{SameRest}

-- a trailer with another bound
abbrev pub rebound : Trailer → (d : ℕ) → Trailer
rebound t d = record { f = t.f; q = t.q; e = t.e; a = t.a; p = t.p; d = d; distance = t.distance; magic = t.magic }

module _ (s s' : List ℕ) (len : length s' ≡ length s) (d : ℕ) (trailer : trailer_of s' ≡ rebound (trailer_of s) d) where
  -- each table has as many records and starts where it did
  pub layout_same : layout_of s' ≡ layout_in (rebound (trailer_of s) d) (length s - 18)
  unfolding layout_of
  layout_same = ap₂ (λ (t : Trailer) (n : ℕ). layout_in t (n - 18)) trailer len

  module _ (accepted : Accepts s) where
    -- with the same bytes from the formulas on, only the fluents' table can differ
    pub rest_same : ((i : ℕ) → (layout_of s).formulas ≤ i → i < (layout_of s).end → get_or s' i 0 ≡ get_or s i 0) → SameRest s s'
    unfolding layout_of layout_in
    rest_same bytes =
        let l = layout_same in
        let m = layout_of s in
        let at = laid s accepted in
        record {
          f = ap (λ (l : Layout). l.f) l;
          q = ap (λ (l : Layout). l.q) l;
          e = ap (λ (l : Layout). l.e) l;
          a = ap (λ (l : Layout). l.a) l;
          p = ap (λ (l : Layout). l.p) l;
          formulas = ap (formulas_in s') l ∙ part_same s s' m.formulas m.effects len (λ i g h. bytes i (omega arith) (omega arith));
          effects = ap (effects_in s') l ∙ part_same s s' m.effects m.actions len (λ i g h. bytes i (omega arith) (omega arith));
          actions = ap (actions_in s') l ∙ part_same s s' m.actions m.programs len (λ i g h. bytes i (omega arith) (omega arith));
          programs = ap (programs_in s') l ∙ part_same s s' m.programs m.end len (λ i g h. bytes i (omega arith) (omega arith));
        }

    -- the trailer keeps its rules with any bound up to 64
    pub trailed_too : d ≤ 64 → Trailed s'
    trailed_too small =
        let old = trailed s accepted in
        let w = old.within in
        let far = ap (λ (t : Trailer). t.distance) trailer in
        record {
          long = omega arith;
          magic = ap (λ (t : Trailer). t.magic) trailer ∙ old.magic;
          within = subst WithinLimits (sym trailer) record {
            some_fluent = w.some_fluent;
            f = w.f;
            q = w.q;
            e = w.e;
            a = w.a;
            some_record = w.some_record;
            p = w.p;
            d = small;
          };
          sum = far ∙ old.sum ∙ sym (ap record_bytes trailer);
          room = omega arith;
        }
