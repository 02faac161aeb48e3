-- Sheets that differ only in initial values of fluents outside the union of what formulas name are answered alike (document 02, F-5): their
-- first configurations have the same program, in states that agree on the union, and such configurations are alike. Assumes nothing.
use mathlib.Core.Path.{◌≡◌, refl, sym, ◌∙◌, ap}
use mathlib.Core.Bool.{Bool, true}
use mathlib.Core.List.{List}
use Prim.Native.Nat.{ℕ, ◌≤◌, ◌<◌}
use native.Mathlib.Decide.{dec_lt}
use native.Mathlib.Omega.{arith}
use lib.Dec.{T}
use lib.ListN.{get_or-eq_default}
use Rattle.records.specs.Records.{formula_at}
use Rattle.records.specs.Mask.{has_bit}
use Rattle.records.proofs.Masks.{mask_has}
use Rattle.records.proofs.Truth.{is_true}
use Rattle.kinds.specs.Formulas.{is_plain}
use Rattle.named.specs.Named.{table_names}
use Rattle.named.proofs.Named.{table_covers}
use Rattle.runs.specs.Earliest.{first_plan}
use Rattle.runs.specs.Guide.{accepts}
use Rattle.runs.proofs.Alikes.{first_alike, accepts_alike}
use Rattle.sheet.specs.Layout.{layout_of, formulas_in}
use Rattle.sheet.specs.Check.{Accepts}
use Rattle.sheet.specs.declared.Layout.{Layout}
use Rattle.sheet.proofs.Accepted.{ruled, laid}
use Rattle.sheet.proofs.Lower.{plain_formulas}
use Rattle.sheet.proofs.Parts.{part_length, in_order}
use Rattle.golog.specs.Agree.{Agree, Covers, AgreeAt}
use Rattle.golog.proofs.Kept.{alike}
use Rattle.golog.proofs.Named.{holds_named}
use Rattle.demands.specs.Decoded.{world_of, first_of, initial_of, bound_of}
use Rattle.demands.specs.Planning.{transitions_in, is_final_in, verdict_of, accepts_of}
use Rattle.demands.specs.Initials.{SameButInitials}
use Rattle.demands.proofs.Tables.{world_same, program_same}
use Rattle.demands.proofs.Initials.{layout_same, bound_same, rest_same, size_same, check_initials, values_same, places}
use Rattle.demands.proofs.Alike.{AnsweredAlike}

module _ (s : List ℕ) (accepted : Accepts s) where
  -- what the formulas name, as a set of numbers
  abbrev union : ℕ → Bool
  union = table_names (world_of s).formula (layout_of s).q

  -- behind the table formulas read as kind 0
  none_behind : (q : ℕ) → (layout_of s).q ≤ q → ((world_of s).formula q).kind ≡ 0
  unfolding formula_at
  none_behind q h =
      let l = layout_of s in
      let f = laid s accepted in
      let o = in_order f in
      let long = part_length s l.formulas l.effects o.formulas (omega (arith, o.effects, o.actions, o.programs, o.end)) in
      get_or-eq_default (formulas_in s l) 0 (omega (arith, long, f.at_effects))

  -- so no formula has placeholders, and the union, which has every fluent that one names, decides what they say
  plain : (q : ℕ) → T (is_plain ((world_of s).formula q).kind)
  plain q = go (dec_lt q (layout_of s).q)
    where
      go : Dec (q < (layout_of s).q) → T (is_plain ((world_of s).formula q).kind)
      go (yes l) = plain_formulas s accepted q l
      go (no l) = rw (none_behind q (omega arith)) tt

  union_covers : Covers union (world_of s)
  union_covers st st' same q =
      holds_named (world_of s) plain st st' q (λ x t. same x (table_covers (world_of s).formula (layout_of s).q none_behind q x t))

  module _ (s' : List ℕ) (accepted' : Accepts s') (but : SameButInitials accepted.1 s s') where
    -- a fluent of the union has its bit in the set that the check answers
    bit_of : (x : ℕ) → T (union x) → x < (layout_of s).f → has_bit accepted.1 x ≡ true
    bit_of x t l =
        ap (λ (u : ℕ). has_bit u x) (ruled s accepted).union
        ∙ mask_has union 32 x (omega (arith, (laid s accepted).f))
        ∙ is_true (union x) t

    agree : Agree union (initial_of s) (initial_of s')
    agree =
        let n = places s s' accepted accepted.1 but in
        record {
          same = λ x t. values_same s s' accepted accepted.1 but x (bit_of x t);
          places = n.0 ∙ sym n.1;
          runs = refl;
        }

    related : AgreeAt union (first_of s) (first_of s')
    related = (sym (program_same (rest_same s s' accepted accepted.1 but)), agree)

    -- the same verdict, and the same histories accepted
    pub outside_alike : AnsweredAlike s s'
    unfolding verdict_of accepts_of
    outside_alike =
        let world = world_same (rest_same s s' accepted accepted.1 but) (size_same s s' accepted accepted.1 but) in
        let bound = bound_same s s' accepted accepted.1 but in
        let like = alike union (world_of s) union_covers in
        record {
          check = check_initials s s' accepted accepted.1 but accepted';
          fluents = ap (λ (l : Layout). l.f) (layout_same s s' accepted accepted.1 but);
          bound = bound;
          verdict =
              (λ i. first_plan (transitions_in (world i)) (is_final_in (world i)) (bound i) (first_of s'))
              ∙ sym (first_alike (AgreeAt union) (transitions_in (world_of s)) (is_final_in (world_of s)) like (bound_of s) (first_of s) (first_of s') related);
          accepted =
              λ h. (λ i. accepts (transitions_in (world i)) (is_final_in (world i)) (bound i) (first_of s') h)
              ∙ sym (accepts_alike (AgreeAt union) (transitions_in (world_of s)) (is_final_in (world_of s)) like (bound_of s) (first_of s) (first_of s') related h);
        }
