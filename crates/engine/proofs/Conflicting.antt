-- The actions whose effects are compared in each state: those of the performed ones that may conflict; they and their effects lie in the
-- sheet's tables. Assumes nothing.
use Rattle.std.proofs.Common.{◌≡◌, ℕ, ◌<◌, Bool, true, false, ◌⊎◌, List, get_or, refl, subst, inl, inr, arith}
use Rattle.records.specs.Records.{action_at}
use Rattle.sheet.specs.Layout.{layout_of, formulas_in, effects_in, actions_in}
use Rattle.sheet.specs.Check.{Accepts}
use Rattle.sheet.proofs.Accepted.{laid}
use Rattle.sheet.proofs.Parts.{formulas_long}
use Rattle.demands.specs.Decoded.{records_of}
use Rattle.state.specs.Ranges.{Performable}
use Rattle.state.specs.Conflicts.{Listed, Lists}
use Rattle.state.specs.Exclusion.{Readable, ReadableAll, MayConflict}
use Rattle.leaves.specs.Performed.{Performed}
use Rattle.engine.specs.Tables.{ExclusiveIn, ListsMayConflict}
use Rattle.engine.proofs.Actions.{action_known, performable, conditions_below}

module _ (s : List ℕ) (accepted : Accepts s) where
  abbrev formulas : List ℕ
  formulas = formulas_in s (layout_of s)

  abbrev effects : List ℕ
  effects = effects_in s (layout_of s)

  abbrev actions : List ℕ
  actions = actions_in s (layout_of s)

  pub listed_at : (a : ℕ) → a < (layout_of s).a → (a < 64) × Performable effects actions 32 a
  listed_at a l =
      let f = laid s accepted in
      let p = performable s accepted a (omega (arith, f.a), λ h. l) in
      (omega (arith, f.a), record { known = p.known; range = p.range; names = λ h i x y. omega (arith, p.names h i x y, f.f) })

  -- the conditions of its effects are formulas of the sheet
  readable_at : (a : ℕ) → a < (layout_of s).a → Readable formulas effects (action_at actions a).first (action_at actions a).count
  readable_at a l =
      let f = laid s accepted in
      let (small, p) = listed_at a l in
      let low = conditions_below s accepted a l in
      record {
        range = p.range (omega arith);
        names = p.names (omega arith);
        conditions = λ i x y. omega (arith, low i x y, f.q);
        long = λ i x y. omega (arith, low i x y, formulas_long s (layout_of s) f);
      }

  module _ {marks : List Bool} (P : Performed (records_of s) (layout_of s).p marks) where
    -- what is marked is an action of the sheet
    marked_known : (a : ℕ) → get_or marks a false ≡ true → a < (layout_of s).a
    marked_known a h = let (i, l, t, e) = P.only a h in subst (λ (b : ℕ). b < (layout_of s).a) e (action_known s accepted i l t)

    pub readable : ReadableAll formulas effects actions marks
    readable = record {
      known = λ a h. let k = listed_at a (marked_known a h) in k.1.known (omega (arith, k.0));
      each = λ a h. readable_at a (marked_known a h);
    }

    pub listed_may_conflict : {may_conflict : List Bool} {list : List ℕ} → MayConflict formulas effects actions marks may_conflict → Lists may_conflict list → ListsMayConflict s list
    listed_may_conflict {may_conflict} {list} R L = record {
      known = λ a h. listed_at a (marked_known a (R.within a (L.marked a h)));
      all = λ i l t. told (records_of s i).a (P.all i l t (listed_at _ (action_known s accepted i l t)).0) _ refl;
    }
      where
        told : (a : ℕ) → get_or marks a false ≡ true → (b : Bool) → get_or may_conflict a false ≡ b → Listed list a ⊎ ExclusiveIn s a
        told a h true e = inl (L.all a e)
        told a h false e = inr (R.rest a h e)
