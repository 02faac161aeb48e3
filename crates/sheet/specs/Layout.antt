-- To be believed: where the five tables lie, one after the other, each a part of the sheet (document 01: "Tables follow in this order").
-- Assumes nothing.
use Rattle.std.specs.Prelude.{◌≡◌, ℕ, ◌+◌, ◌-◌, ◌*◌, ◌≤◌, List, length}
use Rattle.records.specs.Bytes.{part}
use Rattle.sheet.specs.Trailer.{trailer_of}
use Rattle.sheet.specs.declared.Trailer.{Trailer}
use Rattle.sheet.specs.declared.Layout.{Layout}

-- with `room` bytes before the trailer
unfoldable pub layout_in : Trailer → (room : ℕ) → Layout
layout_in t room =
    let fluents : ℕ = room - t.distance in
    let formulas : ℕ = fluents + 2 * t.f in
    let effects : ℕ = formulas + 6 * t.q in
    let actions : ℕ = effects + 4 * t.e in
    let programs : ℕ = actions + 6 * t.a in
    record {
      f = t.f;
      q = t.q;
      e = t.e;
      a = t.a;
      p = t.p;
      d = t.d;
      fluents = fluents;
      formulas = formulas;
      effects = effects;
      actions = actions;
      programs = programs;
      end = programs + 8 * t.p;
    }

unfoldable pub layout_of : List ℕ → Layout
layout_of s = layout_in (trailer_of s) (length s - 18)

-- the five tables
abbrev pub fluents_in : List ℕ → Layout → List ℕ
fluents_in s l = part s l.fluents l.formulas

abbrev pub formulas_in : List ℕ → Layout → List ℕ
formulas_in s l = part s l.formulas l.effects

abbrev pub effects_in : List ℕ → Layout → List ℕ
effects_in s l = part s l.effects l.actions

abbrev pub actions_in : List ℕ → Layout → List ℕ
actions_in s l = part s l.actions l.programs

abbrev pub programs_in : List ℕ → Layout → List ℕ
programs_in s l = part s l.programs l.end

-- the counts are within their limits, and the tables lie in a slice of n bytes, each behind the one before
pub record LaidOut (l : Layout) (n : ℕ) : Type 0 where
  pub some_fluent : 1 ≤ l.f
  pub f : l.f ≤ 32
  pub q : l.q ≤ 512
  pub e : l.e ≤ 512
  pub a : l.a ≤ 64
  pub some_record : 1 ≤ l.p
  pub p : l.p ≤ 256
  pub d : l.d ≤ 64
  pub at_formulas : l.formulas ≡ l.fluents + 2 * l.f
  pub at_effects : l.effects ≡ l.formulas + 6 * l.q
  pub at_actions : l.actions ≡ l.effects + 4 * l.e
  pub at_programs : l.programs ≡ l.actions + 6 * l.a
  pub at_end : l.end ≡ l.programs + 8 * l.p
  pub inside : l.end + 18 ≡ n
