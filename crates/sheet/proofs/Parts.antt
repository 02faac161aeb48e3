-- The bytes of a part of a sheet, and parts with the same bytes. Where tables are laid out in a sheet they lie in it one behind the other,
-- and are as long as their records. Assumes nothing.
use mathlib.Core.Path.{◌≡◌, sym, ◌∙◌}
use mathlib.Core.List.{List}
use Prim.Native.Nat.{ℕ, ◌+◌, ◌-◌, ◌*◌, ◌≤◌, ◌<◌}
use native.Mathlib.Decide.{dec_lt}
use native.Mathlib.Omega.{arith}
use lib.ListN.{length, get_or, drop, length-take, length-drop, get_or-eq_default}
use lib.Seq.{ext_get_or, get_or-take, get_or-drop, length-take-le}
use Rattle.records.specs.Bytes.{part}
use Rattle.records.specs.Records.{ProgramTable}
use Rattle.sheet.specs.Layout.{LaidOut, fluents_in, formulas_in, effects_in, actions_in, programs_in}
use Rattle.sheet.specs.declared.Layout.{Layout}

-- the length of a part that lies in a list
pub part_length : (s : List ℕ) (a e : ℕ) → a ≤ e → e ≤ length s → length (part s a e) ≡ e - a
part_length s a e l h = length-take-le (e - a) _ (omega (arith, length-drop a s))

-- byte i of a part, and none behind it
pub part_byte : (s : List ℕ) (a e i : ℕ) → i < e - a → get_or (part s a e) i 0 ≡ get_or s (a + i) 0
part_byte s a e i l = get_or-take (e - a) (drop a s) i 0 l ∙ get_or-drop a s i 0

part_past : (s : List ℕ) (a e i : ℕ) → ¬ (i < e - a) → get_or (part s a e) i 0 ≡ 0
part_past s a e i n = get_or-eq_default (part s a e) 0 (omega (arith, length-take (e - a) (drop a s)))

module _ (s s' : List ℕ) (a e : ℕ) where
  -- it is the same in two sheets where the sheets have the same byte there
  pub byte_same : (i : ℕ) → (i < e - a → get_or s' (a + i) 0 ≡ get_or s (a + i) 0) → get_or (part s' a e) i 0 ≡ get_or (part s a e) i 0
  byte_same i same = go (dec_lt i (e - a))
    where
      go : Dec (i < e - a) → get_or (part s' a e) i 0 ≡ get_or (part s a e) i 0
      go (yes l) = part_byte s' a e i l ∙ same l ∙ sym (part_byte s a e i l)
      go (no n) = part_past s' a e i n ∙ sym (part_past s a e i n)

  -- equal bytes give equal parts
  pub part_same : length s' ≡ length s → ((i : ℕ) → a ≤ i → i < e → get_or s' i 0 ≡ get_or s i 0) → part s' a e ≡ part s a e
  part_same len same =
      ext_get_or 0 (part s' a e) (part s a e) (simp (length-take, length-drop, len)) (λ i h. byte_same i (λ l. same (a + i) (omega arith) (omega arith)))

-- each table begins where the one before it ends, and the last ends in n bytes
pub record InOrder (l : Layout) (n : ℕ) : Type 0 where
  pub fluents : l.fluents ≤ l.formulas
  pub formulas : l.formulas ≤ l.effects
  pub effects : l.effects ≤ l.actions
  pub actions : l.actions ≤ l.programs
  pub programs : l.programs ≤ l.end
  pub end : l.end ≤ n

pub in_order : {l : Layout} {n : ℕ} → LaidOut l n → InOrder l n
in_order f = record {
  fluents = omega (arith, f.at_formulas);
  formulas = omega (arith, f.at_effects);
  effects = omega (arith, f.at_actions);
  actions = omega (arith, f.at_programs);
  programs = omega (arith, f.at_end);
  end = omega (arith, f.inside);
}

module _ (s : List ℕ) (l : Layout) (f : LaidOut l (length s)) where
  pub fluents_long : (2 * l.f ≤ length (fluents_in s l)) × (l.f ≤ 32)
  fluents_long =
      let o = in_order f in
      (omega (arith, part_length s l.fluents l.formulas o.fluents (omega arith), f.at_formulas), f.f)

  pub formulas_long : 6 * l.q ≤ length (formulas_in s l)
  formulas_long =
      let o = in_order f in
      omega (arith, part_length s l.formulas l.effects o.formulas (omega arith), f.at_effects)

  pub effects_long : 4 * l.e ≤ length (effects_in s l)
  effects_long =
      let o = in_order f in
      omega (arith, part_length s l.effects l.actions o.effects (omega arith), f.at_actions)

  pub actions_long : 6 * l.a ≤ length (actions_in s l)
  actions_long =
      let o = in_order f in
      omega (arith, part_length s l.actions l.programs o.actions (omega arith), f.at_programs)

  pub programs_long : ProgramTable (programs_in s l) l.p
  programs_long =
      let o = in_order f in
      record { long = omega (arith, part_length s l.programs l.end o.programs o.end, f.at_end); some_record = f.some_record; few = f.p }
