-- To be believed: the causes of the numbers 1 to 9, and the places (document 01, "Who can cause which number"). That the check answers by
-- the first of them, and else with the figure and the union, is proved in proofs/Exactly.antt. Assumes nothing.
use Rattle.std.specs.Prelude.{◌≡◌, List, ◌⊎◌, ◌↔◌, ℕ, ◌-◌, ◌^◌, ◌<◌, T, length}
use Rattle.records.specs.Lowest.{LowestFaulty}
use Rattle.records.specs.Records.{formula_at, program_at}
use Rattle.records.specs.Mask.{has_bit}
use Rattle.rules.specs.Kept.{FluentKept, FormulaKept, EffectKept, ActionKept, ProgramKept}
use Rattle.height.specs.Down.{HeightAbove}
use Rattle.height.specs.Work.{IsLevels, work_words}
use Rattle.named.specs.Below.{NamesBelow}
use Rattle.sheet.specs.Trailer.{trailer_of, WithinLimits, record_bytes}
use Rattle.sheet.specs.Layout.{layout_of, fluents_in, formulas_in, effects_in, actions_in, programs_in}

-- "A number comes with a place: the lowest faulty record for 4 to 8, else 0"
abbrev pub Cause : List ℕ → (number place : ℕ) → Type 0
Cause s number place =
    let t = trailer_of s in
    let l = layout_of s in
    -- "1: under 18 bytes, or last two bytes wrong"
    ((number ≡ 1) × (place ≡ 0) × ((length s < 18) ⊎ (¬ (t.magic ≡ 0x5142))))
    -- "2: a count, or D, outside its limits"
    ⊎ ((number ≡ 2) × (place ≡ 0) × (¬ WithinLimits t))
    -- "3: distance not the sum, or more than the bytes before the trailer"
    ⊎ ((number ≡ 3) × (place ≡ 0) × ((¬ (t.distance ≡ record_bytes t)) ⊎ (length s - 18 < t.distance)))
    -- "4, 5, 6, 7, 8: a fluent, formula, effect, action, program record breaks its rule or has an unknown kind"
    ⊎ ((number ≡ 4) × LowestFaulty (FluentKept (fluents_in s l)) l.f place)
    ⊎ ((number ≡ 5) × LowestFaulty (FormulaKept (fluents_in s l) l.f (formulas_in s l)) l.q place)
    ⊎ ((number ≡ 6) × LowestFaulty (EffectKept (fluents_in s l) l.f l.q (effects_in s l)) l.e place)
    ⊎ ((number ≡ 7) × LowestFaulty (ActionKept l.q l.e (actions_in s l)) l.a place)
    ⊎ ((number ≡ 8) × LowestFaulty (ProgramKept l.q l.a (programs_in s l)) l.p place)
    -- "9: height above 16"
    ⊎ ((number ≡ 9) × (place ≡ 0) × HeightAbove (program_at (programs_in s l)) l.p 16)

-- "Checked in rising order": the cause of a number, and no cause of a lower one
abbrev pub First : (cause : ℕ → ℕ → Type 0) → (number place : ℕ) → Type 0
First cause number place = cause number place × ((lower at : ℕ) → lower < number → ¬ cause lower at)

-- "Checking returns this figure": w is (D + 1) × (64 + 3 × (1 + 2 × h × D)), where "h is the height, plus 2 if any record has kind 11"
abbrev pub Figure : List ℕ → (w : ℕ) → Type 0
Figure s w = let l = layout_of s in (h : ℕ) × IsLevels (program_at (programs_in s l)) l.p h × (w ≡ work_words h l.d)

-- document 02, F-5: "checking a sheet returns the union over its formula table": a number of 32 bits, of which bit x is set exactly where a
-- formula of the table, or one below it, names fluent x
abbrev pub Union : List ℕ → (u : ℕ) → Type 0
Union s u =
    let l = layout_of s in
    (u < 2 ^ 32) × ((x : ℕ) → x < 32 → T (has_bit u x) ↔ ((q : ℕ) × (q < l.q) × NamesBelow (formula_at (formulas_in s l)) q x))
