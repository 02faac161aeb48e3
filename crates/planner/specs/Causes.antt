-- To be believed: the causes of the numbers that planning and replay give (document 01, "Who can cause which number"). That a call answers
-- by the first of them, and without a number exactly where there is none, is proved in proofs/Exactly.antt. Assumes nothing.
use Rattle.std.specs.Prelude.{◌≡◌, List, ◌⊎◌, ℕ, ◌<◌}
use Rattle.height.specs.Work.{work_words}
use Rattle.sheet.specs.Causes.{Cause}
use Rattle.demands.specs.Decoded.{bound_of, levels_of}
use Rattle.demands.specs.Planning.{NoPlanAtAll, NoPlanWithinBound}

-- "Planning and replay require (D + 1) × (64 + 3 × (1 + 2 × h × D)) u32 words"
abbrev pub required : List ℕ → ℕ
required s = work_words (levels_of s) (bound_of s)

-- planning, with so many words of work and so many trace entries
abbrev pub PlanCause : List ℕ → (work trace : ℕ) → (number place : ℕ) → Type 0
PlanCause s work trace number place =
    -- "every call that takes a sheet checks all nine"
    Cause s number place
    -- "10: trace shorter than D (planning only)"
    ⊎ ((number ≡ 10) × (place ≡ 0) × (trace < bound_of s))
    -- "11: work shorter than required (planning and replay)"
    ⊎ ((number ≡ 11) × (place ≡ 0) × (work < required s))
    -- "13: no run of at most D transitions ends final, and no run has D + 1"
    ⊎ ((number ≡ 13) × (place ≡ 0) × NoPlanAtAll s)
    -- "14: none ends final, but some run has D + 1"
    ⊎ ((number ≡ 14) × (place ≡ 0) × NoPlanWithinBound s)

-- replay, with so many words of work
abbrev pub ReplayCause : List ℕ → (work : ℕ) → (number place : ℕ) → Type 0
ReplayCause s work number place =
    -- "every call that takes a sheet checks all nine"
    Cause s number place
    -- "11: work shorter than required (planning and replay)"
    ⊎ ((number ≡ 11) × (place ≡ 0) × (work < required s))
