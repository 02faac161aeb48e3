-- Own vocabulary: what a search answers and leaves in the trace, for a verdict. Assumes nothing.
use Rattle.std.specs.Prelude.{ℕ, ◌+◌, Bool, true, false, List, [], ◌∷◌, ◌≡◌, length, set}
use Rattle.runs.specs.Search.{Verdict, plan, nothing, more}
use Rattle.search.specs.declared.Outcome.{Outcome}
use Rattle.search.specs.declared.Outcome.TheVariants.{Found, Nothing, More}

-- the history h laid into a trace from place n on
abbrev pub lay : (trace : List ℕ) → (n : ℕ) → List ℕ → List ℕ
lay trace n [] = trace
lay trace n (e ∷ h) = set (lay trace (n + 1) h) n e

-- the answer o, and the trace that became trace', say the verdict, n moves and d transitions having been made before
abbrev pub ReportsVerdict : (n d : ℕ) → (trace trace' : List ℕ) → Outcome → Verdict → Type 0
ReportsVerdict n d trace trace' o (plan h t) = (o ≡ Found (n + length h) (d + t)) × (trace' ≡ lay trace n h)
ReportsVerdict n d trace trace' o nothing = (o ≡ Nothing) × (trace' ≡ trace)
ReportsVerdict n d trace trace' o more = (o ≡ More) × (trace' ≡ trace)

pub record Reported (n d : ℕ) (trace trace' : List ℕ) (o : Outcome) (v : Verdict) : Type 0 where
  pub says : ReportsVerdict n d trace trace' o v

abbrev pub is_found : Outcome → Bool
is_found (Found n t) = true
is_found Nothing = false
is_found More = false

abbrev pub is_more : Outcome → Bool
is_more (Found n t) = false
is_more Nothing = false
is_more More = true

-- the answer where no plan was found, by whether the bound ran out in some run
abbrev pub told : Bool → Outcome
told true = More
told false = Nothing
