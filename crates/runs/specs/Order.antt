-- To be believed: the order of histories, lexicographic (document 02, F-1: "the history that is smaller at the first differing entry, a
-- proper beginning counting as smaller"). That it is an order, and total, and that it is this sentence's, is proved in
-- proofs/Ordered.antt. Assumes nothing.
use Rattle.std.specs.Prelude.{ℕ, ◌<◌, List, [], ◌∷◌, ◌++◌, ◌⊎◌, ◌≡◌}

-- the first is smaller than the second
abbrev pub Smaller : List ℕ → List ℕ → Type 0
Smaller h [] = ⊥
Smaller [] (b ∷ g) = Unit {0}
Smaller (a ∷ h) (b ∷ g) = (a < b) ⊎ ((a ≡ b) × Smaller h g)

-- the sentence in words: after a common beginning p the second goes on with b, where the first ends, or goes on with a smaller entry
abbrev pub SmallerAtDifference : List ℕ → List ℕ → Type 0
SmallerAtDifference h g =
    (p : List ℕ) × (b : ℕ) × (s : List ℕ) × (g ≡ p ++ b ∷ s) × ((h ≡ p) ⊎ ((a : ℕ) × (r : List ℕ) × (h ≡ p ++ a ∷ r) × (a < b)))

-- smaller, or the same
abbrev pub AtMost : List ℕ → List ℕ → Type 0
AtMost h g = Smaller h g ⊎ (h ≡ g)
