-- To be believed: a table whose entries are made upwards, each from its number and the entries before it. Assumes nothing.
use Rattle.std.specs.Prelude.{ℕ, zero, suc, List, [], ◌∷◌, ◌++◌, get_or}

-- the first n entries
unfoldable pub up_to : {A : Type 0} → (ℕ → List A → A) → ℕ → List A
up_to f zero = []
up_to {A} f (suc n) = let lower : List A = up_to f n in lower ++ (f n lower ∷ [])

-- entry i; z is what a record reads that names no lower one
unfoldable pub entry_of : {A : Type 0} → A → (ℕ → List A → A) → ℕ → A
entry_of z f i = get_or (up_to f (suc i)) i z
