-- Words below those that were written are kept. Assumes nothing.
use mathlib.Core.Path.{refl, ◌∙◌}
use mathlib.Core.List.{List}
use Prim.Native.Nat.{ℕ, ◌≤◌}
use native.Mathlib.Omega.{arith}
use Rattle.words.specs.Words.{Kept, Put}

pub kept_refl : (n : ℕ) (w : List ℕ) → Kept n w w
kept_refl n w = record { len = refl; below = λ k h. refl }

pub kept_less : (n m : ℕ) (w w' : List ℕ) → Kept m w w' → n ≤ m → Kept n w w'
kept_less n m w w' K h = record { len = K.len; below = λ k b. K.below k (omega arith) }

pub kept_trans : (n m : ℕ) (w w' w'' : List ℕ) → Kept n w w' → Kept m w' w'' → n ≤ m → Kept n w w''
kept_trans n m w w' w'' K L h = record { len = L.len ∙ K.len; below = λ k b. L.below k (omega arith) ∙ K.below k b }

pub kept_put : (i n tag p m : ℕ) (w w' : List ℕ) → Put i tag p m w w' → n ≤ i → Kept n w w'
kept_put i n tag p m w w' P h = record { len = P.len; below = λ k b. P.below k (omega arith) }
