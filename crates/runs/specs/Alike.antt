-- Own vocabulary: configurations that are alike, for any transition system (document 02, F-5): final alike, with the same moves in the same
-- order, to configurations that are alike again. That alike configurations get the same verdict, first plan and replies is proved in
-- proofs/Alikes.antt. Assumes nothing.
use Rattle.std.specs.Prelude.{ℕ, Bool, List, [], ◌∷◌, ◌≡◌}
use Rattle.std.proofs.Math.Option.{Option}

module _ {C : Type 0} (R : C → C → Type 0) where
  -- two lists of transitions: as many, with the same moves in the same order, to configurations that R relates
  abbrev pub SameMoves : List (Option ℕ × C) → List (Option ℕ × C) → Type 0
  SameMoves [] [] = Unit {0}
  SameMoves [] (y ∷ ys) = ⊥
  SameMoves (x ∷ xs) [] = ⊥
  SameMoves (x ∷ xs) (y ∷ ys) = (x.0 ≡ y.0) × R x.1 y.1 × SameMoves xs ys

  -- what R relates is final alike, and its transitions lead alike to what R relates
  abbrev pub Alike : (C → List (Option ℕ × C)) → (C → Bool) → Type 0
  Alike transitions final = (c d : C) → R c d → (final c ≡ final d) × SameMoves (transitions c) (transitions d)
