-- What is left of a guide: nothing is asked any more; or the next of the given moves comes first of those left; or none is left, and the
-- window says what may follow. Assumes nothing.
use Rattle.std.specs.Prelude.{Some}
use Prim.Native.Nat.{ℕ, ◌+◌, ◌≤◌, ◌<◌}
use native.Mathlib.Numerals.{add-one}
use mathlib.Core.List.{List, [], ◌∷◌}
use mathlib.Core.Path.{◌≡◌, sym, ◌∙◌, ap}
use lib.ListN.{length, drop, get_or, drop_of_length-le}
use lib.Seq.{drop-cons}
use Rattle.runs.specs.Guide.{along}
use Rattle.search.specs.Moves.{guide_at}
use Rattle.search.specs.declared.Window.{Window}

module _ (moves : List ℕ) (w : Window) (used : ℕ) where
  pub next_asked : used < length moves → guide_at moves w (Some used) ≡ along (get_or moves used 0 ∷ drop (used + 1) moves) w.low w.high
  next_asked l =
      ap (λ (m : List ℕ). along m w.low w.high)
      (drop-cons moves used 0 l ∙ ap (λ (i : ℕ). get_or moves used 0 ∷ drop i moves) (sym (add-one used)))

  pub window_asked : length moves ≤ used → guide_at moves w (Some used) ≡ along [] w.low w.high
  window_asked l = ap (λ (m : List ℕ). along m w.low w.high) (drop_of_length-le moves {i = used} l)
