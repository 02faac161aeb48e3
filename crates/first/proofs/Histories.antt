-- A history among its 64 places: what follows its first entries, and how it is laid and handed out entry by entry. Assumes nothing.
use Rattle.std.proofs.Common.{◌≡◌, ℕ, ◌≤◌, List, length, take, drop}
use Rattle.std.proofs.Common.{ap, ◌∙◌, arith, length-take-le, take_at}
use Rattle.search.specs.Outcome.{lay}
use Rattle.search.proofs.Reporting.{lay_front}
use Rattle.first.specs.Settling.{history_of, Within}
use Rattle.first.specs.declared.History.{History}

module _ (h : History) (W : Within h) where
  pub history_length : length (history_of h) ≡ h.n
  history_length = length-take-le h.n h.entries (omega (arith, W.places, W.few))

-- a history laid into places from the front
pub laid_history : (places h : List ℕ) → length h ≤ length places → take (length h) (lay places 0 h) ≡ h
laid_history places h l = ap (take (length h)) (lay_front h places l) ∙ take_at h (drop (length h) places) (length h) (omega arith)
