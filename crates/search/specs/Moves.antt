-- Own vocabulary: a transition's move in the search: the guide as it stands, whether it lets the move pass, what that leaves of it, and what
-- the move puts into the trace. Assumes nothing.
use Rattle.std.specs.Prelude.{ℕ, zero, suc, ◌+◌, Bool, true, false, cond, List, [], ◌∷◌, eqb, drop, set, Some, None}
use Rattle.std.specs.Prelude as rust
use Rattle.std.proofs.Math.Option.{Option, none, some}
use Rattle.runs.specs.Guide.{Guide, unguided, along, in_window}
use Rattle.explored.specs.declared.Subject.{Subject}
use Rattle.search.specs.declared.Visit.{Visit}
use Rattle.search.specs.declared.Window.{Window}
use Rattle.search.specs.declared.Outcome.{Outcome}
use Rattle.search.specs.Outcome.{is_found}

-- these moves still to be made, and then what the window has; without a window nothing is asked
abbrev pub guide_as : (moves : List ℕ) → rust.Option Window → Guide
guide_as moves None = unguided
guide_as moves (Some w) = along moves w.low w.high

-- what is left of the guide with the given moves: so many of them are used, or nothing is asked any more
abbrev pub guide_at : (moves : List ℕ) → Window → rust.Option ℕ → Guide
guide_at moves w None = unguided
guide_at moves w (Some used) = along (drop used moves) w.low w.high

-- the same as a number, and back
abbrev pub label_of : rust.Option ℕ → ℕ
label_of None = 0
label_of (Some used) = used + 1

abbrev pub guide_for : (moves : List ℕ) → Window → (label : ℕ) → Guide
guide_for moves w zero = unguided
guide_for moves w (suc used) = along (drop used moves) w.low w.high

-- the configuration of a visit, as the index is asked of it
abbrev pub subject_of : Visit → Subject
subject_of q = record { depth = q.depth; state = q.state; label = label_of q.given }

-- what `runs` asks of a move under a guide, as a test
abbrev pub passes : Guide → Option ℕ → Bool
passes g none = true
passes unguided (some a) = true
passes (along [] low high) (some a) = in_window low high (suc a)
passes (along (b ∷ g) low high) (some a) = eqb b a

-- the guide after it
abbrev pub left_over : Guide → Option ℕ → Guide
left_over g none = g
left_over unguided (some a) = unguided
left_over (along [] low high) (some a) = unguided
left_over (along (b ∷ g) low high) (some a) = along g low high

-- how many entries it puts into a history
abbrev pub entries : Option ℕ → ℕ
entries none = 0
entries (some a) = 1

-- the trace with the move at place n, where a plan was found behind it
abbrev pub noted : Option ℕ → (n : ℕ) → Outcome → List ℕ → List ℕ
noted none n o trace = trace
noted (some a) n o trace = cond (is_found o) (set trace n a) trace
