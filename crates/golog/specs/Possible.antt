-- To be believed: when an action is possible, as a statement in the words of document 02, F-2 and F-6: the second reading beside the computed one
-- (`possible`, World.antt). The theorem of proofs/Possible.antt says that the two agree. Assumes nothing.
use Rattle.std.specs.Prelude.{ℕ, ◌<◌, Bool, ◌⊎◌, ◌≡◌, T}
use Rattle.records.specs.declared.Effect.{Effect}
use Rattle.records.specs.Some.{InRange}
use Rattle.golog.specs.declared.State.{State}
use Rattle.golog.specs.World.{World, special, holds, says_in}

-- two holding effects give one fluent different values
abbrev pub Contradict : (says : ℕ → Bool) → Effect → Effect → Type 0
Contradict says d e = (T (says d.condition) × T (says e.condition)) × ((d.fluent ≡ e.fluent) × (¬ (d.value ≡ e.value)))

-- two of the k effects from number i on contradict each other
abbrev pub Conflict : (says : ℕ → Bool) (effect : ℕ → Effect) (i k : ℕ) → Type 0
Conflict says effect i k = (a : ℕ) × InRange i k a × ((b : ℕ) × InRange i k b × Contradict says (effect a) (effect b))

-- one of them holds and gives its fluent a value outside the domain
abbrev pub Outside : (says : ℕ → Bool) (size : ℕ → ℕ) (effect : ℕ → Effect) (i k : ℕ) → Type 0
Outside says size effect i k = (a : ℕ) × InRange i k a × (T (says (effect a).condition) × (¬ ((effect a).value < size (effect a).fluent)))

-- start, stop, or an action whose precondition holds, whose effects do not contradict each other and give no value outside a domain
abbrev pub Possible : World → ℕ → State → Type 0
Possible W a s =
    T (special a)
    ⊎ (T (holds W (W.action a).precondition s)
    × ((¬ Conflict (says_in W s) W.effect (W.action a).first (W.action a).count)
    × (¬ Outside (says_in W s) W.size W.effect (W.action a).first (W.action a).count)))
