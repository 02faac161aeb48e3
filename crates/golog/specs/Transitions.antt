-- To be believed: what a configuration is. Below it Final and Trans computed: whether a configuration is final, and its transitions in
-- listed order, those of a before those of b, those for smaller values first. The theorems of proofs/Exact.antt say that they are the paper's. Assumes nothing.
use Rattle.std.specs.Prelude.{ℕ, zero, suc, Bool, true, false, not, ◌&&◌, ◌||◌, List, [], ◌∷◌, ◌++◌, map}
use Rattle.std.proofs.Math.Option.{Option, none, some}
use Rattle.records.specs.Some.{some_from}
use Rattle.runs.specs.Guide.{only}
use Rattle.golog.specs.declared.State.{State}
use Rattle.golog.specs.World.{World, holds, possible, perform}
use Rattle.golog.specs.Prog.{Prog, nil, act, test, sequence, choice, together, over, star, iteration, if_then_else, while, interrupt, pick}

-- document 01: "A configuration is a remaining program and the values"
abbrev pub Configuration : Type 0
Configuration = Prog × State

-- the move, none for a test, and what follows
abbrev pub Transition : Type 0
Transition = Option ℕ × Configuration

-- the same move and state, with f of the remaining program
abbrev pub on_prog : (Prog → Prog) → Transition → Transition
on_prog f x = (x.0, (f x.1.0, x.1.1))

-- a list has no member
abbrev pub is_none : {A : Type 0} → List A → Bool
is_none [] = true
is_none (x ∷ xs) = false

-- the lists of the k numbers from i on, one after the other
unfoldable pub lists_from : {A : Type 0} → (ℕ → List A) → (i k : ℕ) → List A
lists_from f i zero = []
lists_from f i (suc k) = f i ++ lists_from f (suc i) k

-- Final (000, sections 4.1 and 5)
unfoldable pub final : World → Prog → State → Bool
final W nil s = true
final W (act a) s = false
final W (test q) s = false
final W (sequence a b) s = final W a s && final W b s
final W (choice a b) s = final W a s || final W b s
final W (star a) s = true
final W (if_then_else q a b) s = (holds W q s && final W a s) || (not (holds W q s) && final W b s)
final W (while q a) s = not (holds W q s) || final W a s
final W (together a b) s = final W a s && final W b s
final W (over a b) s = final W a s && final W b s
final W (iteration a) s = true
final W (interrupt q a) s = not s.running || (holds W q s && final W a s)
final W (pick n f) s = some_from (λ (v : ℕ). final W (f v) s) 0 n

-- Trans (000, sections 4.1 and 5)
unfoldable pub transitions : World → Prog → State → List Transition
transitions W nil s = []
transitions W (act a) s = only (possible W a s) ((some a, (nil, perform W a s)) ∷ [])
transitions W (test q) s = only (holds W q s) ((none, (nil, s)) ∷ [])
transitions W (sequence a b) s = map (on_prog (λ (g : Prog). sequence g b)) (transitions W a s) ++ only (final W a s) (transitions W b s)
transitions W (choice a b) s = transitions W a s ++ transitions W b s
transitions W (star a) s = map (on_prog (λ (g : Prog). sequence g (star a))) (transitions W a s)
transitions W (if_then_else q a b) s = only (holds W q s) (transitions W a s) ++ only (not (holds W q s)) (transitions W b s)
transitions W (while q a) s = map (on_prog (λ (g : Prog). sequence g (while q a))) (only (holds W q s) (transitions W a s))
transitions W (together a b) s = map (on_prog (λ (g : Prog). together g b)) (transitions W a s) ++ map (on_prog (λ (g : Prog). together a g)) (transitions W b s)
transitions W (over a b) s = map (on_prog (λ (g : Prog). over g b)) (transitions W a s) ++ map (on_prog (λ (g : Prog). over a g)) (only (is_none (transitions W a s)) (transitions W b s))
transitions W (iteration a) s = map (on_prog (λ (g : Prog). together g (iteration a))) (transitions W a s)
transitions W (interrupt q a) s = map (on_prog (λ (g : Prog). sequence g (interrupt q a))) (only (s.running && holds W q s) (transitions W a s))
transitions W (pick n f) s = lists_from (λ (v : ℕ). transitions W (f v) s) 0 n
