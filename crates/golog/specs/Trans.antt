-- To be believed: the paper's Final and Trans, axiom by axiom (000, sections 4.1 and 5), with the move that a transition makes: the
-- action's entry in a history, none for a test. Assumes nothing.
use Rattle.std.specs.Prelude.{ℕ, ◌<◌, ◌⊎◌, ◌≡◌, T}
use Rattle.std.proofs.Math.Option.{Option, none, some}
use Rattle.golog.specs.declared.State.{State}
use Rattle.golog.specs.World.{World, holds, possible, perform}
use Rattle.golog.specs.Prog.{Prog, nil, act, test, sequence, choice, together, over, star, iteration, if_then_else, while, interrupt, pick}

unfoldable pub Final : World → Prog → State → Type 0
-- section 4.1, axioms F: 1 empty program
Final W nil s = Unit {0}
-- 2 primitive action
Final W (act a) s = ⊥
-- 3 wait/test action
Final W (test q) s = ⊥
-- 4 sequence
Final W (sequence a b) s = Final W a s × Final W b s
-- 5 nondeterministic branch
Final W (choice a b) s = Final W a s ⊎ Final W b s
-- 6 nondeterministic choice of argument, where the arguments are the values below n
Final W (pick n f) s = (v : ℕ) × (v < n) × Final W (f v) s
-- 7 iteration
Final W (star a) s = Unit {0}
-- section 5: synchronized conditional
Final W (if_then_else q a b) s = (T (holds W q s) × Final W a s) ⊎ ((¬ T (holds W q s)) × Final W b s)
-- synchronized loop
Final W (while q a) s = (¬ T (holds W q s)) ⊎ Final W a s
-- concurrent execution
Final W (together a b) s = Final W a s × Final W b s
-- concurrency with different priorities
Final W (over a b) s = Final W a s × Final W b s
-- concurrent iteration
Final W (iteration a) s = Unit {0}
-- interrupt: while Interrupts_running do if φ then δ else False?, where no axiom makes False? final
Final W (interrupt q a) s = (¬ T s.running) ⊎ (T (holds W q s) × Final W a s)

-- from program and state by a move to program and state
unfoldable pub Trans : World → Prog → State → Option ℕ → Prog → State → Type 0
-- section 4.1, axioms T: 1 empty program
Trans W nil s m p t = ⊥
-- 2 primitive actions
Trans W (act a) s m p t = T (possible W a s) × (m ≡ some a) × (p ≡ nil) × (t ≡ perform W a s)
-- 3 wait/test actions
Trans W (test q) s m p t = T (holds W q s) × (m ≡ none) × (p ≡ nil) × (t ≡ s)
-- 4 sequence
Trans W (sequence a b) s m p t = ((g : Prog) × (p ≡ sequence g b) × Trans W a s m g t) ⊎ (Final W a s × Trans W b s m p t)
-- 5 nondeterministic branch
Trans W (choice a b) s m p t = Trans W a s m p t ⊎ Trans W b s m p t
-- 6 nondeterministic choice of argument: choosing is no transition of its own
Trans W (pick n f) s m p t = (v : ℕ) × (v < n) × Trans W (f v) s m p t
-- 7 iteration
Trans W (star a) s m p t = (g : Prog) × (p ≡ sequence g (star a)) × Trans W a s m g t
-- section 5: synchronized conditional
Trans W (if_then_else q a b) s m p t = (T (holds W q s) × Trans W a s m p t) ⊎ ((¬ T (holds W q s)) × Trans W b s m p t)
-- synchronized loop
Trans W (while q a) s m p t = (g : Prog) × (p ≡ sequence g (while q a)) × (T (holds W q s) × Trans W a s m g t)
-- concurrent execution
Trans W (together a b) s m p t = ((g : Prog) × (p ≡ together g b) × Trans W a s m g t) ⊎ ((g : Prog) × (p ≡ together a g) × Trans W b s m g t)
-- concurrency with different priorities: the second only where the first has no transition
Trans W (over a b) s m p t = ((g : Prog) × (p ≡ over g b) × Trans W a s m g t)
    ⊎ ((g : Prog) × (p ≡ over a g) × (((n : Option ℕ) (z : Prog) (u : State) → ¬ Trans W a s n z u) × Trans W b s m g t))
-- concurrent iteration
Trans W (iteration a) s m p t = (g : Prog) × (p ≡ together g (iteration a)) × Trans W a s m g t
-- interrupt: while Interrupts_running do if φ then δ else False?, where no axiom lets False? go
Trans W (interrupt q a) s m p t = (g : Prog) × (p ≡ sequence g (interrupt q a)) × ((T s.running × T (holds W q s)) × Trans W a s m g t)
