-- The program of a record, kind by kind: it depends on the parts that the kind has, and names their actions and its own. Assumes nothing.
use mathlib.Core.Bool.{true}
use mathlib.Core.Path.{◌≡◌, refl, ap, ap₂}
use Prim.Native.Nat.{ℕ, ◌<◌}
use borrow.Author.Tests.{eqb-true}
use lib.Dec.{T}
use Rattle.records.specs.declared.Program.{Program}
use Rattle.kinds.specs.Programs.{field_a, field_b, has_a, has_b, picks, acts}
use Rattle.kinds.proofs.ProgramKinds.{by_kind, record_of}
use Rattle.golog.specs.Prog.{Prog, sequence, choice, together, over, star, iteration, if_then_else, while, interrupt, pick, construct}
use Rattle.golog.proofs.Acts.{Acts}

pub construct_same :
    (kind a b c : ℕ) (P P' Q Q' : Prog) (F F' : ℕ → Prog)
    → (T (has_a kind) → P ≡ P') → (T (has_b kind) → Q ≡ Q') → (T (picks kind) → F ≡ F')
    → construct (record_of kind a b c) P Q F ≡ construct (record_of kind a b c) P' Q' F'
unfolding construct field_a field_b
construct_same kind a b c P P' Q Q' F F' =
    by_kind
    (λ (k : ℕ). (T (has_a k) → P ≡ P') → (T (has_b k) → Q ≡ Q') → (T (picks k) → F ≡ F')
    → construct (record_of k a b c) P Q F ≡ construct (record_of k a b c) P' Q' F')
    (λ p q r. refl) (λ p q r. refl) (λ p q r. refl) (λ p q r. ap₂ sequence (p tt) (q tt)) (λ p q r. ap₂ choice (p tt) (q tt)) (λ p q r. ap star (p tt))
    (λ p q r. ap₂ (if_then_else c) (p tt) (q tt)) (λ p q r. ap (while c) (p tt)) (λ p q r. ap₂ together (p tt) (q tt)) (λ p q r. ap₂ over (p tt) (q tt))
    (λ p q r. ap iteration (p tt)) (λ p q r. ap (interrupt c) (p tt)) (λ p q r. ap (pick a) (r tt)) (λ k p q r. refl) kind

-- the kind that chooses a value
pub construct_pick : (r : Program) (P Q : Prog) (F : ℕ → Prog) → picks r.kind ≡ true → construct r P Q F ≡ pick r.a F
unfolding construct
construct_pick r P Q F e = rw (eqb-true r.kind 12 e) refl

pub construct_acts :
    (K : ℕ → Type 0) (kind a b c : ℕ) (P Q : Prog) (F : ℕ → Prog)
    → (T (acts kind) → K a) → (T (has_a kind) → Acts K P) → (T (has_b kind) → Acts K Q) → (T (picks kind) → (v : ℕ) → v < a → Acts K (F v))
    → Acts K (construct (record_of kind a b c) P Q F)
unfolding construct field_a field_b
construct_acts K kind a b c P Q F =
    by_kind
    (λ (k : ℕ). (T (acts k) → K a) → (T (has_a k) → Acts K P) → (T (has_b k) → Acts K Q) → (T (picks k) → (v : ℕ) → v < a → Acts K (F v))
    → Acts K (construct (record_of k a b c) P Q F))
    (λ k p q r. tt) (λ k p q r. k tt) (λ k p q r. tt) (λ k p q r. (p tt, q tt)) (λ k p q r. (p tt, q tt)) (λ k p q r. p tt) (λ k p q r. (p tt, q tt))
    (λ k p q r. p tt) (λ k p q r. (p tt, q tt)) (λ k p q r. (p tt, q tt)) (λ k p q r. p tt) (λ k p q r. p tt) (λ k p q r. r tt) (λ j k p q r. tt) kind
