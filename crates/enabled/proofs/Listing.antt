-- The table of spans has how many values each choice lists, where records name lower ones and a choice is of placeholder 0 or 1. Assumes
-- nothing.
use mathlib.Core.Path.{◌≡◌, ◌∙◌, ap}
use mathlib.Core.Bool.{Bool, false, cond, ◌&&◌}
use mathlib.Core.List.{List}
use Prim.Native.Nat.{ℕ, zero, suc, ◌+◌, ◌-◌, ◌≤◌, ◌<◌}
use native.Mathlib.Omega.{arith}
use lib.Dec.{T, eqb}
use lib.ListN.{length, get_or, set, length-append, length-replicate}
use Rattle.records.specs.declared.Program.{Program}
use Rattle.records.specs.Table.{up_to}
use Rattle.records.proofs.Fills.{Filled, at, more, default_at, length_up, up_at, entry_is}
use Rattle.records.proofs.Truth.{is_true}
use Rattle.kinds.specs.Programs.{picks}
use Rattle.kinds.proofs.ProgramFields.{link_b}
use Rattle.golog.specs.Written.{sees_of, sees}
use Rattle.remaining.proofs.Written.{Linked, picks_b}
use Rattle.enabled.specs.Spans.{SpansKnown, sees_at, seeing_of, span_at, spans_of}

-- one mark more
pub seeing_more :
    (p : ℕ → Program) (c : ℕ) {marks : List Bool} {i : ℕ} → Filled false (sees_at p c) (λ (b : Bool). b) 260 marks i → i < 260
    → {r : Program} → r ≡ p i → {v : Bool} → v ≡ sees_of r c marks → Filled false (sees_at p c) (λ (b : Bool). b) 260 (set marks i v) (i + 1)
seeing_more p c {marks} {i} F l k e =
    more false (sees_at p c) (λ (b : Bool). b) 260 F l
    (e ∙ ap (λ (r : Program). sees_of r c marks) k ∙ same (p i) (up_to (sees_at p c) i) (at false (sees_at p c) (λ (b : Bool). b) 260 F))
  where
    -- a record reads the lower ones through their marks alone
    same : (r : Program) (lower : List Bool) → ((a : ℕ) → get_or marks a false ≡ get_or lower a false) → sees_of r c marks ≡ sees_of r c lower
    same r lower h = rw (h r.a, h r.b)

module _ (p : ℕ → Program) (m : ℕ) where
  seeing_at : (c i : ℕ) → i < m → get_or (seeing_of p m c) i false ≡ sees p c i
  unfolding seeing_of sees
  seeing_at c i l = default_at false (up_to (sees_at p c) m) (260 - m) i ∙ up_at false (sees_at p c) m i l

  spans_at : (i : ℕ) → i < m → get_or (spans_of p m) i 0 ≡ span_at p m i (up_to (span_at p m) i)
  unfolding spans_of
  spans_at i l = default_at 0 (up_to (span_at p m) m) (260 - m) i ∙ up_at 0 (span_at p m) m i l ∙ entry_is 0 (span_at p m) i

  length_spans : m ≤ 260 → length (spans_of p m) ≡ 260
  unfolding spans_of
  length_spans few = simp (length-append, length_up, length-replicate) (omega arith)

  -- the table of the placeholder that a choice is of
  own_seeing : (c i : ℕ) → c < 2 → i < m → get_or (cond (eqb c 0) (seeing_of p m 0) (seeing_of p m 1)) i false ≡ sees p c i
  own_seeing zero i h l = seeing_at 0 i l
  own_seeing (suc zero) i h l = seeing_at 1 i l
  own_seeing (suc (suc c)) i h l = absurd (omega arith)

  pub spans_known : Linked p → ((i : ℕ) → T (picks (p i).kind) → (p i).c < 2) → m ≤ 260 → SpansKnown p m (spans_of p m)
  spans_known low placed few = record {
    len = length_spans few;
    each = λ i l t. spans_at i l
        ∙ ap (λ (b : Bool). cond (b && get_or (cond (eqb (p i).c 0) (seeing_of p m 0) (seeing_of p m 1)) (p i).b false) (p i).a 1) (is_true (picks (p i).kind) t)
        ∙ ap (λ (b : Bool). cond b (p i).a 1) (own_seeing (p i).c (p i).b (placed i t) (omega (arith, low i (p i).b (link_b (p i) (picks_b (p i).kind t)))));
  }
