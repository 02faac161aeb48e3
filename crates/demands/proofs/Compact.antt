-- A sheet's program as it is held stands for what runs, and what its transitions leave stays small enough for document 01's figure.
-- Assumes nothing.
use mathlib.Core.Path.{◌≡◌, subst}
use mathlib.Core.List.{List}
use Prim.Native.Nat.{ℕ, ◌+◌, ◌*◌, ◌≤◌}
use native.Mathlib.Nat.{mul-le-mul}
use native.Mathlib.Omega.{arith}
use Rattle.records.specs.declared.Program.{Program}
use Rattle.height.specs.Height.{rise}
use Rattle.height.specs.Work.{levels, frame_words}
use Rattle.sheet.specs.Layout.{layout_of}
use Rattle.sheet.specs.Check.{Accepts}
use Rattle.sheet.proofs.Accepted.{laid}
use Rattle.sheet.proofs.Lower.{lower, plain_records}
use Rattle.golog.specs.Transitions.{Configuration}
use Rattle.remaining.specs.Rest.{unfolded, nodes, AllLower, Plain}
use Rattle.remaining.specs.Leaves.{Compact}
use Rattle.remaining.specs.Extended.{top}
use Rattle.remaining.proofs.Started.{table_lower, table_plain, top_started, top_rise}
use Rattle.remaining.proofs.Nodes.{Reaches, reached_nodes}
use Rattle.demands.specs.Decoded.{world_of, records_of, interrupts_in, initial_of, first_of, bound_of, levels_of}
use Rattle.demands.specs.Compact.{extended_records, compact_first}

-- the configuration that a held one stands for
abbrev pub full_of : (ℕ → Program) → Compact → Configuration
full_of p c = (unfolded p c.0, c.1)

module _ (s : List ℕ) (accepted : Accepts s) where
  pub all_lower : AllLower (extended_records s)
  all_lower = table_lower (interrupts_in s) (records_of s) (layout_of s).p (lower s accepted) (plain_records s accepted)

  pub all_plain : Plain (extended_records s)
  all_plain = table_plain (interrupts_in s) (records_of s) (layout_of s).p (lower s accepted) (plain_records s accepted)

  some_record : 1 ≤ (layout_of s).p
  some_record = (laid s accepted).some_record

  pub starts : full_of (extended_records s) (compact_first s) ≡ first_of s
  starts = λ i. (top_started (records_of s) (layout_of s).p (lower s accepted) some_record (plain_records s accepted) (interrupts_in s) i, initial_of s)

  -- document 01's h is the height of the record that runs
  pub top_levels : rise (extended_records s) (top (interrupts_in s) (layout_of s).p) ≡ levels_of s
  unfolding levels
  top_levels = top_rise (records_of s) (layout_of s).p (lower s accepted) some_record (interrupts_in s)

  -- after n transitions, at most D, a held program and a header of 64 words fit one frame: document 01's figure is enough
  pub frame_enough :
      (n : ℕ) (d : Compact)
      → n ≤ bound_of s
      → Reaches (world_of s) (extended_records s) n (compact_first s) d
      → 64 + 3 * nodes d.0 ≤ frame_words (levels_of s) (bound_of s)
  frame_enough n d l r =
      let h = levels_of s in
      let e = subst (λ (k : ℕ). nodes d.0 ≤ 1 + 2 * k * n) top_levels (reached_nodes (world_of s) (extended_records s) all_lower _ n (initial_of s) d r) in
      omega (arith, e, mul-le-mul {n₁ = 2 * h} {m₁ = n} {n₂ = 2 * h} {m₂ = bound_of s} (omega arith) l)
