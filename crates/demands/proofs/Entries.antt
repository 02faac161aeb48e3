-- "An unknown entry means no": the acts of an accepted sheet's records name its actions, start and stop stand only where some record has
-- kind 11, and no transition brings in others. So every entry of a run's history is known. Assumes nothing.
use mathlib.Core.Path.{◌≡◌, refl}
use mathlib.Core.Bool.{Bool, true, false}
use mathlib.Core.List.{List, Memᴰ}
use mathlib.Core.Logic.{inl, inr}
use Prim.Native.Nat.{ℕ, ◌-◌, ◌<◌}
use native.Mathlib.Omega.{arith}
use lib.Dec.{T}
use lib.ListN.{get_or}
use Rattle.records.specs.declared.Program.{Program}
use Rattle.kinds.specs.Programs.{field_a, acts}
use Rattle.kinds.proofs.ProgramFields.{action_below, link_a, link_b}
use Rattle.height.proofs.Paths.{Lower}
use Rattle.height.specs.Work.{Interrupted}
use Rattle.height.proofs.Levels.{interrupts_exactly}
use Rattle.sheet.specs.Layout.{layout_of}
use Rattle.sheet.specs.Check.{Accepts}
use Rattle.sheet.proofs.Accepted.{laid}
use Rattle.sheet.proofs.Lower.{fields_of, lower, plain_records}
use Rattle.remaining.proofs.Started.{PlainBelow}
use Rattle.golog.specs.World.{start, stop}
use Rattle.golog.specs.Prog.{Prog, nil, prog_at, program_of, started}
use Rattle.golog.specs.Transitions.{Configuration}
use Rattle.golog.proofs.Acts.{Acts, acts_kept}
use Rattle.golog.proofs.Construct.{construct_acts}
use Rattle.remaining.proofs.Entries.{entry_rule}
use Rattle.runs.specs.Runs.{Run}
use Rattle.runs.proofs.Histories.{history_has}
use Rattle.demands.specs.Decoded.{world_of, records_of, interrupts_in, first_of}
use Rattle.demands.specs.Planning.{Goes, replied, replay_of}
use Rattle.demands.specs.Entries.{KnownEntry}
use Rattle.demands.proofs.Demands.{history_refused}

module _ (K : ℕ → Type 0) where
  -- the actions that a record's program names are those of the acts among the records
  program_acts :
      (p : ℕ → Program) (n : ℕ)
      → Lower p n
      → PlainBelow p n
      → ((i : ℕ) → i < n → T (acts (p i).kind) → K (p i).a)
      → (i : ℕ)
      → i < n
      → Acts K (program_of p i)
  unfolding program_of
  program_acts p n low plain known =
      entry_rule nil (prog_at p) (λ (i : ℕ) (P : Prog). i < n → Acts K P)
      (λ i below h l.
      let part : (a : ℕ) → a < i → Acts K (get_or below a nil) = λ a m. h a m (omega arith) in
      construct_acts K (p i).kind (p i).a (p i).b (p i).c _ _ _ (known i l) (λ t. part (p i).a (low i (p i).a l (link_a (p i) t)))
      (λ t. part (p i).b (low i (p i).b l (link_b (p i) t))) (λ t. absurd (rw (plain i l) at t)))

  started_acts : (b : Bool) (root : Prog) → Acts K root → (b ≡ true → K start × K stop) → Acts K (started b root)
  started_acts true root r k = ((k refl).0, (r, (k refl).1))
  started_acts false root r k = r

module _ (s : List ℕ) (accepted : Accepts s) where
  -- what runs names actions of the sheet, start and stop
  first_acts : Acts (KnownEntry s) (first_of s).0
  first_acts =
      let n = (layout_of s).p in
      let there : interrupts_in s ≡ true → Interrupted (records_of s) n = (interrupts_exactly (records_of s) n).0 in
      let some_record = (laid s accepted).some_record in
      started_acts (KnownEntry s) (interrupts_in s) (program_of (records_of s) (n - 1))
      (program_acts (KnownEntry s) (records_of s) n (lower s accepted) (plain_records s accepted)
      (λ i l t. inl (action_below _ _ i (field_a (records_of s i).kind) (fields_of s accepted i l).a t)) (n - 1) (omega arith))
      (λ e. (inr (inl refl, there e), inr (inr refl, there e)))

  -- every entry of the history of a run, final or not, is known
  pub entries_known :
      (n : ℕ) (h : List ℕ) (d : Configuration) → Run (Goes (world_of s)) n (first_of s) h d → (e : ℕ) → Memᴰ e h → KnownEntry s e
  entries_known n h d =
      let W = world_of s in
      history_has (KnownEntry s) (Goes W) (λ (c : Configuration). Acts (KnownEntry s) c.0)
      (λ c m d k t. acts_kept (KnownEntry s) W c.0 c.1 m d.0 d.1 k t) n (first_of s) h d first_acts

  -- "an unknown entry means no"
  pub unknown_entry_no : (h : List ℕ) (e : ℕ) → Memᴰ e h → ¬ KnownEntry s e → replay_of s h ≡ replied false
  unknown_entry_no h e k unknown = (history_refused s accepted h).1 (λ (n, d, l, run, end). unknown (entries_known n h d run e k))
