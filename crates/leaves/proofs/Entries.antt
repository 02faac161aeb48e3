-- What stands in the tables at a record is what the record is. A record up to height 18, as all are that run, has at most 2 ^ 18
-- transitions, fewer than the cap, so its count is exact. Assumes nothing.
use mathlib.Core.Path.{◌≡◌, sym, ◌∙◌, ap}
use mathlib.Core.Bool.{Bool, true, cond}
use mathlib.Core.List.{List, ◌++◌, map}
use Prim.Native.Nat.{ℕ, ◌-◌, ◌^◌, ◌<◌, ◌≤◌, min}
use native.Mathlib.Nat.{pow-le-pow_right}
use native.Mathlib.Decide.{dec_lt}
use native.Mathlib.Omega.{arith}
use lib.Dec.{T}
use lib.ListN.{length, get_or, drop, replicate, length-append, length-map, length-replicate, get_or-eq_default, get_or-map}
use lib.Seq.{ext_get_or}
use Rattle.records.specs.declared.Program.{Program}
use Rattle.records.specs.Table.{up_to}
use Rattle.records.proofs.Fills.{default_at, length_up, up_at}
use Rattle.kinds.specs.Programs.{uses_a, first_by}
use Rattle.kinds.proofs.Reading.{uses_a_lem, uses_a_same}
use Rattle.kinds.proofs.Counting.{where_used}
use Rattle.height.specs.Height.{rise}
use Rattle.golog.specs.declared.State.{State}
use Rattle.golog.specs.World.{World, holds}
use Rattle.remaining.specs.Rest.{AllLower, Plain}
use Rattle.remaining.specs.Leaves.{Leaf, nil_leaf, leaf_at, leaf_of}
use Rattle.remaining.proofs.Counts.{leaf_few}
use Rattle.remaining.proofs.Entries.{lower_a, rise_a}
use Rattle.leaves.specs.Tallies.{cap, capped_count, finals_of, counts_of, SeesRecord}
use Rattle.leaves.specs.Endable.{AreFinal}

module _ (W : World) (s : State) (p : ℕ → Program) where
  pub finals_at : (m i : ℕ) → i < m → get_or (finals_of W s p m) i true ≡ (leaf_of W s p i).final
  unfolding finals_of leaf_of
  finals_at m i h =
      default_at true (map (λ (l : Leaf). l.final) (up_to (leaf_at W s p) m)) (260 - m) i
      ∙ get_or-map (λ (l : Leaf). l.final) (up_to (leaf_at W s p) m) i nil_leaf
      ∙ ap (λ (l : Leaf). l.final) (up_at nil_leaf (leaf_at W s p) m i h)

  pub counts_at : (m i : ℕ) → i < m → get_or (counts_of W s p m) i 0 ≡ min cap (length (leaf_of W s p i).transitions)
  unfolding counts_of leaf_of
  counts_at m i h =
      default_at 0 (map capped_count (up_to (leaf_at W s p) m)) (260 - m) i
      ∙ get_or-map capped_count (up_to (leaf_at W s p) m) i nil_leaf
      ∙ ap capped_count (up_at nil_leaf (leaf_at W s p) m i h)

  finals_after : (m i : ℕ) → m ≤ i → get_or (finals_of W s p m) i true ≡ true
  unfolding finals_of
  finals_after m i h =
      let made : List Bool = map (λ (l : Leaf). l.final) (up_to (leaf_at W s p) m) in
      let few : length made ≤ i = simp (length-map, length_up) h in
      default_at true made (260 - m) i ∙ get_or-eq_default made true few

  length_finals : (m : ℕ) → m ≤ 260 → length (finals_of W s p m) ≡ 260
  unfolding finals_of
  length_finals m h = simp (length-append, length-map, length_up, length-replicate) (omega arith)

  -- a table of 260 places that tells which of the first m records are final and has true after them
  pub finals_whole : (m : ℕ) → m ≤ 260 → (finals : List Bool) → length finals ≡ 260 → AreFinal W s p m finals → ((i : ℕ) → m ≤ i → get_or finals i true ≡ true)
      → finals ≡ finals_of W s p m
  finals_whole m h finals n F z = ext_get_or true finals _ (n ∙ sym (length_finals m h)) (λ i l. go i (dec_lt i m))
    where
      go : (i : ℕ) → Dec (i < m) → get_or finals i true ≡ get_or (finals_of W s p m) i true
      go i (yes k) = F i k ∙ sym (finals_at m i k)
      go i (no k) = z i (omega arith) ∙ sym (finals_after m i (omega arith))

  -- a table of counts that had 0 after the first m
  pub counts_whole : (m : ℕ) (old : List ℕ) → drop m old ≡ replicate (260 - m) 0 → map capped_count (up_to (leaf_at W s p) m) ++ drop m old ≡ counts_of W s p m
  unfolding counts_of
  counts_whole m old z = ap (λ (l : List ℕ). map capped_count (up_to (leaf_at W s p) m) ++ l) z

  pub few_steps : AllLower p → Plain p → (i : ℕ) → rise p i ≤ 18 → length (leaf_of W s p i).transitions ≤ 262144
  few_steps low plain i h = let u : 2 ^ rise p i ≤ 2 ^ 18 = pow-le-pow_right (omega arith) h in omega (arith, leaf_few W s p low plain i)

  pub counts_exact : AllLower p → Plain p → (m i : ℕ) → i < m → rise p i ≤ 18 → get_or (counts_of W s p m) i 0 ≡ length (leaf_of W s p i).transitions
  counts_exact low plain m i h k = omega (arith, counts_at m i h, few_steps low plain i k)

  -- the transitions of a record's part a, counted
  pub first_exact : AllLower p → Plain p → (m i : ℕ) → i < m → rise p i ≤ 18 → {truths : List Bool} {can : ℕ → Bool} {running : Bool} → SeesRecord W s truths can (p i)
      → s.running ≡ running
      → first_by (p i) truths running (counts_of W s p m) ≡ cond (uses_a (p i).kind (holds W (p i).c s) s.running) (length (leaf_of W s p (p i).a).transitions) 0
  unfolding first_by
  first_exact low plain m i h k S e =
      let used : Bool = uses_a (p i).kind (holds W (p i).c s) s.running in
      let exact : T used → get_or (counts_of W s p m) (p i).a 0 ≡ length (leaf_of W s p (p i).a).transitions =
      λ t. let u = uses_a_lem (p i).kind (holds W (p i).c s) s.running t in counts_exact low plain m (p i).a (omega (arith, lower_a p low i u)) (omega (arith, rise_a p low i u)) in
      rw (← e) (ap (λ (b : Bool). cond b (get_or (counts_of W s p m) (p i).a 0) 0) (uses_a_same (p i).kind s.running S.condition) ∙ where_used used _ _ exact)
