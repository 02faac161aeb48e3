-- Own vocabulary: for a state and each program record, read in an environment (document 02, F-6), whether it is final and whether it is
-- enabled, which is to have a transition. Kind by kind they are stated here from those of its parts; that leaves are so is proved in
-- proofs/Read.antt. Assumes nothing.
use Rattle.std.specs.Prelude.{ℕ, Bool, false, not, cond, ◌&&◌, ◌||◌, [], ◌∷◌, get_or}
use Rattle.records.specs.declared.Program.{Program}
use Rattle.records.specs.Placeholders.{put, reading}
use Rattle.records.specs.Some.{some_from}
use Rattle.kinds.specs.Programs.{picks, final_of}
use Rattle.golog.specs.declared.State.{State}
use Rattle.golog.specs.World.{World, holds, possible}
use Rattle.golog.specs.Transitions.{is_none}
use Rattle.golog.specs.Written.{entry_in, written_records}
use Rattle.remaining.specs.Leaves.{leaf_of}

-- what is said in each environment: of records, that they are final and enabled; of formulas, that they hold; of actions, that they are
-- possible
pub record Valuation : Type 0 where
  pub final : (i e : ℕ) → Bool
  pub enabled : (i e : ℕ) → Bool
  pub holds : (q e : ℕ) → Bool
  pub possible : (a e : ℕ) → Bool

-- what is so of the table p in the state s
abbrev pub valuation_of : World → State → (ℕ → Program) → Valuation
valuation_of W s p = record {
  final = λ (i e : ℕ). (leaf_of W s (written_records p) (reading i e)).final;
  enabled = λ (i e : ℕ). not (is_none (leaf_of W s (written_records p) (reading i e)).transitions);
  holds = λ (q e : ℕ). holds W (reading q e) s;
  possible = λ (a e : ℕ). possible W (entry_in a e) s;
}

-- record r is final in e, where n values are listed for it if it chooses one
unfoldable pub final_in : Valuation → (running : Bool) (n : ℕ) → Program → (e : ℕ) → Bool
final_in says running n r e =
    cond (picks r.kind) (some_from (λ (v : ℕ). says.final r.b (put e r.c v)) 0 n)
    (final_of r.kind (says.final r.a e) (says.final r.b e) (says.holds r.c e) running)

-- a record that chooses no value is enabled, a place for each kind: can, action a is possible; passes, formula a holds; fa, ga, gb, its part a
-- is final, is enabled, its part b is; h, c holds. In 9 part b goes where a has no transition, so one of the two is enough
unfoldable pub enabled_of : (kind : ℕ) (can passes fa h running ga gb : Bool) → Bool
enabled_of kind can passes fa h running ga gb =
    get_or
    (
    false ∷ can ∷ passes ∷ (ga || (fa && gb)) ∷ (ga || gb) ∷ ga ∷ ((h && ga) || (not h && gb)) ∷ (h && ga) ∷ (ga || gb)
    ∷ (ga || gb) ∷ ga ∷ (running && h && ga) ∷ []
    )
    kind false

-- record r is enabled in e
unfoldable pub enabled_in : Valuation → (running : Bool) (n : ℕ) → Program → (e : ℕ) → Bool
enabled_in says running n r e =
    cond (picks r.kind) (some_from (λ (v : ℕ). says.enabled r.b (put e r.c v)) 0 n)
    (enabled_of r.kind (says.possible r.a e) (says.holds r.a e) (says.final r.a e) (says.holds r.c e) running (says.enabled r.a e) (says.enabled r.b e))
