-- The loop over the transitions ahead of a visit's cursor: what is known by now, beside the verdict on those still ahead, is the verdict on
-- all. The tables for the visit's depth stand while what a transition led to was searched, or are filled again. Assumes nothing.
use Rattle.std.specs.Prelude.{Ok, Some, None, ◌&&◌}
use Prim.Native.Nat.{ℕ, ◌+◌, ◌-◌}
use native.Mathlib.Omega.{arith}
use mathlib.Core.Bool.{Bool, true, false, true≢false}
use mathlib.Core.List.{List, [], ◌∷◌}
use mathlib.Core.Path.{◌≡◌, refl, sym, ◌∙◌, ap, subst}
use borrow.Author.Tests.{leb-false}
use lib.Dec.{leb}
use lib.ListN.{length}
use Rattle.golog.specs.Prog.{Prog}
use Rattle.golog.specs.Transitions.{Configuration, Transition, is_none}
use Rattle.runs.specs.Search.{Verdict}
use Rattle.runs.specs.Guide.{Guide}
use Rattle.runs.specs.Bounded.{join, flagged}
use Rattle.words.proofs.Written.{kept_refl, kept_trans}
use Rattle.engine.specs.Tables.{Prepared, Surveyed, Filled, SameTables}
use Rattle.engine.specs.Frames.{Frame, KeptFrames, frame_at}
use Rattle.engine.specs.Going.{transitions_of, Ahead, move_of, GoesOn}
use Rattle.engine.specs.declared.Cursor.{Cursor}
use Rattle.engine.specs.declared.Taken.{Taken}
use Rattle.engine.proofs.Frames.{next_at, frame_kept}
use Rattle.engine.proofs.Tables.{stands, filled_none, filled_then}
use Rattle.search.specs.Outcome.{Reported, is_found, is_more, told}
use Rattle.search.specs.Moves.{passes, noted}
use Rattle.search.specs.Searching.{verdict_from, branches_of, Ready, configured, guide_of, branches_at, SearchedAs, LookedAt, Going, Preserves}
use Rattle.search.specs.Searching.{Expanded, Came, Follows}
use Rattle.search.specs.declared.Task.{Task}
use Rattle.search.specs.declared.Visit.{Visit}
use Rattle.search.specs.declared.Outcome.{Outcome}
use Rattle.search.proofs.Rows.{tried_found, tried_more, tried_none, flag_reported, told_more}
use Rattle.search.proofs.Noting.{unfound_flag}
use Rattle.search.proofs.Trying.{First, ahead_same, first, some_made, back, child, forth}

-- a visit was looked at, and its transitions are tried from the first cursor
module _
    (trace : List ℕ) {s w moves : List ℕ} {t : Task} {q : Visit} {cut : Bool} {flags flags₁ : List Bool} {numbers numbers₁ : List ℕ} {k : Cursor}
    (A : LookedAt s w moves t q cut flags flags₁ numbers numbers₁ (Ok k)) where
  abbrev pub deeper : {p : Prog} → Ready s w moves (length trace) t q p → Going s w moves (length trace) t q k flags₁ numbers₁
  deeper {p} R =
      let u = A.says p R.visited in
      record { program = p; ready = R; some_left = u.some_left; surveyed = u.surveyed; ahead = transitions_of s (configured q p); listed = u.first }

  module _ {w' trace' : List ℕ} {flags' : List Bool} {numbers' : List ℕ} {o : Outcome} (E : Expanded s w moves trace trace' t q cut k flags₁ numbers₁ o)
      (P : Preserves s w w' q flags₁ flags' numbers₁ numbers') where
    pub went : Came s w moves trace trace' t q cut o
    went p R = subst (Reported q.n q.depth trace trace' o) (sym (A.says p R.visited).same) (E (deeper R))

    pub preserved : Preserves s w w' q flags flags' numbers numbers'
    preserved = record {
      kept = P.kept;
      prepared = P.prepared;
      filled = filled_then A.filled P.filled q.depth (q.depth + q.left) (omega arith) (omega arith) (omega arith) (omega arith);
    }

    -- what the index may be told of it
    pub searched_as : {p : Prog} → Ready s w moves (length trace) t q p → SearchedAs s w' moves t q cut o
    searched_as {p} R = record {
      program = p;
      visited = record { accepted = R.visited.accepted; frame = frame_kept R.visited.frame w' P.kept; used_up = R.visited.used_up };
      few_left = omega (arith, R.deep);
      tells = λ e. unfound_flag _ _ _ _ _ _ (went p R).says e;
    }

-- it was seen at once
pub seen :
    {s w : List ℕ} {q : Visit} {flags flags' : List Bool} {numbers numbers' : List ℕ}
    → Prepared s flags' numbers' → Filled q.depth q.depth flags flags' numbers numbers' → Preserves s w w q flags flags' numbers numbers'
seen {w = w} P F = record { kept = kept_refl _ w; prepared = P; filled = λ k l h. F k l (omega arith) }

-- from where a transition leads, and from all of a list
abbrev from_next : List ℕ → Task → Visit → Configuration × Guide → Verdict
from_next s t q d = verdict_from s (q.left - 1) d

abbrev rows : (s moves : List ℕ) → Task → Visit → List Transition → Verdict
rows s moves t q xs = branches_of s q.left (guide_of moves t q) xs

-- as the loop began
module _ (trace : List ℕ) (ran : Bool) {s w moves : List ℕ} {t : Task} {q : Visit} {start : Cursor} {flags : List Bool} {numbers : List ℕ}
    (g : Going s w moves (length trace) t q start flags numbers) where
  -- where it has come to
  pub record Loop (w' trace' : List ℕ) (flags' : List Bool) (numbers' : List ℕ) (cut : Bool) (k : Cursor) (stale : Bool) : Type 0 where
    pub trace_same : trace' ≡ trace
    pub preserves : Preserves s w w' q flags flags' numbers numbers'
    pub intact : stale ≡ false → Surveyed s q.state q.depth flags' numbers'
    pub ahead : List Transition
    pub listed : Ahead s (configured q g.program) k ahead
    pub same : join (flagged cut) (rows s moves t q ahead) ≡ join (flagged ran) (rows s moves t q g.ahead)

  pub begin : Loop w trace flags numbers ran start false
  begin = record {
    trace_same = refl;
    preserves = record { kept = kept_refl _ w; prepared = g.surveyed.prepared; filled = filled_none _ _ };
    intact = λ e. g.surveyed;
    ahead = g.ahead;
    listed = g.listed;
    same = refl;
  }

module _
    {trace : List ℕ} {ran : Bool} {s w moves : List ℕ} {t : Task} {q : Visit} {start : Cursor} {flags : List Bool} {numbers : List ℕ}
    {g : Going s w moves (length trace) t q start flags numbers}
    {w' trace' : List ℕ} {flags' : List Bool} {numbers' : List ℕ} {cut : Bool} {k : Cursor} {stale : Bool}
    (L : Loop trace ran g w' trace' flags' numbers' cut k stale) where
  abbrev pub standing : Frame s q.left w' q.depth g.program
  standing = frame_kept g.ready.visited.frame w' L.preserves.kept

  -- the visit goes on, with the tables of its state
  abbrev pub onward : {flags₁ : List Bool} {numbers₁ : List ℕ} → Surveyed s q.state q.depth flags₁ numbers₁ → Going s w' moves (length trace') t q k flags₁ numbers₁
  onward S =
      let r = g.ready in
      let e = ap length L.trace_same in
      record {
        program = g.program;
        ready =
            record {
              visited = record { accepted = r.visited.accepted; frame = standing; used_up = r.visited.used_up };
              traced = omega (arith, r.traced, e);
              few = r.few;
              deep = r.deep;
            };
        some_left = g.some_left;
        surveyed = S;
        ahead = L.ahead;
        listed = L.listed;
      }

  -- none is ahead any more
  pub all_tried : is_none L.ahead ≡ true → {o : Outcome} → o ≡ told cut → Expanded s w moves trace trace' t q ran start flags numbers o
  all_tried e {o} eo h = subst (λ (xs : List Transition). Reported q.n q.depth trace trace' o (branches_at s moves t q ran xs)) (ahead_same g h) (go L.ahead e L.same)
    where
      go :
          (xs : List Transition) → is_none xs ≡ true → join (flagged cut) (rows s moves t q xs) ≡ join (flagged ran) (rows s moves t q g.ahead)
          → Reported q.n q.depth trace trace' o (branches_at s moves t q ran g.ahead)
      go [] e same = flag_reported q.n q.depth cut (sym (tried_none (from_next s t q) (guide_of moves t q) cut) ∙ same) eo L.trace_same
      go (x ∷ xs) e same = absurd (true≢false (sym e))

  -- a transition was made: the tables are those of the visit, and frames up to its own stand
  pub record Turn (w₁ : List ℕ) (flags₁ : List Bool) (numbers₁ : List ℕ) (x : Taken) : Type 0 where
    pub surveyed : Surveyed s q.state q.depth flags₁ numbers₁
    pub filled : Filled q.depth q.depth flags' flags₁ numbers' numbers₁
    pub kept : KeptFrames s q.depth w' w₁
    pub first : First s q g.program L.ahead w₁ x

  pub turned :
      {w₁ : List ℕ} {flags₁ : List Bool} {numbers₁ : List ℕ} {x : Taken} {spent : Bool} → Surveyed s q.state q.depth flags₁ numbers₁
      → Filled q.depth q.depth flags' flags₁ numbers' numbers₁
      → GoesOn s q.state q.depth k w' w₁ (Some x)
      → ((s : List ℕ) (c : Configuration) (xs : List Transition) → Ahead s c k xs → spent ≡ is_none xs) → spent ≡ false → Turn w₁ flags₁ numbers₁ x
  turned S Z M z some = record { surveyed = S; filled = Z; kept = M.kept; first = first (onward S) M (sym (z _ _ _ L.listed) ∙ some) }

  pub not_out :
      {w₁ : List ℕ} {flags₁ : List Bool} {numbers₁ : List ℕ} {spent : Bool} → Surveyed s q.state q.depth flags₁ numbers₁ → GoesOn s q.state q.depth k w' w₁ None
      → ((s : List ℕ) (c : Configuration) (xs : List Transition) → Ahead s c k xs → spent ≡ is_none xs) → ¬ (spent ≡ false)
  not_out S M z some = some_made (onward S) M (sym (z _ _ _ L.listed) ∙ some)

  -- it was dealt with: a plan is that of all; else the loop goes on from the cursor after it
  pub record Dealt (x : Taken) (w'' trace'' : List ℕ) (flags'' : List Bool) (numbers'' : List ℕ) (o : Outcome) (stale'' : Bool) : Type 0 where
    pub preserves : Preserves s w w'' q flags flags'' numbers numbers''
    pub plan : is_found o ≡ true → Expanded s w moves trace trace'' t q ran start flags numbers o
    pub on : is_found o ≡ false → Loop trace ran g w'' trace'' flags'' numbers'' (is_more o) x.cursor stale''

module _
    {trace : List ℕ} {ran : Bool} {s w moves : List ℕ} {t : Task} {q : Visit} {start : Cursor} {flags : List Bool} {numbers : List ℕ}
    {g : Going s w moves (length trace) t q start flags numbers}
    {w' trace' : List ℕ} {flags' : List Bool} {numbers' : List ℕ} {cut : Bool} {k : Cursor} {stale : Bool}
    {L : Loop trace ran g w' trace' flags' numbers' cut k stale}
    {flags₁ : List Bool} {numbers₁ : List ℕ} {w₁ : List ℕ} {x : Taken} (T : Turn L w₁ flags₁ numbers₁ x) where
  abbrev pub going : Going s w' moves (length trace') t q k flags₁ numbers₁
  going = onward L T.surveyed

  dealt :
      {w'' trace'' : List ℕ} {flags'' : List Bool} {numbers'' : List ℕ} {o : Outcome} {stale'' : Bool}
      → Reported q.n q.depth trace' trace'' o (branches_at s moves t q cut (T.first.step ∷ []))
      → Preserves s w w'' q flags flags'' numbers numbers'' → (stale'' ≡ false → SameTables q.depth flags₁ flags'' numbers₁ numbers'')
      → Dealt L x w'' trace'' flags'' numbers'' o stale''
  dealt {w''} {trace''} {flags''} {numbers''} {o} {stale''} R P same = record { preserves = P; plan = plan; on = on }
    where
      F : First s q g.program L.ahead w₁ x
      F = T.first

      plan : is_found o ≡ true → Expanded s w moves trace trace'' t q ran start flags numbers o
      plan y h =
          subst (λ (xs : List Transition). Reported q.n q.depth trace trace'' o (branches_at s moves t q ran xs)) (ahead_same g h)
          (subst (λ (l : List ℕ). Reported q.n q.depth l trace'' o (branches_at s moves t q ran g.ahead)) L.trace_same
          (subst (Reported q.n q.depth trace' trace'' o) (ap (λ (xs : List Transition). join (flagged cut) (rows s moves t q xs)) (sym F.split) ∙ L.same)
          (tried_found (from_next s t q) (guide_of moves t q) cut F.step F.later q.n q.depth trace' trace'' o R y)))

      on : is_found o ≡ false → Loop trace ran g w'' trace'' flags'' numbers'' (is_more o) x.cursor stale''
      on y =
          let m = tried_more (from_next s t q) (guide_of moves t q) cut F.step F.later q.n q.depth trace' trace'' o R y in
          record {
            trace_same = m.0 ∙ L.trace_same;
            preserves = P;
            intact = λ e. stands T.surveyed P.prepared (same e);
            ahead = F.later;
            listed = F.made.ahead;
            same = sym m.1 ∙ ap (λ (xs : List Transition). join (flagged cut) (rows s moves t q xs)) (sym F.split) ∙ L.same;
          }

  made_kept : KeptFrames s q.depth w w₁
  made_kept = kept_trans _ _ _ _ _ L.preserves.kept T.kept (omega arith)

  made_filled : Filled q.depth (q.depth + q.left) flags flags₁ numbers numbers₁
  made_filled = filled_then L.preserves.filled T.filled q.depth (q.depth + q.left) (omega arith) (omega arith) (omega arith) (omega arith)

  -- the guide did not let it pass
  pub kept_back : passes (guide_of moves t q) (move_of x.entry) ≡ false → Loop trace ran g w₁ trace' flags₁ numbers₁ cut x.cursor false
  kept_back e =
      subst (λ (b : Bool). Loop trace ran g w₁ trace' flags₁ numbers₁ b x.cursor false) (told_more cut).1
      ((dealt (back going T.first cut trace' e) record { kept = made_kept; prepared = T.surveyed.prepared; filled = made_filled }
      (λ z. record { same_truths = refl; same_finals = refl; same_counts = refl })).on (told_more cut).0)

  -- the guide let it pass, and what came of where it leads was noted
  pub passed :
      {v : Visit} {w'' trace₂ trace'' : List ℕ} {flags'' : List Bool} {numbers'' : List ℕ} {o : Outcome} {tried : Bool}
      → passes (guide_of moves t q) (move_of x.entry) ≡ true → Follows moves q x v
      → Came s w₁ moves trace' trace₂ t v cut o → Preserves s w₁ w'' v flags₁ flags'' numbers₁ numbers''
      → (tried ≡ false → Filled v.depth v.depth flags₁ flags'' numbers₁ numbers'')
      → trace'' ≡ noted (move_of x.entry) q.n o trace₂ → Dealt L x w'' trace'' flags'' numbers'' o (tried && leb 8 q.left)
  passed {v} {w''} {trace₂} {trace''} {flags''} {numbers''} {o} {tried} e Y C P untried z =
      let l = g.some_left in
      let d = Y.depth_is in
      let k = Y.left_is in
      let R = forth going T.first cut Y trace' trace₂ o e (C _ (child going T.first cut Y)) in
      dealt (subst (λ (l : List ℕ). Reported q.n q.depth trace' l o (branches_at s moves t q cut (T.first.step ∷ []))) (sym z) R)
      record {
        kept = kept_trans _ _ _ _ _ made_kept P.kept (omega (arith, next_at s q.depth, ap (frame_at s) d));
        prepared = P.prepared;
        filled = filled_then made_filled P.filled q.depth (q.depth + q.left) (omega arith) (omega arith) (omega arith) (omega arith);
      } (same tried untried)
    where
      same : (b : Bool) → (b ≡ false → Filled v.depth v.depth flags₁ flags'' numbers₁ numbers'') → b && leb 8 q.left ≡ false → SameTables q.depth flags₁ flags'' numbers₁ numbers''
      same false F y = F refl q.depth (omega (arith, Y.depth_is)) (omega (arith, Y.depth_is))
      same true F y = let few = leb-false 8 q.left y in P.filled q.depth (omega (arith, Y.depth_is)) (omega (arith, Y.depth_is, Y.left_is, g.some_left))
