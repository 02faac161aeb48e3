-- What the index says of a visit is the verdict on it, a label being what is left of the guide; and what came of a visit that was searched on
-- from without a plan may be claimed of it. A search in a round of its own knows what lasts from the rounds before. Assumes nothing.
use Rattle.std.specs.Prelude.{Option, Some, None, Err}
use Prim.Native.Nat.{ℕ, ◌≤◌}
use native.Mathlib.Numerals.{add-one}
use mathlib.Core.Bool.{Bool, true≢false, false}
use mathlib.Core.List.{List}
use mathlib.Core.Path.{◌≡◌, refl, sym, ◌∙◌, ap, subst}
use lib.ListN.{length}
use Rattle.golog.specs.Prog.{Prog}
use Rattle.runs.specs.Search.{Verdict, plan, nothing, more}
use Rattle.runs.specs.Guide.{Guide}
use Rattle.runs.specs.Bounded.{join, flagged}
use Rattle.runs.specs.Claims.{claim_flag}
use Rattle.runs.proofs.Claims.{may_claim}
use Rattle.demands.specs.Decoded.{world_of}
use Rattle.demands.specs.Planning.{transitions_in, is_final_in}
use Rattle.engine.specs.Tables.{Prepared}
use Rattle.engine.specs.Frames.{Frame}
use Rattle.engine.proofs.Tables.{filled_none}
use Rattle.index.specs.Content.{Opened}
use Rattle.explored.specs.declared.Subject.{Subject}
use Rattle.explored.specs.Known.{verdict_in, ClaimOf, Lasting, Explored}
use Rattle.explored.proofs.Recalling.{opened, lasting}
use Rattle.search.specs.Outcome.{ReportsVerdict, is_found, is_more, told}
use Rattle.search.specs.Moves.{guide_at, label_of, guide_for, subject_of}
use Rattle.search.specs.Searching.{configured, guide_of, verdict_at, Told, SearchedAs, Visited, LookedAt}
use Rattle.search.specs.declared.Window.{Window}
use Rattle.search.specs.declared.Task.{Task}
use Rattle.search.specs.declared.Visit.{Visit}
use Rattle.search.specs.declared.Outcome.{Outcome}
use Rattle.search.proofs.Rows.{flag_reported}

-- a label and what it stands for
guide_labelled : (moves : List ℕ) (w : Window) (given : Option ℕ) → guide_for moves w (label_of given) ≡ guide_at moves w given
guide_labelled moves w None = refl
guide_labelled moves w (Some used) = ap (guide_for moves w) (add-one used)

-- where no plan was found, the verdict is a flag
pub unfound_flag : (n d : ℕ) (trace trace' : List ℕ) (o : Outcome) (v : Verdict) → ReportsVerdict n d trace trace' o v → is_found o ≡ false → v ≡ flagged (is_more o)
unfound_flag n d trace trace' o (plan h t) (e, l) z = absurd (true≢false (sym (ap is_found e) ∙ z))
unfound_flag n d trace trace' o nothing (e, l) z = ap flagged (sym (ap is_more e))
unfound_flag n d trace trace' o more (e, l) z = ap flagged (sym (ap is_more e))

-- the configuration of a visit, as the index is asked of it
module _ {s w moves : List ℕ} {t : Task} {q : Visit} {c : Subject} (is : c ≡ subject_of q) where
  pub framed : {p : Prog} → Visited s w moves t q p → Frame s q.left w c.depth p
  framed {p} Y = subst (λ (x : Subject). Frame s q.left w x.depth p) (sym is) Y.frame

  -- passed over, by what the index says
  pub passed_over :
      (cut b : Bool) {flags : List Bool} {numbers : List ℕ} → Prepared s flags numbers
      → ((p : Prog) → Visited s w moves t q p → join (flagged cut) (verdict_in s q.left ((p, c.state), guide_for moves t.window c.label)) ≡ flagged b)
      → LookedAt s w moves t q cut flags flags numbers numbers (Err (told b))
  passed_over cut b P K = record { prepared = P; filled = filled_none _ _; says = λ p Y h. flag_reported q.n q.depth b (sym (at p Y)) refl refl }
    where
      at : (p : Prog) → Visited s w moves t q p → verdict_at s moves t q cut p ≡ flagged b
      at p Y =
          ap (λ (g : Guide). join (flagged cut) (verdict_in s q.left (configured q p, g))) (sym (guide_labelled moves t.window q.given))
          ∙ ap (λ (x : Subject). join (flagged cut) (verdict_in s q.left ((p, x.state), guide_for moves t.window x.label))) (sym is)
          ∙ K p Y

  -- what may be claimed
  pub explored_as :
      {cut : Bool} {o : Outcome} {flag : ℕ} → SearchedAs s w moves t q cut o → is_found o ≡ false → flag ≡ claim_flag cut (is_more o)
      → Explored s w (guide_for moves t.window) c q.left flag
  explored_as {cut} {o} {flag} X e f = record { program = X.program; room = q.left; frame = framed X.visited; claim = claim }
    where
      here : ClaimOf s q.left (claim_flag cut (is_more o)) (configured q X.program, guide_of moves t q)
      here = may_claim (transitions_in (world_of s)) (is_final_in (world_of s)) cut (is_more o) q.left (configured q X.program, guide_of moves t q) (X.tells e)

      claim : ClaimOf s q.left flag ((X.program, c.state), guide_for moves t.window c.label)
      claim = rw (is, guide_labelled moves t.window q.given, f) here

-- a round begins, and ends
pub told_anew : {s w w' moves : List ℕ} (t : Task) → length moves ≤ 64 → Opened w w' t.round → Lasting s w → Told s moves t w'
told_anew {s} {w} {w'} {moves} t l O L = record { few = l; known = opened s w w' (guide_for moves t.window) t.round refl O L }

pub still_lasting : {s w moves : List ℕ} {t : Task} → Told s moves t w → Lasting s w
still_lasting {s} {w} {moves} {t} T = lasting s w (guide_for moves t.window) t.round refl T.known
