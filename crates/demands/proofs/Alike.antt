-- Sheets that are checked alike, with as many fluents, the same bound, verdict and accepted histories: planning and replay answer the same.
-- Assumes nothing.
use mathlib.Core.Path.{◌≡◌, refl, ◌∙◌, ap}
use mathlib.Core.List.{List}
use Prim.Native.Nat.{ℕ}
use Rattle.sheet.specs.Layout.{layout_of}
use Rattle.sheet.specs.Check.{check_of, Checked}
use Rattle.demands.specs.Decoded.{bound_of}
use Rattle.demands.specs.Planning.{verdict_of, accepts_of, answer, planned_from, plan_of, replied, replayed_from, replay_of}
use Rattle.std.specs.Prelude.{Ok, Err}

pub record AnsweredAlike (s s' : List ℕ) : Type 0 where
  pub check : check_of s' ≡ check_of s
  pub fluents : (layout_of s').f ≡ (layout_of s).f
  pub bound : bound_of s' ≡ bound_of s
  pub verdict : verdict_of s' ≡ verdict_of s
  pub accepted : (h : List ℕ) → accepts_of s' h ≡ accepts_of s h

module _ {s s' : List ℕ} (same : AnsweredAlike s s') where
  planned_same : (c : Checked) → planned_from s' c ≡ planned_from s c
  planned_same (Ok a) = ap answer same.verdict
  planned_same (Err why) = refl

  replayed_same : (h : List ℕ) (c : Checked) → replayed_from s' h c ≡ replayed_from s h c
  replayed_same h (Ok a) = ap replied (same.accepted h)
  replayed_same h (Err why) = refl

  -- the same plan, or the same number and place
  pub plan_same : plan_of s' ≡ plan_of s
  unfolding plan_of
  plan_same = ap (planned_from s') same.check ∙ planned_same (check_of s)

  -- the same reply to every history
  pub replay_same : (h : List ℕ) → replay_of s' h ≡ replay_of s h
  unfolding replay_of
  replay_same h = ap (replayed_from s' h) same.check ∙ replayed_same h (check_of s)
