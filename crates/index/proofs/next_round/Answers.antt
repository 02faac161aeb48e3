-- A slice of fewer than two words holds no entry; else the next round is written, after the last one into an index that begins anew. Assumes
-- nothing.
use Rattle.index.proofs.Rounds.{opened_short, opened_next, opened_anew}
use mathlib.Core.Path.{refl}
use native.Mathlib.Omega.{arith}
use Rattle.index.proofs.next_round.Goals as goal

pub returns-then-index-lt2 : goal.returns-then-index-lt2
returns-then-index-lt2 c = opened_short _ c.if-index-lt2.true

pub returns-then-round : goal.returns-then-round
returns-then-round c = opened_next _ _ (omega arith) refl c.if-round.true

pub returns : goal.returns
returns c =
    opened_anew _ _ c.begin.auto.index (omega arith) c.begin.ensures
