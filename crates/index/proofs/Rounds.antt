-- A round is opened: word 1 is in no entry and is no head, so to set it changes nothing that the index says. Assumes nothing.
use Prim.Native.Nat.{ℕ, ◌+◌, ◌<◌}
use mathlib.Core.Path.{◌≡◌, refl, ap, ◌∙◌}
use mathlib.Core.Logic.{inl, inr}
use mathlib.Core.List.{List, [], ◌∷◌}
use native.Mathlib.Omega.{arith}
use lib.ListN.{get_or, length, set, length-set, get_or-eq_default}
use lib.Seq.{get_or-set_same, get_or-set_other}
use Rattle.index.specs.Content.{Entry, entry_at, heads_of, round_in, Says, Begun, Opened}
use Rattle.index.proofs.Content.{stands_kept}

-- the same content in another round
says_round : (w : List ℕ) (r : ℕ) (es : List Entry) → Says w es → Says (set w 1 r) es
says_round w r es S = record {
  stands = λ j h. let T = S.stands j h in
      stands_kept w (set w 1 r) (entry_at es j) (length-set w 1 r) (omega (arith, kept 0 (omega arith), ap heads_of (length-set w 1 r))) (λ k lo hi. kept k (omega (arith, T.above))) T;
  apart = S.apart;
  heads = λ b h. rw (kept (2 + b) (omega arith)) (S.heads b (rw (length-set w 1 r) at h));
  nexts = λ j h. rw (kept (entry_at es j).at (omega (arith, (S.stands j h).above))) (S.nexts j h);
}
  where
    kept : (k : ℕ) → (k ≡ 1 → ⊥) → get_or (set w 1 r) k 0 ≡ get_or w k 0
    kept k n = get_or-set_other w 1 k r 0 n

-- an index too short for a round has no entries
pub opened_short : (w : List ℕ) → length w < 2 → Opened w w 0
opened_short w h = record {
  len = refl;
  round_is = get_or-eq_default w 0 (omega arith);
  small = omega arith;
  says = λ es S. (es, S, inl (none es S));
}
  where
    none : (es : List Entry) → Says w es → es ≡ []
    none [] S = refl
    none (e ∷ es) S = let T = S.stands 0 (omega arith) in absurd (omega (arith, T.above, T.inside))

-- the next round, with the same content
pub opened_next : (w : List ℕ) (r : ℕ) → 1 < length w → r ≡ round_in w → r < 65535 → Opened w (set w 1 (r + 1)) (r + 1)
opened_next w r l e h = record {
  len = length-set w 1 (r + 1);
  round_is = get_or-set_same w 1 (r + 1) 0 l;
  small = omega arith;
  says = λ es S. (es, says_round w (r + 1) es S, inr (refl, omega arith));
}

-- the first round, where the index began anew
pub opened_anew : (w w₁ : List ℕ) → length w₁ ≡ length w → 1 < length w → Begun w₁ → Opened w (set w₁ 1 1) 1
opened_anew w w₁ e l B = record {
  len = length-set w₁ 1 1 ∙ e;
  round_is = get_or-set_same w₁ 1 1 0 (omega arith);
  small = omega arith;
  says = λ es S. ([], says_round w₁ 1 [] B.says, inl refl);
}
