-- What holds of each entry of a list still does after one is replaced or added, where it holds of that one too. Assumes nothing.
use Prim.Native.Nat.{ℕ, ◌<◌}
use mathlib.Core.Path.{◌≡◌, sym, subst}
use mathlib.Core.List.{List, [], ◌∷◌, ◌++◌}
use native.Mathlib.Omega.{arith}
use native.Mathlib.Decide.{dec_lt, ℕ_discrete}
use lib.ListN.{length, set, length-set, length-append, get_or-append}
use lib.Seq.{get_or-set_same, get_or-set_other, get_or-append_seam}
use Rattle.index.specs.Content.{Entry, entry_at}

module _ (P : ℕ → Entry → Type 0) (es : List Entry) (e : Entry) where
  -- one more
  pub each_more : ((k : ℕ) → k < length es → P k (entry_at es k)) → P (length es) e → (k : ℕ) → k < length (es ++ (e ∷ [])) → P k (entry_at (es ++ (e ∷ [])) k)
  each_more old new k h = go (dec_lt k (length es))
    where
      go : Dec (k < length es) → P k (entry_at (es ++ (e ∷ [])) k)
      go (yes l) = subst (P k) (sym (get_or-append es (e ∷ []) _ k l)) (old k l)
      go (no l) =
          let n : length es ≡ k = omega (arith, length-append es (e ∷ [])) in
          subst (λ (i : ℕ). P i (entry_at (es ++ (e ∷ [])) i)) n (subst (P (length es)) (sym (get_or-append_seam es e [] _)) new)

  -- another one in place j
  pub each_set : (j : ℕ) → ((k : ℕ) → k < length es → (k ≡ j → ⊥) → P k (entry_at es k)) → P j e → (k : ℕ) → k < length (set es j e) → P k (entry_at (set es j e) k)
  each_set j old new k h = go (ℕ_discrete k j)
    where
      b : k < length es
      b = rw (length-set es j e) at h

      go : Dec (k ≡ j) → P k (entry_at (set es j e) k)
      go (yes p) =
          subst (λ (i : ℕ). P i (entry_at (set es j e) i)) (sym p)
          (subst (P j) (sym (get_or-set_same es j e _ (subst (λ (i : ℕ). i < length es) p b))) new)
      go (no p) = subst (P k) (sym (get_or-set_other es j k e _ p)) (old k b p)
