-- What a caller needs: where P is so of every key of an index and its value, it stays so after a note of what is so, and holds of what is
-- found. In a new round the entries are those of earlier ones, or gone. Assumes nothing.
use Prim.Native.Nat.{ℕ, ◌<◌}
use mathlib.Core.Path.{◌≡◌}
use mathlib.Core.Logic.{◌⊎◌, inl, inr}
use mathlib.Core.List.{List, []}
use native.Mathlib.Omega.{arith}
use Rattle.std.specs.Prelude.{Some}
use Rattle.index.specs.Content.{Entry, entry_at, round_in, Says, Sound, Begun, Opened, Tells, Noted, same, replaced, added, Notes, Every, Keeps}
use Rattle.index.proofs.Listed.{each_more, each_set}

every_noted : (P : List ℕ → ℕ → Type 0) (key : List ℕ) (v : ℕ) {es es' : List Entry} → Noted es key v es' → Every P es → P key v → Every P es'
every_noted P key v same E p = E
every_noted P key v {es} (replaced j h) E p =
    each_set (λ k e. P e.key e.value) es (record { at = (entry_at es j).at; key = key; value = v }) j (λ k b n. E k b) p
every_noted P key v {es} (added at) E p = each_more (λ k e. P e.key e.value) es (record { at = at; key = key; value = v }) E p

every_none : (P : List ℕ → ℕ → Type 0) → Every P []
every_none P j h = absurd (omega arith)

module _ (P : List ℕ → ℕ → Type 0) where
  pub sound : (w : List ℕ) → Keeps P w → Sound w
  sound w (es, S, E) = (es, S)

  pub keeps_nothing : (w : List ℕ) → Begun w → Keeps P w
  keeps_nothing w B = ([], B.says, every_none P)

  pub keeps_noted : (key : List ℕ) (v : ℕ) (w w' : List ℕ) → Notes key v w w' → P key v → Keeps P w → Keeps P w'
  keeps_noted key v w w' N p (es, S, E) = let (es', S', n) = N.says es S in (es', S', every_noted P key v n E p)

  pub keeps_found : (key w : List ℕ) (v : ℕ) → ((es : List Entry) → Says w es → Tells es key (Some v)) → Keeps P w → P key v
  keeps_found key w v T (es, S, E) =
      let (j, H, a) = T es S in
      rw (H.key_is, a) at (E j H.there)

module _ (P Q : List ℕ → ℕ → Type 0) where
  pub keeps_weaker : (w : List ℕ) → ((key : List ℕ) (v : ℕ) → P key v → Q key v) → Keeps P w → Keeps Q w
  keeps_weaker w f (es, S, E) = (es, S, λ j h. f _ _ (E j h))

  pub keeps_opened : (w w' : List ℕ) (r : ℕ) → Opened w w' r → (round_in w < r → (key : List ℕ) (v : ℕ) → P key v → Q key v) → Keeps P w → Keeps Q w'
  keeps_opened w w' r O f (es, S, E) = let (es', S', o) = O.says es S in (es', S', every es' o)
    where
      every : (es' : List Entry) → (es' ≡ []) ⊎ ((es' ≡ es) × (round_in w < r)) → Every Q es'
      every es' (inl e) = rw e (every_none Q)
      every es' (inr (e, h)) = rw e (λ j b. f h _ _ (E j b))
