-- The height is the most links on a path down (document 01): where links lead to lower records, no path from record i has more
-- links than `rise p i`, and one has as many. Assumes nothing.
use mathlib.Core.Path.{◌≡◌, refl, sym, ◌∙◌, ap, ap₂, subst}
use mathlib.Core.List.{List, [], ◌∷◌, Memᴰ}
use mathlib.Core.Logic.{◌⊎◌, inl, inr, ◌↔◌}
use Prim.Native.Nat.{ℕ, zero, suc, ◌-◌, ◌≤◌, ◌<◌, max, zero-le}
use native.Mathlib.Decide.{dec_lt}
use native.Mathlib.Omega.{arith}
use lib.ListN.{get_or}
use Rattle.records.specs.Table.{up_to}
use Rattle.records.proofs.Fills.{up_at, entry_is}
use Rattle.records.specs.declared.Program.{Program}
use Rattle.kinds.specs.Rules.{Link}
use Rattle.kinds.specs.Programs.{links}
use Rattle.kinds.proofs.ProgramFields.{link_exactly}
use Rattle.height.specs.Down.{Down, stop, step, IsHeight, HeightAbove}
use Rattle.height.specs.Height.{height_over, height_at, rise, height_of}

-- the links of the first n records lead to lower records
abbrev pub Lower : (ℕ → Program) → ℕ → Type 0
Lower p n = (i j : ℕ) → i < n → Memᴰ j (links (p i)) → j < i

-- the height over links, given a height for each record
unfoldable pub above : (ℕ → ℕ) → List ℕ → ℕ
above h [] = 0
above h (a ∷ more) = max (suc (h a)) (above h more)

over_above : (l : List ℕ) (h : ℕ → ℕ) (xs : List ℕ) → ((a : ℕ) → Memᴰ a xs → get_or l a 0 ≡ h a) → height_over l xs ≡ above h xs
unfolding height_over above
over_above l h [] e = refl
over_above l h (a ∷ xs) e =
    ap₂ (λ (x y : ℕ). max (suc x) y) (e a (Memᴰ.head refl)) (over_above l h xs (λ b k. e b (Memᴰ.tail k)))

-- a link's record is lower than the height over all of them
above_more : (h : ℕ → ℕ) {j : ℕ} {xs : List ℕ} → Memᴰ j xs → h j < above h xs
unfolding above
above_more h (Memᴰ.head e) = omega (arith, ap h e)
above_more h (Memᴰ.tail k) = let l = above_more h k in omega arith

-- and some link is the highest
above_some : (h : ℕ → ℕ) (xs : List ℕ) → (above h xs ≡ 0) ⊎ ((j : ℕ) × Memᴰ j xs × (above h xs ≡ suc (h j)))
unfolding above
above_some h [] = inl refl
above_some h (a ∷ xs) = go (dec_lt (suc (h a)) (above h xs)) (above_some h xs)
  where
    go :
        Dec (suc (h a) < above h xs)
        → (above h xs ≡ 0) ⊎ ((j : ℕ) × Memᴰ j xs × (above h xs ≡ suc (h j)))
        → (max (suc (h a)) (above h xs) ≡ 0) ⊎ ((j : ℕ) × Memᴰ j (a ∷ xs) × (max (suc (h a)) (above h xs) ≡ suc (h j)))
    go (no l) r = inr (a, Memᴰ.head refl, omega arith)
    go (yes l) (inl e) = absurd (omega arith)
    go (yes l) (inr (j, k, e)) = inr (j, Memᴰ.tail k, omega arith)

module _ (p : ℕ → Program) (n : ℕ) (low : Lower p n) where
  -- a record's height is one more than that of the highest that it links to
  pub rise_above : (i : ℕ) → i < n → rise p i ≡ above (rise p) (links (p i))
  unfolding rise height_at
  rise_above i l =
      entry_is 0 (height_at p) i
      ∙ over_above (up_to (height_at p) i) (rise p) (links (p i)) (λ a k. up_at 0 (height_at p) i a (low i a l k))

  pub rise_less : (i j : ℕ) → i < n → Memᴰ j (links (p i)) → rise p j < rise p i
  rise_less i j l k = rw (rise_above i l) (above_more (rise p) k)

  -- no path has more links than the height
  pub at_most : {i k : ℕ} → i < n → Down p i k → k ≤ rise p i
  at_most l stop = zero-le
  at_most {i = i} l (step {j = j} w d) = let h = at_most (below i j l w) d in omega (arith, rise_less i j l ((link_exactly (p i) j).1 w))
    where
      below : (i j : ℕ) → i < n → Link (p i) j → j < n
      below i j l w = omega (arith, low i j l ((link_exactly (p i) j).1 w))

  -- one path has as many
  reach : (above-i i : ℕ) → i < above-i → i < n → Down p i (rise p i)
  reach zero i f l = absurd (omega arith)
  reach (suc m) i f l = go (above_some (rise p) (links (p i))) (λ j w. reach m j (omega (arith, low i j l w)) (omega (arith, low i j l w)))
    where
      go :
          (above (rise p) (links (p i)) ≡ 0) ⊎ ((j : ℕ) × Memᴰ j (links (p i)) × (above (rise p) (links (p i)) ≡ suc (rise p j)))
          → ((j : ℕ) → Memᴰ j (links (p i)) → Down p j (rise p j))
          → Down p i (rise p i)
      go (inl e) next = subst (Down p i) (sym (rise_above i l ∙ e)) stop
      go (inr (j, w, e)) next = subst (Down p i) (sym (rise_above i l ∙ e)) (step ((link_exactly (p i) j).0 w) (next j w))

  pub reached : (i : ℕ) → i < n → Down p i (rise p i)
  reached i l = reach (suc i) i (omega arith) l

  -- the height of the table, by document 01's words: some path down from the root has that many links, and none has more
  pub height_is_most : 1 ≤ n → IsHeight p n (height_of p n)
  height_is_most l = (reached (n - 1) (omega arith), λ k d. at_most (omega arith) d)

  pub above_exactly : 1 ≤ n → (m : ℕ) → HeightAbove p n m ↔ (m < height_of p n)
  above_exactly l m = (λ (k, h, d). let u = (height_is_most l).1 k d in omega arith, λ h. (height_of p n, h, (height_is_most l).0))
