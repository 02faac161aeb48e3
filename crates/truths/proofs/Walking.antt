-- A walk over values, the last first: no value, and one value more. Assumes nothing.
use Prim.Native.Nat.{ℕ, suc, ◌-◌, ◌≤◌, ◌<◌}
use mathlib.Core.Path.{◌≡◌, refl, sym, ap, ap₂, subst, ◌∙◌}
use mathlib.Core.Bool.{Bool, true, false, cond, ◌&&◌, ◌||◌}
use mathlib.Core.List.{List}
use native.Mathlib.Omega.{arith}
use native.Mathlib.Nat.{zero-add}
use Rattle.records.specs.Placeholders.{put}
use Rattle.records.specs.Some.{some_from, every_from}
use Rattle.records.proofs.Some.{some_more, every_more}
use Rattle.sets.specs.Sets.{member, Has}
use Rattle.records.proofs.Placeholders.{put_small}
use Rattle.sets.proofs.Members.{has_by}
use Rattle.truths.specs.Evaluated.{among_values}

-- how the values are taken together
abbrev joined : (every : Bool) → Bool → Bool → Bool
joined every p q = cond every (p && q) (p || q)

among_none : (every : Bool) (has : ℕ → Bool) → every ≡ among_values every has 0
unfolding some_from every_from
among_none true has = refl
among_none false has = refl

among_more : (every : Bool) (has : ℕ → Bool) (k : ℕ) → joined every (among_values every has k) (has k) ≡ among_values every has (suc k)
among_more true has k = sym (every_more has k 0 ∙ ap (λ (m : ℕ). every_from has 0 k && has m) (zero-add k))
among_more false has k = sym (some_more has k 0 ∙ ap (λ (m : ℕ). some_from has 0 k || has m) (zero-add k))

-- what a formula says in each environment, and the placeholder that the values are put into
module _ (said : ℕ → Bool) (c : ℕ) where
  -- the environments in which it says so with some, or every, value below n
  abbrev pub Among : (every : Bool) (n : ℕ) (set : List ℕ) → Type 0
  Among every n set = Has (λ (e : ℕ). among_values every (λ (v : ℕ). said (put e c v)) n) set

  pub walk_none : (every : Bool) {n : ℕ} {set : List ℕ} → n ≡ 0 → Has (λ (e : ℕ). every) set → Among every n set
  walk_none every {n} {set} z h = subst (λ (m : ℕ). Among every m set) (sym z) (has_by h (λ e l. among_none every (λ (v : ℕ). said (put e c v))))

  module _ {x last lower set : List ℕ} (every : Bool) (n : ℕ) (some : 0 < n) (few : n ≤ 16)
      (X : Has said x) (L : Has (λ (e : ℕ). member x (put e c (n - 1))) last) (A : Among every (n - 1) lower) where
    walk_more : Has (λ (e : ℕ). joined every (member lower e) (member last e)) set → Among every n set
    walk_more h =
        let v = n - 1 in
        let next : suc v ≡ n = omega arith in
        subst (λ (m : ℕ). Among every m set) next
        (has_by h (λ e l. ap₂ (joined every) (A.each e l) (L.each e l ∙ X.each (put e c v) (put_small e l c v))
        ∙ among_more every (λ (u : ℕ). said (put e c u)) v))

    pub walk_every : every ≡ true → Has (λ (e : ℕ). member lower e && member last e) set → Among every n set
    walk_every t h = walk_more (subst (λ (b : Bool). Has (λ (e : ℕ). joined b (member lower e) (member last e)) set) (sym t) h)

    pub walk_some : every ≡ false → Has (λ (e : ℕ). member lower e || member last e) set → Among every n set
    walk_some t h = walk_more (subst (λ (b : Bool). Has (λ (e : ℕ). joined b (member lower e) (member last e)) set) (sym t) h)
