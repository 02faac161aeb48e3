-- One record of the table stands for what runs: the four records above the first n are, by their numbers, start; stop; the root over
-- stop; start, then that. The first n are those of the sheet, so the root unfolds as before and has its height. Assumes nothing.
use mathlib.Core.Path.{◌≡◌, refl, sym, ◌∙◌, ap, ap₂, subst}
use mathlib.Core.Bool.{Bool, true, false, cond}
use mathlib.Core.List.{[], ◌∷◌, Memᴰ}
use mathlib.Core.Logic.{⊎_elim}
use Prim.Native.Nat.{ℕ, zero, suc, ◌+◌, ◌-◌, ◌<◌, ◌≤◌}
use native.Mathlib.Decide.{dec_lt}
use native.Mathlib.Nat.{add-zero}
use native.Mathlib.Omega.{arith}
use lib.ListN.{get_or}
use borrow.Author.Tests.{lt-ltb, le-ltb}
use Rattle.records.specs.declared.Program.{Program}
use Rattle.kinds.specs.Programs.{field_a, field_b, picks, links}
use Rattle.height.specs.Height.{height_over, height_at, rise}
use Rattle.height.proofs.Paths.{Lower, above, rise_above}
use Rattle.golog.specs.Prog.{nil, sequence, over, construct, prog_of, prog_at, program_of, started}
use Rattle.remaining.specs.Rest.{leaf, unfolded, AllLower, Plain}
use Rattle.remaining.specs.Extended.{empty, virtual, extended, top}
use Rattle.remaining.proofs.Entries.{entry_same, chosen, program_step}

module _ (b : Bool) (p : ℕ → Program) (n : ℕ) where
  pub table_below : (i : ℕ) → i < n → extended b p n i ≡ p i
  unfolding extended
  table_below i h = simp (lt-ltb i n h)

  pub table_above : (k : ℕ) → extended b p n (n + k) ≡ get_or (virtual b n) k empty
  unfolding extended
  table_above k = let e : n + k - n ≡ k = omega arith in simp (le-ltb (n + k) n (omega arith), e)

  -- the records of the sheet unfold as before, and have their heights
  pub program_below : (i : ℕ) → i < n → program_of (extended b p n) i ≡ program_of p i
  unfolding program_of
  program_below i h = entry_same nil (prog_at (extended b p n)) (prog_at p) i (λ j k l. ap (λ (r : Program). prog_of r l) (table_below j (omega arith)))

  pub rise_below : (i : ℕ) → i < n → rise (extended b p n) i ≡ rise p i
  unfolding rise height_at
  rise_below i h = entry_same 0 (height_at (extended b p n)) (height_at p) i (λ j k l. ap (λ (r : Program). height_over l (links r)) (table_below j (omega arith)))

-- what the four records name is lower
pair_lower : (m x y a : ℕ) → x < m → y < m → Memᴰ a (x ∷ y ∷ []) → a < m
pair_lower m x y a hx hy h = ⊎_elim (λ e. omega arith) (λ t. let e = mathlib.Core.List.Memᴰ.eq_of_singleton t in omega arith) (mathlib.Core.List.Memᴰ.cases_cons h)

virtual_lower : (b : Bool) (n k a : ℕ) → Memᴰ a (links (get_or (virtual b n) k empty)) → a < n + k
unfolding links field_a field_b
virtual_lower false n k a h = absurd (mathlib.Core.List.Memᴰ.not-nil h)
virtual_lower true n zero a h = absurd (mathlib.Core.List.Memᴰ.not-nil h)
virtual_lower true n (suc zero) a h = absurd (mathlib.Core.List.Memᴰ.not-nil h)
virtual_lower true n (suc (suc zero)) a h = pair_lower (n + 2) (n - 1) (n + 1) a (omega arith) (omega arith) h
virtual_lower true n (suc (suc (suc zero))) a h = pair_lower (n + 3) n (n + 2) a (omega arith) (omega arith) h
virtual_lower true n (suc (suc (suc (suc k)))) a h = absurd (mathlib.Core.List.Memᴰ.not-nil h)

-- none of them chooses a value
virtual_plain : (b : Bool) (n k : ℕ) → picks (get_or (virtual b n) k empty).kind ≡ false
virtual_plain false n k = refl
virtual_plain true n zero = refl
virtual_plain true n (suc zero) = refl
virtual_plain true n (suc (suc zero)) = refl
virtual_plain true n (suc (suc (suc zero))) = refl
virtual_plain true n (suc (suc (suc (suc k)))) = refl

-- the first n records choose no value
abbrev pub PlainBelow : (ℕ → Program) → ℕ → Type 0
PlainBelow p n = (i : ℕ) → i < n → picks (p i).kind ≡ false

module _ (b : Bool) (p : ℕ → Program) (n : ℕ) (low : Lower p n) where
  -- so every record of the table names lower ones
  pub table_linked : (i a : ℕ) → Memᴰ a (links (extended b p n i)) → a < i
  table_linked i a h = go (dec_lt i n)
    where
      go : Dec (i < n) → a < i
      go (yes l) = low i a l (rw (table_below b p n i l) at h)
      go (no l) =
          let k : ℕ = i - n in
          let e : i ≡ n + k = omega arith in
          let m : Memᴰ a (links (get_or (virtual b n) k empty)) = subst (λ (r : Program). Memᴰ a (links r)) (ap (extended b p n) e ∙ table_above b p n k) h in
          omega (arith, virtual_lower b n k a m)

  -- and chooses no value, where the first n do not
  pub table_plain : PlainBelow p n → Plain (extended b p n)
  table_plain plain i = go (dec_lt i n)
    where
      go : Dec (i < n) → picks (extended b p n i).kind ≡ false
      go (yes l) = rw (table_below b p n i l) (plain i l)
      go (no l) = let k : ℕ = i - n in let e : i ≡ n + k = omega arith in rw (e, table_above b p n k) (virtual_plain b n k)

  pub table_lower : PlainBelow p n → AllLower (extended b p n)
  table_lower plain = record { linked = table_linked; picked = λ i v t. absurd (rw (table_plain plain i) at t) }

  program_above :
      PlainBelow p n → (k : ℕ) → let r = get_or (virtual b n) k empty in
      let t = extended b p n in
      program_of t (n + k) ≡ construct r (program_of t r.a) (program_of t r.b) (chosen (program_of t) r)
  program_above plain k =
      let t = extended b p n in
      program_step t (table_lower plain) (n + k)
      ∙ ap (λ (r : Program). construct r (program_of t r.a) (program_of t r.b) (chosen (program_of t) r)) (table_above b p n k)

module _ (p : ℕ → Program) (n : ℕ) (low : Lower p n) (some_record : 1 ≤ n) where
  -- what runs, as one record
  pub top_started : PlainBelow p n → (b : Bool) → unfolded (extended b p n) (leaf (top b n)) ≡ started b (program_of p (n - 1))
  unfolding unfolded construct
  top_started plain true =
      program_above true p n low plain 3
      ∙ ap₂ sequence (ap (program_of (extended true p n)) (sym (add-zero n)) ∙ program_above true p n low plain 0)
      (program_above true p n low plain 2 ∙ ap₂ over (program_below true p n (n - 1) (omega arith)) (program_above true p n low plain 1))
  top_started plain false = program_below false p n (n - 1) (omega arith)

  -- its height: two levels above the root's where there are interrupts
  pub top_rise : (b : Bool) → rise (extended b p n) (top b n) ≡ rise p (n - 1) + cond b 2 0
  unfolding links field_a field_b above
  top_rise true =
      let t : ℕ → Program = extended true p n in
      let at : (k : ℕ) → rise t (n + k) ≡ above (rise t) (links (get_or (virtual true n) k empty)) =
      λ k. rise_above t (suc (n + k)) (λ j a l. table_linked true p n low j a) (n + k) (omega arith) ∙ ap (λ (r : Program). above (rise t) (links r)) (table_above true p n k) in
      omega (arith, ap (rise t) (add-zero n), at 0, at 1, at 2, at 3, rise_below true p n (n - 1) (omega arith))
  top_rise false = rise_below false p n (n - 1) (omega arith) ∙ omega arith
