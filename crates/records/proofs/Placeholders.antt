-- A reading is of its record in its environment; what is put into a placeholder stands there, and the other keeps its value. Assumes nothing.
use Prim.Native.Nat.{ℕ, zero, suc, ◌%◌, ◌<◌}
use mathlib.Core.Path.{◌≡◌, refl, sym, ◌∙◌, ap₂}
use native.Mathlib.Decide.{ℕ_discrete}
use native.Mathlib.Omega.{arith}
use Rattle.records.specs.Placeholders.{environments, look, put, reading, read_in, environment_of, put_in}

pub environment_small : (n : ℕ) → environment_of n < environments
environment_small n = omega arith

pub reading_whole : (n : ℕ) → reading (read_in n) (environment_of n) ≡ n
reading_whole n = omega arith

-- readings of a lower record are lower
pub reading_lower : (a q d e : ℕ) → a < q → d < environments → reading a d < reading q e
reading_lower a q d e l h = omega arith

-- two placeholders are all that an environment holds
pub looks_same : (e e' : ℕ) → look e 0 ≡ look e' 0 → look e 1 ≡ look e' 1 → e ≡ e'
looks_same e e' p q = omega arith

module _ (e : ℕ) (small : e < environments) where
  pub read_in_lem : (i : ℕ) → read_in (reading i e) ≡ i
  read_in_lem i = omega arith

  pub environment_of_lem : (i : ℕ) → environment_of (reading i e) ≡ e
  environment_of_lem i = omega arith

  pub look_small : (c : ℕ) → look e c < 16
  look_small zero = omega arith
  look_small (suc c) = omega arith

  pub put_small : (c v : ℕ) → put e c v < environments
  put_small zero v = omega arith
  put_small (suc c) v = omega arith

  pub look_put : (c v : ℕ) → look (put e c v) c ≡ v % 16
  look_put zero v = omega arith
  look_put (suc c) v = omega arith

  pub look_other : (c d v : ℕ) → c < 2 → d < 2 → ¬ (c ≡ d) → look (put e c v) d ≡ look e d
  look_other zero zero v l m n = absurd (n refl)
  look_other zero (suc d) v l m n = omega arith
  look_other (suc c) zero v l m n = omega arith
  look_other (suc c) (suc d) v l m n = absurd (n (omega arith))

  -- the same record, read in the other environment
  pub put_reading : (i c v : ℕ) → put_in (reading i e) c v ≡ reading i (put e c v)
  put_reading i c v = ap₂ (λ (j d : ℕ). reading j (put d c v)) (read_in_lem i) (environment_of_lem i)

-- environments that agree in the other placeholder, or in both, agree in both with the same value put in
pub put_same : (e e' c d v : ℕ) → e < environments → e' < environments → c < 2 → d < 2 → (¬ (c ≡ d) → look e d ≡ look e' d) → look (put e c v) d ≡ look (put e' c v) d
put_same e e' c d v h h' l m same = go (ℕ_discrete c d)
  where
    go : Dec (c ≡ d) → look (put e c v) d ≡ look (put e' c v) d
    go (yes k) = rw (← k) (look_put e h c v ∙ sym (look_put e' h' c v))
    go (no k) = look_other e h c d v l m k ∙ same k ∙ sym (look_other e' h' c d v l m k)

pub put_record : (n c v : ℕ) → read_in (put_in n c v) ≡ read_in n
put_record n c v = read_in_lem (put (environment_of n) c v) (put_small (environment_of n) (environment_small n) c v) (read_in n)

pub put_environment : (n c v : ℕ) → environment_of (put_in n c v) ≡ put (environment_of n) c v
put_environment n c v = environment_of_lem (put (environment_of n) c v) (put_small (environment_of n) (environment_small n) c v) (read_in n)
