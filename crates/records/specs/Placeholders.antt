-- To be believed: the two placeholders (document 02, F-6: "two placeholders, 0 and 1, each 0 to 15"). What stands in both is one number, an
-- environment; and a record read in an environment is one number too. Assumes nothing.
use Rattle.std.specs.Prelude.{ℕ, zero, suc, ◌+◌, ◌*◌, ◌/◌, ◌%◌}

-- how many environments there are: placeholder 0 + 16 × placeholder 1
abbrev pub environments : ℕ
environments = 256

-- the value in placeholder c
abbrev pub look : (e c : ℕ) → ℕ
look e zero = e % 16
look e (suc c) = e / 16

-- the environment with v, which is below 16, in placeholder c: what stood there is hidden
abbrev pub put : (e c v : ℕ) → ℕ
put e zero v = v % 16 + 16 * (e / 16)
put e (suc c) v = e % 16 + 16 * (v % 16)

-- record i, read in the environment e
abbrev pub reading : (i e : ℕ) → ℕ
reading i e = 256 * i + e

-- the record that a reading is of, and the environment that it is read in
abbrev pub read_in : (n : ℕ) → ℕ
read_in n = n / 256

abbrev pub environment_of : (n : ℕ) → ℕ
environment_of n = n % 256

-- the same record, read with v in placeholder c
abbrev pub put_in : (n c v : ℕ) → ℕ
put_in n c v = reading (read_in n) (put (environment_of n) c v)
