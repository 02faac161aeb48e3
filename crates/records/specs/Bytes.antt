-- To be believed: numbers in a list of bytes, and parts of it (document 01: "little-endian"). Assumes nothing.
use Rattle.std.specs.Prelude.{ℕ, ◌+◌, ◌-◌, ◌*◌, List, get_or, take, drop}

-- the bytes from index a up to, not including, index e
abbrev pub part : List ℕ → ℕ → ℕ → List ℕ
part s a e = take (e - a) (drop a s)

-- numbers of two bytes are below it
abbrev pub limit16 : ℕ
limit16 = 65536

-- the little-endian number of two bytes at an index
abbrev pub le16 : List ℕ → ℕ → ℕ
le16 s at = get_or s at 0 + 256 * get_or s (at + 1) 0

-- the little-endian number of four bytes at an index
abbrev pub le32 : List ℕ → ℕ → ℕ
le32 s at = le16 s at + limit16 * le16 s (at + 2)
