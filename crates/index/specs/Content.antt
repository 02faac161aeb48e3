-- Own vocabulary: what an index says, a list of entries, each a key with its value. An index is a slice of words: word 0 counts the words
-- that entries take up, word 1 is the round, a number of the caller's; one head for each 16 words follows, then the entries, each
-- [next, value + 2 ^ 25 * length, key ..]. A head or a next is 0 or the place of an entry. Which head a key belongs to is no part of this: a
-- search that misses a key is allowed. Assumes nothing.
use Rattle.std.specs.Prelude.{ℕ, ◌+◌, ◌-◌, ◌*◌, ◌/◌, ◌^◌, ◌≤◌, ◌<◌, min, ◌≡◌, ◌⊎◌, List, [], ◌∷◌, ◌++◌, length, get_or, set, take, drop, Option, Some, None}

-- a key with its value, and where its entry stands
pub record Entry : Type 0 where
  pub at : ℕ
  pub key : List ℕ
  pub value : ℕ

abbrev pub entry_at : List Entry → ℕ → Entry
entry_at es j = get_or es j (record { at = 0; key = []; value = 0 })

-- past the last word of an entry
abbrev pub stop : Entry → ℕ
stop e = e.at + 2 + length e.key

-- one head for each 16 words that a place of 32 bits reaches
unfoldable pub heads_of : ℕ → ℕ
heads_of n = min n (2 ^ 32 - 1) / 16

abbrev pub round_in : List ℕ → ℕ
round_in w = get_or w 1 0

-- past the last word in use
abbrev pub end_of : List ℕ → ℕ
end_of w = 2 + heads_of (length w) + get_or w 0 0

-- an entry stands in the words w
pub record Stands (w : List ℕ) (e : Entry) : Type 0 where
  pub header_is : get_or w (e.at + 1) 0 ≡ e.value + 2 ^ 25 * length e.key
  pub small : e.value < 2 ^ 25
  pub key_is : (k : ℕ) → k < length e.key → get_or w (e.at + 2 + k) 0 ≡ get_or e.key k 0
  pub above : 1 + heads_of (length w) < e.at
  pub before : stop e ≤ end_of w
  pub inside : stop e ≤ length w

-- no place, or that of one of the first n entries
abbrev pub Linked : List Entry → (n x : ℕ) → Type 0
Linked es n x = (x ≡ 0) ⊎ ((j : ℕ) × (j < n) × ((entry_at es j).at ≡ x))

-- the index w says es; entries stand one after the other, and each leads to earlier ones only
pub record Says (w : List ℕ) (es : List Entry) : Type 0 where
  pub stands : (j : ℕ) → j < length es → Stands w (entry_at es j)
  pub apart : (j k : ℕ) → j < k → k < length es → stop (entry_at es j) ≤ (entry_at es k).at
  pub heads : (b : ℕ) → b < heads_of (length w) → Linked es (length es) (get_or w (2 + b) 0)
  pub nexts : (j : ℕ) → j < length es → Linked es j (get_or w (entry_at es j).at 0)

-- some content
abbrev pub Sound : List ℕ → Type 0
Sound w = (es : List Entry) × Says w es

-- no content, and round 0
pub record Begun (w : List ℕ) : Type 0 where
  pub says : Says w []
  pub round_is : round_in w ≡ 0

-- an index before and after round r is opened: its content is gone, or is as it was and the round was an earlier one
pub record Opened (w w' : List ℕ) (r : ℕ) : Type 0 where
  pub len : length w' ≡ length w
  pub round_is : round_in w' ≡ r
  pub small : r < 65536
  pub says : (es : List Entry) → Says w es → (es' : List Entry) × Says w' es' × ((es' ≡ []) ⊎ ((es' ≡ es) × (round_in w < r)))

-- entry j has the key
pub record Has (es : List Entry) (key : List ℕ) (j : ℕ) : Type 0 where
  pub there : j < length es
  pub key_is : (entry_at es j).key ≡ key

-- the words of the entry at `at` are the key's
pub record Matches (w : List ℕ) (at : ℕ) (key : List ℕ) : Type 0 where
  pub length_is : get_or w (at + 1) 0 / 2 ^ 25 ≡ length key
  pub words_are : take (length key) (drop (at + 2) w) ≡ key

-- a place, where there is one, is that of an entry with the key
abbrev pub Located : List Entry → List ℕ → Option ℕ → Type 0
Located es key (Some x) = (j : ℕ) × Has es key j × ((entry_at es j).at ≡ x)
Located es key None = Unit

-- an answer about a key is what the content has
abbrev pub Tells : List Entry → List ℕ → Option ℕ → Type 0
Tells es key (Some v) = (j : ℕ) × Has es key j × ((entry_at es j).value ≡ v)
Tells es key None = Unit

-- the content after a note: as it was, with that key's value replaced, or with the key added
pub data Noted (es : List Entry) (key : List ℕ) (v : ℕ) : List Entry → Type 0 where
  same : Noted es key v es
  replaced : (j : ℕ) → Has es key j → Noted es key v (set es j (record { at = (entry_at es j).at; key = key; value = v }))
  added : (at : ℕ) → Noted es key v (es ++ (record { at = at; key = key; value = v } ∷ []))

-- an index before and after a note
pub record Notes (key : List ℕ) (v : ℕ) (w w' : List ℕ) : Type 0 where
  pub len : length w' ≡ length w
  pub round_is : round_in w' ≡ round_in w
  pub says : (es : List Entry) → Says w es → (es' : List Entry) × Says w' es' × Noted es key v es'

-- every key of the content has a value that P says of it
abbrev pub Every : (List ℕ → ℕ → Type 0) → List Entry → Type 0
Every P es = (j : ℕ) → j < length es → P (entry_at es j).key (entry_at es j).value

-- an index all of whose entries are so
abbrev pub Keeps : (List ℕ → ℕ → Type 0) → List ℕ → Type 0
Keeps P w = (es : List Entry) × Says w es × Every P es
