-- Own vocabulary: a state, the nodes of a remaining program and a label in few words (document 02, F-4: "Packed: a fluent needs four bits, a
-- node of the remaining program twelve"). The first word has whether interrupts run, the number of nodes, the label, and whether the nodes
-- are wide; then come eight values a word, and the nodes: two a word, 4 bits for the tag and 12 for the number each, or, where a number
-- needs more (F-6: a record with its placeholders), wide: one a word, 4 bits and 28. A node's size is left out: tags in preorder determine
-- it. Assumes nothing.
use Rattle.std.specs.Prelude.{ℕ, ◌+◌, ◌-◌, ◌*◌, ◌/◌, ◌%◌, ◌≤◌, ◌<◌, ◌≡◌, Bool, true, false, cond, List, ltb, length, get_or}
use Rattle.golog.specs.declared.State.{State}

-- the lower four bits of values: two from place i on, four, eight
abbrev pub two_at : List ℕ → ℕ → ℕ
two_at v i = get_or v i 0 % 16 + 16 * (get_or v (i + 1) 0 % 16)

unfoldable pub four_at : List ℕ → ℕ → ℕ
four_at v i = two_at v i + 256 * two_at v (i + 2)

unfoldable pub eight_at : List ℕ → ℕ → ℕ
eight_at v i = four_at v i + 65536 * four_at v (i + 4)

-- the lower bits of the tag and the number of the node at i: those of a number below the limit
abbrev pub node_at : (limit : ℕ) → List ℕ → ℕ → ℕ
node_at limit w i = get_or w i 0 % 16 + 16 * (get_or w (i + 1) 0 % limit)

-- a node of 16 bits and the next one, where there is one among the n nodes from i on
unfoldable pub pair_at : List ℕ → (i n : ℕ) → ℕ
pair_at w i n = node_at 4096 w i + 65536 * cond (ltb 1 n) (node_at 4096 w (i + 3)) 0

-- there are no higher bits
pub record Coded (limit : ℕ) (w : List ℕ) (i : ℕ) : Type 0 where
  pub tag_small : get_or w i 0 < 16
  pub number_small : get_or w (i + 1) 0 < limit

-- nor in the next node, where there is one
pub record CodedPair (w : List ℕ) (i n : ℕ) : Type 0 where
  pub first : Coded 4096 w i
  pub second : 1 < n → Coded 4096 w (i + 3)

-- wide or in pairs: the limit of a number, 2 ^ 28 or 2 ^ 12; the words that n nodes take; the k-th word of the n nodes at i
abbrev pub limit_of : (wide : Bool) → ℕ
limit_of wide = cond wide 268435456 4096

abbrev pub words_of : (wide : Bool) (n : ℕ) → ℕ
words_of wide n = cond wide n ((n + 1) / 2)

abbrev pub word_at : (wide : Bool) → List ℕ → (i n k : ℕ) → ℕ
word_at wide w i n k = cond wide (node_at 268435456 w (i + 3 * k)) (pair_at w (i + 6 * k) (n - 2 * k))

-- nor in the nodes of the k-th word
abbrev pub Whole : (wide : Bool) → List ℕ → (i n k : ℕ) → Type 0
Whole true w i n k = Coded 268435456 w (i + 3 * k)
Whole false w i n k = CodedPair w (i + 6 * k) (n - 2 * k)

-- whether interrupts run, the number of nodes, the label, and whether the nodes are wide
unfoldable pub head_of : (running : Bool) (n label : ℕ) (wide : Bool) → ℕ
head_of running n label wide = cond running 1 0 + 2 * n + 8192 * label + 536870912 * cond wide 1 0

-- n groups of values were written from word 1 on; the words above are left open
pub record WrittenValues (v : List ℕ) (n : ℕ) (key key' : List ℕ) : Type 0 where
  pub len : length key' ≡ length key
  pub values_are : (k : ℕ) → k < n → get_or key' (1 + k) 0 ≡ eight_at v (8 * k)

-- the n nodes at i were written from word `to` on; the words above are left open
pub record WrittenNodes (wide : Bool) (w : List ℕ) (i n to : ℕ) (key key' : List ℕ) : Type 0 where
  pub len : length key' ≡ length key
  pub below : (k : ℕ) → k < to → get_or key' k 0 ≡ get_or key k 0
  pub nodes_are : (k : ℕ) → k < words_of wide n → get_or key' (to + k) 0 ≡ word_at wide w i n k

-- so they were, in so many words, and no bits were left out
pub record Held (wide : Bool) (w : List ℕ) (i n to words : ℕ) (key key' : List ℕ) : Type 0 where
  pub words_are : words ≡ words_of wide n
  pub inside : to + words ≤ length key
  pub coded : (k : ℕ) → k < n → Coded (limit_of wide) w (i + 3 * k)
  pub written : WrittenNodes wide w i n to key key'

-- the key holds all of a state, whose values after the first `groups` groups are 0, of the n nodes at i, and of the label
pub record Packed (groups : ℕ) (st : State) (w : List ℕ) (i n label : ℕ) (key : List ℕ) : Type 0 where
  pub few : n < 4096
  pub label_small : label < 65536
  pub many : length st.values ≡ 32
  pub small : (k : ℕ) → k < 32 → get_or st.values k 0 < 16
  pub none : (k : ℕ) → 8 * groups ≤ k → k < 32 → get_or st.values k 0 < 1
  pub wide : Bool
  pub coded : (k : ℕ) → k < n → Coded (limit_of wide) w (i + 3 * k)
  pub head_is : get_or key 0 0 ≡ head_of st.running n label wide
  pub values_are : (k : ℕ) → k < groups → get_or key (1 + k) 0 ≡ eight_at st.values (8 * k)
  pub nodes_are : (k : ℕ) → k < words_of wide n → get_or key (1 + groups + k) 0 ≡ word_at wide w i n k
