-- Own vocabulary: the remaining program in a frame's words (document 01, "Work area": three words a node). A node's words are its tag, its
-- record and its number of nodes; its left part stands right after it, its right part after that. All three words are pinned, so that
-- equal remaining programs are equal word for word. Assumes nothing.
use Rattle.std.specs.Prelude.{◌≡◌, List, ℕ, ◌+◌, ◌*◌, ◌^◌, ◌≤◌, ◌<◌, length, get_or}
use Rattle.remaining.specs.Rest.{Rest, gone, leaf, node, nodes}

-- the node at i, which stands for n nodes, all of them inside
pub record Node (w : List ℕ) (i tag number n : ℕ) : Type 0 where
  pub tag_is : get_or w i 0 ≡ tag
  pub record_is : get_or w (i + 1) 0 ≡ number
  pub size_is : get_or w (i + 2) 0 ≡ n
  pub inside : i + 3 * n ≤ length w

-- the words from i on are the remaining program: tag 0 nothing, 1 a record, else a construct by its kind
unfoldable pub At : Rest → List ℕ → ℕ → Type 0
At gone w i = Node w i 0 0 1
At (leaf p) w i = Node w i 1 p 1
At (node tag l r) w i = Node w i tag 0 (nodes (node tag l r)) × (3 ≤ tag) × At l w (i + 3) × At r w (i + 3 + 3 * nodes l)

-- some remaining program stands there
pub record Stands (w : List ℕ) (i : ℕ) : Type 0 where
  pub rest : Rest
  pub at : At rest w i

-- the words below n are as they were; words from n on are left open
pub record Kept (n : ℕ) (w w' : List ℕ) : Type 0 where
  pub len : length w' ≡ length w
  pub below : (k : ℕ) → k < n → get_or w' k 0 ≡ get_or w k 0

-- n words from `from` on stand at `to` too; no word is left open
pub record Copied («from» to n : ℕ) (w w' : List ℕ) : Type 0 where
  pub kept : Kept to w w'
  pub copied : (k : ℕ) → k < n → get_or w' (to + k) 0 ≡ get_or w («from» + k) 0
  pub above : (k : ℕ) → to + n ≤ k → get_or w' k 0 ≡ get_or w k 0

-- the node at i was written, and nothing else
pub record Put (i tag number n : ℕ) (w w' : List ℕ) : Type 0 where
  pub len : length w' ≡ length w
  pub tag_is : get_or w' i 0 ≡ tag
  pub record_is : get_or w' (i + 1) 0 ≡ number
  pub size_is : get_or w' (i + 2) 0 ≡ n
  pub below : (k : ℕ) → k < i → get_or w' k 0 ≡ get_or w k 0
  pub above : (k : ℕ) → i + 3 ≤ k → get_or w' k 0 ≡ get_or w k 0

-- there is room for n nodes from i on, and their numbers fit a word
pub record Room (w : List ℕ) (i n : ℕ) : Type 0 where
  pub inside : i + 3 * n ≤ length w
  pub small : length w < 2 ^ 32

-- there is room for a construct of the n nodes and a leaf of record q
pub record CanPutLeaf (to tag n q : ℕ) (w : List ℕ) : Type 0 where
  pub room : Room w to (n + 2)
  pub three : 3 ≤ tag
  pub fits : q < 2 ^ 32

-- there is room for a construct of n nodes and a copy of the m nodes at `from`, which stand below it
pub record CanPutCopy («from» to tag n m : ℕ) (w : List ℕ) : Type 0 where
  pub room : Room w to (1 + n + m)
  pub three : 3 ≤ tag
  pub below : «from» + 3 * m ≤ to

-- the construct of the n nodes that stand after it and, at their right, a leaf of record q; words from `to` on are left open but for what
-- stands there by `at`; so in the next three
pub record LeafRight (to tag n q : ℕ) (w w' : List ℕ) : Type 0 where
  pub kept : Kept to w w'
  pub at : (g : Rest) → At g w (to + 3) → nodes g ≡ n → At (node tag g (leaf q)) w' to

-- of the n nodes that stand six words on and, at their left, a leaf of record q
pub record LeafLeft (to tag n q : ℕ) (w w' : List ℕ) : Type 0 where
  pub kept : Kept to w w'
  pub at : (g : Rest) → At g w (to + 6) → nodes g ≡ n → At (node tag (leaf q) g) w' to

-- of the n nodes that stand after it and, at their right, a copy of the m nodes at `from`
pub record CopyRight («from» to tag n m : ℕ) (w w' : List ℕ) : Type 0 where
  pub kept : Kept to w w'
  pub at : (l r : Rest) → At l w (to + 3) → nodes l ≡ n → At r w «from» → nodes r ≡ m → At (node tag l r) w' to

-- of the m nodes that stand after where the copy ends and, at their left, a copy of the n nodes at `from`
pub record CopyLeft («from» to tag n m : ℕ) (w w' : List ℕ) : Type 0 where
  pub kept : Kept to w w'
  pub at : (l r : Rest) → At l w «from» → nodes l ≡ n → At r w (to + 3 + 3 * n) → nodes r ≡ m → At (node tag l r) w' to
