-- To be believed: the fluents that formulas, actions and a table of formulas name (document 02, F-5), each as a set of numbers and as a
-- 32-bit number, bit x for fluent x; what a formula names, kind by kind, is in kinds/specs/Names.antt. Assumes nothing.
use Rattle.std.specs.Prelude.{ℕ, Bool, false, ◌||◌, List}
use Rattle.records.specs.declared.Formula.{Formula}
use Rattle.records.specs.declared.Effect.{Effect}
use Rattle.records.specs.declared.Action.{Action}
use Rattle.records.specs.Table.{entry_of}
use Rattle.records.specs.Some.{some_from}
use Rattle.records.specs.Mask.{mask_of}
use Rattle.kinds.specs.Names.{names_of}

-- formula i names fluent x, given which of the lower ones do
abbrev pub names_at : (formula : ℕ → Formula) (x i : ℕ) → (lower : List Bool) → Bool
names_at formula x i lower = names_of (formula i) x lower

-- formula q names fluent x: "the fluents its formula names, through all its subformulas"
unfoldable pub names : (formula : ℕ → Formula) (q x : ℕ) → Bool
names formula q x = entry_of false (names_at formula x) q

-- of the k effects from number i on, a condition names fluent x, whether it holds or not
unfoldable pub conditions_name : (formula : ℕ → Formula) (effect : ℕ → Effect) (i k x : ℕ) → Bool
conditions_name formula effect i k x = some_from (λ (e : ℕ). names formula (effect e).condition x) i k

-- "a possible-check returns the union for its precondition and its effects' conditions"
unfoldable pub action_names : (formula : ℕ → Formula) (effect : ℕ → Effect) → Action → (x : ℕ) → Bool
action_names formula effect r x = names formula r.precondition x || conditions_name formula effect r.first r.count x

-- "the union over its formula table", of the first n formulas
unfoldable pub table_names : (formula : ℕ → Formula) (n x : ℕ) → Bool
table_names formula n x = some_from (λ (q : ℕ). names formula q x) 0 n

-- "a 32-bit set (bit x for fluent x)"
abbrev pub formula_set : (formula : ℕ → Formula) (q : ℕ) → ℕ
formula_set formula q = mask_of (names formula q) 32

abbrev pub conditions_set : (formula : ℕ → Formula) (effect : ℕ → Effect) (i k : ℕ) → ℕ
conditions_set formula effect i k = mask_of (conditions_name formula effect i k) 32

abbrev pub action_set : (formula : ℕ → Formula) (effect : ℕ → Effect) → Action → ℕ
action_set formula effect r = mask_of (action_names formula effect r) 32

abbrev pub table_set : (formula : ℕ → Formula) (n : ℕ) → ℕ
table_set formula n = mask_of (table_names formula n) 32
