-- How many transitions a record has: its own, those of a and those of b, each where the columns say so. So the count depends on the fields
-- that its kind has, a cut in the parts is one in the whole, and a record has at most twice as many as a part. Assumes nothing.
use Rattle.std.proofs.lemmas.Grind.{common_steps}
use mathlib.Core.Path.{◌≡◌, refl, sym, ◌∙◌, ap, ap₂}
use mathlib.Core.Bool.{Bool, true, false, not, cond, ◌&&◌}
use mathlib.Core.List.{List}
use Prim.Native.Nat.{ℕ, ◌+◌, ◌≤◌, min}
use native.Mathlib.Omega.{arith}
use lib.Dec.{T, eqb}
use Rattle.records.specs.declared.Program.{Program}
use Rattle.records.proofs.Truth.{part_few}
use Rattle.kinds.specs.Programs.{field_a, has_a, has_b, has_condition, acts, tests, own_of, has_own, uses_a, uses_b, count_of, count_by}
use Rattle.kinds.proofs.ProgramKinds.{by_kind}
use Rattle.kinds.proofs.Reading.{uses_a_lem, uses_b_lem, uses_a_same, uses_b_same, own_same}
use Rattle.kinds.proofs.Constructs.{own_no_first, own_no_second, no_own}

either : (h : Bool) (ca cb : ℕ) → cond h ca cb ≡ cond h ca 0 + cond (not h) cb 0
either h ca cb = grind (arith, common_steps)

-- what the columns add up to
pub count_adds :
    (can passes fa h running : Bool) (ca cb kind : ℕ)
    → count_of kind can passes fa h running ca cb
    ≡ cond (own_of kind can passes) 1 0 + (cond (uses_a kind h running) ca 0 + cond (uses_b kind fa h (eqb ca 0)) cb 0)
unfolding count_of field_a uses_a uses_b
count_adds can passes fa h running ca cb =
    by_kind
    (λ (k : ℕ). count_of k can passes fa h running ca cb ≡ cond (own_of k can passes) 1 0 + (cond (uses_a k h running) ca 0 + cond (uses_b k fa h (eqb ca 0)) cb 0))
    (omega arith) (omega arith) (omega arith) (omega arith) (omega arith) (omega arith) (omega (arith, either h ca cb)) (omega arith)
    (omega arith) (omega arith) (omega arith) (omega arith) (omega arith) (λ k. omega arith)

-- a number, where it counts
pub where_used : (b : Bool) (x y : ℕ) → (T b → x ≡ y) → cond b x 0 ≡ cond b y 0
where_used b x y e = grind (arith, common_steps)

module _ (kind : ℕ) where
  -- a count depends on the fields that the kind has
  pub count_same :
      {can may passes holds fa ga h k : Bool} (running : Bool) {ca da cb db : ℕ}
      → (T (acts kind) → can ≡ may) → (T (tests kind) → passes ≡ holds) → (T (has_condition kind) → h ≡ k)
      → (T (has_a kind) → (fa ≡ ga) × (ca ≡ da)) → (T (has_b kind) → cb ≡ db)
      → count_of kind can passes fa h running ca cb ≡ count_of kind may holds ga k running da db
  count_same {can} {may} {passes} {holds} {fa} {ga} {h} {k} running {ca} {da} {cb} {db} act test con a b =
      let ua : Bool = uses_a kind h running in
      let ub : Bool = uses_b kind fa h (eqb ca 0) in
      let first : cond ua ca 0 ≡ cond (uses_a kind k running) da 0 =
      where_used ua ca da (λ t. (a (uses_a_lem kind h running t)).1) ∙ ap (λ (x : Bool). cond x da 0) (uses_a_same kind running con) in
      let second : cond ub cb 0 ≡ cond (uses_b kind ga k (eqb da 0)) db 0 =
      where_used ub cb db (λ t. b (uses_b_lem kind fa h (eqb ca 0) t))
      ∙ ap (λ (x : Bool). cond x db 0) (uses_b_same kind (λ t. (a t).0) con (λ t. ap (λ (n : ℕ). eqb n 0) (a t).1)) in
      count_adds can passes fa h running ca cb kind
      ∙ ap (λ (x : Bool). cond x 1 0 + (cond ua ca 0 + cond ub cb 0)) (own_same kind act test)
      ∙ ap₂ (λ (x y : ℕ). cond (own_of kind may holds) 1 0 + (x + y)) first second
      ∙ sym (count_adds may holds ga k running da db kind)

-- whether an action is possible is asked where there is one
asked : (b x : Bool) → T b → (b && x) ≡ x
asked b x t = grind (arith, common_steps)

pub count_acts :
    (r : Program) (can : Bool) (truths : List Bool) (running : Bool) (finals : List Bool) (counts : List ℕ)
    → count_by r (acts r.kind && can) truths running finals counts ≡ count_by r can truths running finals counts
unfolding count_by
count_acts r can truths running finals counts =
    count_same r.kind running (asked (acts r.kind) can) (λ t. refl) (λ t. refl) (λ t. (refl, refl)) (λ t. refl)

-- counting up to M, what is cut in the parts is cut in the whole
cut : (M o x y : ℕ) (ua ub : Bool) → min M (o + (cond ua x 0 + cond ub y 0)) ≡ min M (o + (cond ua (min M x) 0 + cond ub (min M y) 0))
cut M o x y ua ub = grind (arith, common_steps)

none_cut : (M n : ℕ) → 1 ≤ M → eqb n 0 ≡ eqb (min M n) 0
none_cut M n l = grind (arith, common_steps)

pub count_capped :
    (M kind : ℕ) (can passes fa h running : Bool) (ca cb : ℕ)
    → 1 ≤ M
    → min M (count_of kind can passes fa h running ca cb) ≡ min M (count_of kind can passes fa h running (min M ca) (min M cb))
count_capped M kind can passes fa h running ca cb l =
    let own : ℕ = cond (own_of kind can passes) 1 0 in
    ap (min M) (count_adds can passes fa h running ca cb kind)
    ∙ ap (λ (idle : Bool). min M (own + (cond (uses_a kind h running) ca 0 + cond (uses_b kind fa h idle) cb 0))) (none_cut M ca l)
    ∙ cut M own ca cb (uses_a kind h running) (uses_b kind fa h (eqb (min M ca) 0))
    ∙ ap (min M) (sym (count_adds can passes fa h running (min M ca) (min M cb) kind))

half : (b : Bool) (x m : ℕ) → (T b → x + x ≤ m) → cond b x 0 + cond b x 0 ≤ m
half b x m h = grind (arith, common_steps)

-- where its parts have at most half of m, a record has at most m
pub count_doubled :
    (m kind : ℕ) (can passes fa h running : Bool) (ca cb : ℕ)
    → 1 ≤ m → (T (has_a kind) → ca + ca ≤ m) → (T (has_b kind) → cb + cb ≤ m)
    → count_of kind can passes fa h running ca cb ≤ m
count_doubled m kind can passes fa h running ca cb l a b = go (has_own kind) refl
  where
    ua : Bool
    ua = uses_a kind h running

    ub : Bool
    ub = uses_b kind fa h (eqb ca 0)

    go : (own : Bool) → has_own kind ≡ own → count_of kind can passes fa h running ca cb ≤ m
    go true e =
        rw (count_adds can passes fa h running ca cb kind)
        (rw (own_no_first kind h running e, own_no_second kind fa h (eqb ca 0) e) (omega (arith, part_few (own_of kind can passes) 1)))
    go false e =
        rw (count_adds can passes fa h running ca cb kind)
        (rw (no_own kind can passes e)
        (omega (arith, half ua ca m (λ t. a (uses_a_lem kind h running t)), half ub cb m (λ t. b (uses_b_lem kind fa h (eqb ca 0) t)))))
