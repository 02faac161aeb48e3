-- Positions rise: where two parts, or several values, may go, they stand apart by more than the positions of each. So they do in a
-- remaining program, where those of each record stand from its node's place on. Assumes nothing.
use mathlib.Core.Path.{◌≡◌, refl, sym, ◌∙◌, ap, subst}
use mathlib.Core.Bool.{Bool, true, false, not, cond, ◌&&◌, false≢true}
use mathlib.Core.List.{List, [], ◌∷◌, ◌++◌, map}
use Prim.Native.Nat.{ℕ, zero, suc, ◌+◌, ◌*◌, ◌^◌, ◌≤◌, ◌<◌, max}
use native.Mathlib.Nat.{pow-succ', pow-le-pow_right, mul-le-mul_right, add-mul, one-mul, zero-mul}
use native.Mathlib.Omega.{arith}
use borrow.Author.Tests.{eqb-true}
use lib.Dec.{T, eqb}
use Rattle.records.specs.declared.Program.{Program}
use Rattle.records.specs.Placeholders.{read_in, environment_of, put_in}
use Rattle.records.proofs.Placeholders.{environment_small, read_in_lem, put_record}
use Rattle.kinds.specs.Programs.{field_a, field_b, has_a, has_b, picks, uses_a, uses_b}
use Rattle.kinds.proofs.ProgramKinds.{by_kind, record_of}
use Rattle.golog.specs.declared.State.{State}
use Rattle.golog.specs.World.{World, holds, possible}
use Rattle.golog.specs.Written.{span_of, written_records}
use Rattle.golog.specs.Transitions.{is_none, lists_from}
use Rattle.runs.specs.Guide.{only}
use Rattle.remaining.specs.Rest.{Rest, gone, leaf, node, nodes, largest, AllLower}
use Rattle.remaining.specs.Leaves.{RestTransition, leaf_of, goes_right, wrap_right, rest_final, rest_transitions}
use Rattle.remaining.proofs.Entries.{lower_a, lower_b}
use Rattle.remaining.proofs.Written.{read_kind, read_a, read_b, read_pick, picks_b, written_lower}
use Rattle.positions.specs.Spots.{digits_by, Spot, moved, apart, spots_with, spots_picked, spots_of, rest_spots}
use Rattle.positions.specs.Rising.{Rising, nobody, then, Spread, Endable}
use Rattle.positions.proofs.Listed.{spots_plain, spots_pick}

-- wider bounds
pub rising_wider : {lo hi lo' hi' : ℕ} {xs : List Spot} → lo' ≤ lo → hi ≤ hi' → Rising lo hi xs → Rising lo' hi' xs
rising_wider l h nobody = nobody
rising_wider {lo' = lo'} {hi' = hi'} l h (then {x = x} a b r) = then {lo = lo'} {hi = hi'} {x = x} (omega arith) (omega arith) (rising_wider (omega arith) h r)

pub rising_append : {lo mid hi : ℕ} {xs ys : List Spot} → lo ≤ mid → mid ≤ hi → Rising lo mid xs → Rising mid hi ys → Rising lo hi (xs ++ ys)
rising_append l h nobody q = rising_wider l (omega arith) q
rising_append {hi = hi} l h (then {lo = lo} {x = x} a b r) q = then {lo = lo} {hi = hi} {x = x} a (omega arith) (rising_append (omega arith) h r q)

pub rising_moved : {lo hi : ℕ} {xs : List Spot} (by : ℕ) (f : Rest → Rest) → Rising lo hi xs → Rising (by + lo) (by + hi) (map (moved by f) xs)
rising_moved by f nobody = nobody
rising_moved by f (then {lo = lo} {hi = hi} {x = x} a b r) = then {lo = by + lo} {hi = by + hi} {x = moved by f x} (omega arith) (omega arith)
    (rising_wider (omega arith) (omega arith) (rising_moved by f r))

pub rising_only : {lo hi : ℕ} {xs : List Spot} (b : Bool) → (T b → Rising lo hi xs) → Rising lo hi (only b xs)
rising_only true r = r tt
rising_only false r = nobody

-- lists of one size, each further on by that size
pub rising_lists :
    (size : ℕ) (F : ℕ → List Spot) → ((v : ℕ) → Rising 0 size (F v)) → (k i : ℕ)
    → Rising (i * size) ((i + k) * size) (lists_from (λ (v : ℕ). map (moved (v * size) (λ (g : Rest). g)) (F v)) i k)
unfolding lists_from
rising_lists size F h zero i = nobody
rising_lists size F h (suc k) i =
    let next : (i + 1) * size ≡ i * size + size = add-mul i 1 size ∙ ap (λ (n : ℕ). i * size + n) (one-mul size) in
    let same : suc i * size ≡ (i + 1) * size = ap (λ (n : ℕ). n * size) (omega arith) in
    let most : suc i * size ≤ (suc i + k) * size = mul-le-mul_right size (omega arith) in
    let all : (suc i + k) * size ≡ (i + suc k) * size = ap (λ (n : ℕ). n * size) (omega arith) in
    rising_append {mid = suc i * size} (omega arith) (omega arith)
    (rising_wider (omega arith) (omega arith) (rising_moved (i * size) (λ (g : Rest). g) (h i)))
    (rising_wider (omega arith) (omega arith) (rising_lists size F h k (suc i)))

-- one part; or two, the second further on by more than the first has
grown : {m n : ℕ} → m ≤ n → 16 ^ m ≤ 16 ^ n
grown l = pow-le-pow_right (omega arith) l

one_part : {xs : List Spot} (f : Rest → Rest) (m n : ℕ) → m ≤ n → Rising 0 (16 ^ m) xs → Rising 0 (16 ^ n) (map (moved 0 f) xs)
one_part f m n l r = rising_wider (omega arith) (omega (arith, grown l)) (rising_moved 0 f r)

two_parts :
    {xs ys : List Spot} (f g : Rest → Rest) (da db m d : ℕ) → da ≤ m → db ≤ m → d ≡ suc m → Rising 0 (16 ^ da) xs → Rising 0 (16 ^ db) ys
    → Rising 0 (16 ^ d) (map (moved 0 f) xs ++ map (moved (apart d) g) ys)
two_parts f g da db m d la lb e p q =
    let z : apart d ≡ 16 ^ m = ap (λ (n : ℕ). 16 ^ n) (omega arith) in
    let n : 16 ^ d ≡ 16 * 16 ^ m = ap (λ (n : ℕ). 16 ^ n) e ∙ pow-succ' 16 m in
    let x : 16 ^ da ≤ 16 ^ m = grown la in
    let y : 16 ^ db ≤ 16 ^ m = grown lb in
    rising_append {mid = 16 ^ m} (omega arith) (omega arith) (rising_wider (omega arith) (omega arith) (rising_moved 0 f p))
    (rising_wider (omega arith) (omega arith) (rising_moved (apart d) g q))

-- a record that chooses no value, where the positions of the parts that its kind has rise
module _ (W : World) (s : State) (j a b c : ℕ) (fa endable : Bool) (As Bs : List Spot) (span da db d : ℕ) where
  abbrev Kept : ℕ → Type 0
  Kept kind =
      picks kind ≡ false → (T (has_a kind) → fa ≡ true → endable ≡ true) → (T (has_a kind) → Rising 0 (16 ^ da) As) → (T (has_b kind) → Rising 0 (16 ^ db) Bs)
      → d ≡ digits_by (record_of kind a b c) endable span da db → Rising 0 (16 ^ d) (spots_with W s (record_of kind a b c) j d fa As Bs)

  own : (p : Bool) (x : RestTransition) → Rising 0 (16 ^ d) (only p ((0, x) ∷ []) ++ [])
  own true x = then {lo = 0} {hi = 16 ^ d} {x = (0, x)} (omega arith) (grown {m = 0} {n = d} (omega arith)) nobody
  own false x = nobody

  -- one of two parts goes, or the first alone
  first : (p : Bool) (f : Rest → Rest) → da ≤ d → Rising 0 (16 ^ da) As → Rising 0 (16 ^ d) (map (moved 0 f) (only p As) ++ [])
  first p f l r = rising_append {mid = 16 ^ d} (omega arith) (omega arith) (one_part f da d l (rising_only p (λ t. r))) nobody

  either :
      (p q : Bool) (f g : Rest → Rest) → (p ≡ true → q ≡ true → ⊥) → da ≤ d → db ≤ d → Rising 0 (16 ^ da) As → Rising 0 (16 ^ db) Bs
      → Rising 0 (16 ^ d) (map (moved 0 f) (only p As) ++ map (moved 0 g) (only q Bs))
  either true true f g n l m r q = absurd (n refl refl)
  either true false f g n l m r q = first true f l r
  either false q f g n l m r t = one_part g db d m (rising_only q (λ u. t))

  -- the second part goes only where the first is final
  then_second :
      (fa : Bool) → (fa ≡ true → endable ≡ true) → (f g : Rest → Rest) → d ≡ max da db + cond endable 1 0 → Rising 0 (16 ^ da) As → Rising 0 (16 ^ db) Bs
      → Rising 0 (16 ^ d) (map (moved 0 f) As ++ map (moved (apart d) g) (only fa Bs))
  then_second true h f g e r q =
      two_parts f g da db (max da db) d (omega arith) (omega arith) (e ∙ ap (λ (x : Bool). max da db + cond x 1 0) (h refl) ∙ (omega arith)) r q
  then_second false h f g e r q = first true f (omega arith) r

  -- it goes only where the first has none
  over :
      (As : List Spot) (f g : Rest → Rest) → da ≤ d → db ≤ d → Rising 0 (16 ^ da) As → Rising 0 (16 ^ db) Bs
      → Rising 0 (16 ^ d) (map (moved 0 f) As ++ map (moved 0 g) (only (is_none As) Bs))
  over [] f g l m r q = one_part g db d m q
  over (x ∷ xs) f g l m r q = rising_append {mid = 16 ^ d} (omega arith) (omega arith) (one_part f da d l r) nobody

  with_rising : (kind : ℕ) → Kept kind
  unfolding spots_with field_a field_b uses_a uses_b
  with_rising =
      by_kind Kept
      (λ z n h k e. nobody)
      (λ z n h k e. own (possible W a s) _)
      (λ z n h k e. own (holds W a s) _)
      (λ z n h k e. then_second fa (n tt) _ _ e (h tt) (k tt))
      (λ z n h k e. two_parts _ _ da db (max da db) d (omega arith) (omega arith) (omega arith) (h tt) (k tt))
      (λ z n h k e. first true _ (omega arith) (h tt))
      (λ z n h k e. either (holds W c s) (not (holds W c s)) _ _ (λ p q. false≢true (sym (ap not p) ∙ q)) (omega arith) (omega arith) (h tt) (k tt))
      (λ z n h k e. first (holds W c s) _ (omega arith) (h tt))
      (λ z n h k e. two_parts _ _ da db (max da db) d (omega arith) (omega arith) (omega arith) (h tt) (k tt))
      (λ z n h k e. over As _ _ (omega arith) (omega arith) (h tt) (k tt))
      (λ z n h k e. first true _ (omega arith) (h tt))
      (λ z n h k e. first (s.running && holds W c s) _ (omega arith) (h tt))
      (λ z. absurd (false≢true (sym z)))
      (λ k z n h m e. nobody)

-- one that chooses one of n values
pick_rising :
    (d n db : ℕ) (F : ℕ → List Spot) → n ≤ 16 → d ≡ db + cond (eqb n 1) 0 1 → ((v : ℕ) → Rising 0 (16 ^ db) (F v)) → Rising 0 (16 ^ d) (spots_picked d n F)
unfolding spots_picked lists_from
pick_rising d n db F few e h = go (eqb n 1) refl
  where
    go : (b : Bool) → eqb n 1 ≡ b → Rising 0 (16 ^ d) (lists_from (λ (v : ℕ). map (moved (v * apart d) (λ (g : Rest). g)) (F v)) 0 n)
    go true q =
        let alone : n ≡ 1 = eqb-true n 1 q in
        let same : d ≡ db = e ∙ ap (λ (b : Bool). db + cond b 0 1) q ∙ omega arith in
        let r : Rising 0 (16 ^ d) (map (moved 0 (λ (g : Rest). g)) (F 0)) = one_part (λ (g : Rest). g) db d (omega arith) (h 0) in
        rw (alone, zero-mul) (rising_append {mid = 16 ^ d} (omega arith) (omega arith) r nobody)
    go false q =
        let m : d ≡ suc db = e ∙ ap (λ (b : Bool). db + cond b 0 1) q ∙ omega arith in
        let size : apart d ≡ 16 ^ db = ap (λ (n : ℕ). 16 ^ n) (omega arith) in
        let all : 16 ^ d ≡ 16 * 16 ^ db = ap (λ (n : ℕ). 16 ^ n) m ∙ pow-succ' 16 db in
        let most : (0 + n) * apart d ≤ 16 * apart d = mul-le-mul_right (apart d) (omega arith) in
        let full : 16 * apart d ≡ 16 * 16 ^ db = ap (λ (n : ℕ). 16 * n) size in
        rising_wider (omega arith) (omega arith)
        (rising_lists (apart d) F (λ v. subst (λ (n : ℕ). Rising 0 n (F v)) (sym size) (h v)) n 0)

-- the digits of a record, by its kind
pub digits_kind : (p : ℕ → Program) (i span da db : ℕ) (endable : Bool) {kind : ℕ} → (p i).kind ≡ kind
    → digits_by (p i) endable span da db ≡ digits_by (record_of kind 0 0 0) endable span da db
digits_kind p i span da db endable e = ap (λ (k : ℕ). digits_by (record_of k 0 0 0) endable span da db) e

module _ (W : World) (s : State) (p : ℕ → Program) (endable : ℕ → Bool) (digits : ℕ → ℕ) (S : Spread p endable digits) (ends : Endable W s p endable) where
  -- a record's positions rise, below 16 to the number of its digits
  pub spots_rise : (j : ℕ) → Rising 0 (16 ^ digits (read_in j)) (spots_of W s (written_records p) digits j)
  spots_rise j = go (suc j) j (omega arith)
    where
      P : ℕ → Program
      P = written_records p

      low : AllLower P
      low = written_lower p S.linked

      Rises : ℕ → Type 0
      Rises j = Rising 0 (16 ^ digits (read_in j)) (spots_of W s P digits j)

      by : (j : ℕ) → ((a : ℕ) → a < j → Rises a) → (b : Bool) → picks (P j).kind ≡ b → Rises j
      by j h true e =
          let i : ℕ = read_in j in
          let d : ℕ = environment_of j in
          let n : ℕ = span_of p i in
          let same = read_kind d n (p i) in
          let k : (p i).kind ≡ 12 = sym same ∙ eqb-true (P j).kind 12 e in
          let t : T (picks (p i).kind) = rw k tt in
          let F : ℕ → List Spot = λ (v : ℕ). spots_of W s P digits (put_in (P j).b (P j).c v) in
          let size : digits i ≡ digits (p i).b + cond (eqb n 1) 0 1 = S.each i ∙ digits_kind p i n (digits (p i).a) (digits (p i).b) (endable (p i).a) k in
          rw (spots_pick W s P digits low j e, (read_pick d n (p i) t).0)
          (pick_rising (digits i) n (digits (p i).b) F (S.few i t) size
          (λ v. subst (λ (m : ℕ). Rising 0 (16 ^ digits m) (F v))
          (put_record (P j).b (P j).c v ∙ ap read_in (read_b d n (p i) (picks_b (p i).kind t)) ∙ read_in_lem d (environment_small j) (p i).b)
          (h (put_in (P j).b (P j).c v) (low.picked j v (rw e tt)).0)))
      by j h false e =
          let i : ℕ = read_in j in
          let d : ℕ = environment_of j in
          let n : ℕ = span_of p i in
          let same = read_kind d n (p i) in
          rw (spots_plain W s P digits low j e)
          (with_rising W s j (P j).a (P j).b (P j).c (leaf_of W s P (P j).a).final (endable (p i).a) (spots_of W s P digits (P j).a) (spots_of W s P digits (P j).b)
          n (digits (p i).a) (digits (p i).b) (digits i) (P j).kind e
          (λ t f. ends (p i).a d (environment_small j) (subst (λ (m : ℕ). (leaf_of W s P m).final ≡ true) (read_a d n (p i) (subst (λ (k : ℕ). T (has_a k)) same t)) f))
          (λ t. subst (λ (m : ℕ). Rising 0 (16 ^ digits m) (spots_of W s P digits (P j).a))
          (ap read_in (read_a d n (p i) (subst (λ (k : ℕ). T (has_a k)) same t)) ∙ read_in_lem d (environment_small j) (p i).a) (h (P j).a (lower_a P low j t)))
          (λ t. subst (λ (m : ℕ). Rising 0 (16 ^ digits m) (spots_of W s P digits (P j).b))
          (ap read_in (read_b d n (p i) (subst (λ (k : ℕ). T (has_b k)) same t)) ∙ read_in_lem d (environment_small j) (p i).b) (h (P j).b (lower_b P low j t)))
          (S.each i ∙ digits_kind p i n (digits (p i).a) (digits (p i).b) (endable (p i).a) (sym same)))

      go : (n j : ℕ) → j < n → Rises j
      go zero j l = absurd (omega arith)
      go (suc n) j l = by j (λ a k. go n a (omega arith)) (picks (P j).kind) refl

  -- those of a remaining program whose records have at most 16 digits rise from the place of its first node on, and end with its last
  pub rest_spots_rise :
      (place : ℕ) (g : Rest) → largest (λ (j : ℕ). digits (read_in j)) g ≤ 16
      → Rising (place * 2 ^ 64) ((place + 3 * nodes g) * 2 ^ 64) (rest_spots W s (written_records p) digits place g)
  unfolding rest_spots largest nodes
  rest_spots_rise place gone l = nobody
  rest_spots_rise place (leaf j) l =
      let few : 16 ^ digits (read_in j) ≤ 16 ^ 16 = grown l in
      let r = rising_moved (place * 2 ^ 64) (λ (g : Rest). g) (spots_rise j) in
      rising_wider (omega arith) (omega arith) r
  rest_spots_rise place (node tag x y) l =
      let m : ℕ = place + 3 + 3 * nodes x in
      let a = rest_spots_rise (place + 3) x (omega arith) in
      let b = rest_spots_rise m y (omega arith) in
      rising_append {mid = m * 2 ^ 64} (omega arith) (omega arith)
      (rising_wider (omega arith) (omega arith) (rising_moved 0 (λ (g : Rest). node tag g y) a))
      (rising_wider (omega arith) (omega arith) (rising_moved 0 (wrap_right tag x)
      (rising_only (goes_right tag (rest_final W s (written_records p) x) (is_none (rest_transitions W s (written_records p) x))) (λ t. b))))
