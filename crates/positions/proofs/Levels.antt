-- The digits of a record are those of its parts, or one more: so they never rise along links, not along transitions, and are no more than
-- the height. Assumes nothing.
use mathlib.Core.Path.{◌≡◌, refl, sym, ◌∙◌, ap, ap₂, subst}
use mathlib.Core.Bool.{Bool, true, false, cond}
use mathlib.Core.List.Memᴰ
use mathlib.Core.List.{List, [], ◌∷◌, ◌++◌, Memᴰ}
use mathlib.Core.Logic.{⊎_elim}
use Prim.Native.Nat.{ℕ, zero, suc, ◌+◌, ◌-◌, ◌^◌, ◌≤◌, ◌<◌, max}
use native.Mathlib.Omega.{arith}
use lib.Dec.{T, eqb}
use lib.ListN.{get_or, set, get_or-eq_default}
use Rattle.records.specs.declared.Program.{Program}
use Rattle.records.specs.Table.{up_to, entry_of}
use Rattle.records.proofs.Fills.{default_at, length_up, Filled, at, more, up_at, entry_is}
use Rattle.records.specs.Placeholders.{reading, read_in, environment_of, put_in}
use Rattle.records.proofs.Placeholders.{environment_small, read_in_lem, put_record}
use Rattle.kinds.specs.Programs.{field_a, field_b, has_a, has_b, picks, links}
use Rattle.kinds.proofs.ProgramKinds.{by_kind, record_of}
use Rattle.kinds.proofs.ProgramFields.{links_exactly, link_a, link_b}
use Rattle.height.specs.Height.{rise}
use Rattle.height.proofs.Paths.{rise_less}
use Rattle.golog.specs.declared.State.{State}
use Rattle.golog.specs.World.{World}
use Rattle.golog.specs.Written.{span_of, written_records}
use Rattle.remaining.specs.Extended.{empty, virtual, extended, top}
use Rattle.remaining.specs.Rest.{Rest, largest}
use Rattle.remaining.specs.Leaves.{RestTransition, rest_transitions}
use Rattle.remaining.proofs.Nodes.{step_largest}
use Rattle.remaining.proofs.Started.{table_above, rise_below}
use Rattle.remaining.proofs.Written.{picks_b, read_kind, read_b, read_links, written_lower}
use Rattle.positions.specs.Spots.{digits_by}
use Rattle.positions.specs.Levels.{digits_over, digits_at, digits_of}
use Rattle.positions.specs.Rising.{Spread}
use Rattle.positions.proofs.From.{lt_or_ge}

at_most_one : (b : Bool) → (cond b 1 0 ≤ 1) × (cond b 0 1 ≤ 1)
at_most_one true = (omega arith, omega arith)
at_most_one false = (omega arith, omega arith)

-- those of a part are no more; and where the parts have fewer than h, there are at most h
module _ (endable : Bool) (span da db : ℕ) where
  abbrev by : ℕ → ℕ
  by kind = digits_by (record_of kind 0 0 0) endable span da db

  part_a : (kind : ℕ) → T (has_a kind) → da ≤ by kind
  unfolding field_a
  part_a =
      by_kind (λ (k : ℕ). T (has_a k) → da ≤ by k)
      (λ t. absurd t) (λ t. absurd t) (λ t. absurd t) (λ t. omega arith) (λ t. omega arith) (λ t. omega arith) (λ t. omega arith) (λ t. omega arith)
      (λ t. omega arith) (λ t. omega arith) (λ t. omega arith) (λ t. omega arith) (λ t. absurd t) (λ k t. absurd t)

  part_b : (kind : ℕ) → T (has_b kind) → db ≤ by kind
  unfolding field_b
  part_b =
      by_kind (λ (k : ℕ). T (has_b k) → db ≤ by k)
      (λ t. absurd t) (λ t. absurd t) (λ t. absurd t) (λ t. omega arith) (λ t. omega arith) (λ t. absurd t) (λ t. omega arith) (λ t. absurd t)
      (λ t. omega arith) (λ t. omega arith) (λ t. absurd t) (λ t. absurd t) (λ t. omega arith) (λ k t. absurd t)

  over_parts : (h kind : ℕ) → (T (has_a kind) → da < h) → (T (has_b kind) → db < h) → by kind ≤ h
  unfolding field_a field_b
  over_parts h =
      by_kind (λ (k : ℕ). (T (has_a k) → da < h) → (T (has_b k) → db < h) → by k ≤ h)
      (λ a b. omega arith) (λ a b. omega arith) (λ a b. omega arith)
      (λ a b. omega (arith, a tt, b tt, (at_most_one endable).0))
      (λ a b. omega (arith, a tt, b tt))
      (λ a b. omega (arith, a tt))
      (λ a b. omega (arith, a tt, b tt))
      (λ a b. omega (arith, a tt))
      (λ a b. omega (arith, a tt, b tt))
      (λ a b. omega (arith, a tt, b tt))
      (λ a b. omega (arith, a tt))
      (λ a b. omega (arith, a tt))
      (λ a b. omega (arith, b tt, (at_most_one (eqb span 1)).1))
      (λ k a b. omega arith)

-- a kind reads the parts that it has, and the number of values where it chooses one
digits_reads :
    (endable : Bool) (kind : ℕ) {span n da ea db eb : ℕ} → (T (picks kind) → span ≡ n) → (T (has_a kind) → da ≡ ea) → (T (has_b kind) → db ≡ eb)
    → digits_by (record_of kind 0 0 0) endable span da db ≡ digits_by (record_of kind 0 0 0) endable n ea eb
unfolding field_a field_b
digits_reads endable kind {span} {n} {da} {ea} {db} {eb} =
    by_kind
    (λ (k : ℕ). (T (picks k) → span ≡ n) → (T (has_a k) → da ≡ ea) → (T (has_b k) → db ≡ eb)
    → digits_by (record_of k 0 0 0) endable span da db ≡ digits_by (record_of k 0 0 0) endable n ea eb)
    (λ c a b. refl) (λ c a b. refl) (λ c a b. refl)
    (λ c a b. ap₂ (λ (x y : ℕ). max x y + cond endable 1 0) (a tt) (b tt))
    (λ c a b. ap₂ (λ (x y : ℕ). max x y + 1) (a tt) (b tt))
    (λ c a b. a tt)
    (λ c a b. ap₂ max (a tt) (b tt))
    (λ c a b. a tt)
    (λ c a b. ap₂ (λ (x y : ℕ). max x y + 1) (a tt) (b tt))
    (λ c a b. ap₂ max (a tt) (b tt))
    (λ c a b. a tt) (λ c a b. a tt)
    (λ c a b. ap₂ (λ (x y : ℕ). y + cond (eqb x 1) 0 1) (c tt) (b tt))
    (λ k c a b. refl) kind

-- a record reads the lower ones through their digits alone
digits_same : (r : Program) (endable : Bool) (span : ℕ) (l m : List ℕ) → ((a : ℕ) → get_or l a 0 ≡ get_or m a 0) → digits_over r endable span l ≡ digits_over r endable span m
digits_same r endable span l m h = ap₂ (λ (x y : ℕ). digits_by r endable span x y) (h r.a) (h r.b)

snoc_few : (l : List ℕ) (x n a : ℕ) → ((a : ℕ) → get_or l a 0 ≤ n) → x ≤ n → get_or (l ++ (x ∷ [])) a 0 ≤ n
snoc_few [] x n zero h k = k
snoc_few [] x n (suc a) h k = omega arith
snoc_few (y ∷ l) x n zero h k = h 0
snoc_few (y ∷ l) x n (suc a) h k = snoc_few l x n a (λ a. h (suc a)) k

-- none of the first n has more than n
up_few : (p : ℕ → Program) (endable : List Bool) (spans : List ℕ) (n a : ℕ) → get_or (up_to (digits_at p endable spans) n) a 0 ≤ n
unfolding up_to
up_few p endable spans zero a = omega arith
up_few p endable spans (suc n) a =
    let few = up_few p endable spans n in
    snoc_few (up_to (digits_at p endable spans) n) _ (suc n) a (λ a. omega (arith, few a))
    (over_parts (get_or endable (p n).a true) (get_or spans n 1) _ _ (suc n) (p n).kind (λ t. omega (arith, few (p n).a)) (λ t. omega (arith, few (p n).b)))

-- a table that is filled upwards: it stays small, and the next entry is made of it
module _ (p : ℕ → Program) (endable : List Bool) (spans : List ℕ) {xs : List ℕ} {i : ℕ} (b : Filled 0 (digits_at p endable spans) (λ (d : ℕ). d) 260 xs i) where
  pub filled_few : i ≤ 260 → (a : ℕ) → get_or xs a 0 < 2 ^ 31
  filled_few l a = omega (arith, at 0 (digits_at p endable spans) (λ (d : ℕ). d) 260 b a, up_few p endable spans i a)

  pub filled_more :
      {r : Program} {ends : Bool} {span d : ℕ} → i < 260 → r ≡ p i → ends ≡ get_or endable r.a true → span ≡ get_or spans i 1 → d ≡ digits_over r ends span xs
      → Filled 0 (digits_at p endable spans) (λ (d : ℕ). d) 260 (set xs i d) (i + 1)
  filled_more {r} l e f g h =
      more 0 (digits_at p endable spans) (λ (d : ℕ). d) 260 b l
      (h
      ∙ ap₂ (λ (x : Bool) (y : ℕ). digits_over r x y xs) f g
      ∙ digits_same r (get_or endable r.a true) (get_or spans i 1) xs (up_to (digits_at p endable spans) i) (at 0 (digits_at p endable spans) (λ (d : ℕ). d) 260 b)
      ∙ ap (λ (q : Program). digits_over q (get_or endable q.a true) (get_or spans i 1) (up_to (digits_at p endable spans) i)) e)

module _ (p : ℕ → Program) (endable : ℕ → Bool) (digits : ℕ → ℕ) (S : Spread p endable digits) where
  -- digits never rise along links
  pub digits_linked : (i a : ℕ) → Memᴰ a (links (p i)) → digits a ≤ digits i
  digits_linked i a k =
      let same = S.each i in
      ⊎_elim
      (λ (t, e). omega (arith, ap digits e, part_a (endable (p i).a) (span_of p i) (digits (p i).a) (digits (p i).b) (p i).kind t))
      (λ (t, e). omega (arith, ap digits e, part_b (endable (p i).a) (span_of p i) (digits (p i).a) (digits (p i).b) (p i).kind t))
      ((links_exactly (p i) a).0 k)

  -- there are no more than the height
  pub digits_height : (i : ℕ) → digits i ≤ rise p i
  digits_height i = go (suc i) i (omega arith)
    where
      less : (i a : ℕ) → Memᴰ a (links (p i)) → rise p a < rise p i
      less i a k = rise_less p (suc i) (λ j b l. S.linked j b) i a (omega arith) k

      go : (n i : ℕ) → i < n → digits i ≤ rise p i
      go zero i l = absurd (omega arith)
      go (suc n) i l =
          let part : (a : ℕ) → Memᴰ a (links (p i)) → digits a < rise p i
          = λ a k. omega (arith, go n a (omega (arith, S.linked i a k)), less i a k) in
          omega (
            arith,
            S.each i,
            over_parts (endable (p i).a) (span_of p i) (digits (p i).a) (digits (p i).b) (rise p i) (p i).kind (λ t. part (p i).a (link_a (p i) t)) (λ t. part (p i).b (link_b (p i) t)),
          )

  -- so a transition of a remaining program leaves no record of more digits
  pub step_digits :
      (W : World) (s : State) (g : Rest) (x : RestTransition) → Memᴰ x (rest_transitions W s (written_records p) g)
      → largest (λ (j : ℕ). digits (read_in j)) x.1 ≤ largest (λ (j : ℕ). digits (read_in j)) g
  step_digits W s = step_largest W s (written_records p) (written_lower p S.linked) (λ (j : ℕ). digits (read_in j)) ranked chosen_ranked
    where
      ranked : (j a : ℕ) → Memᴰ a (links (written_records p j)) → digits (read_in a) ≤ digits (read_in j)
      ranked j a k =
          let i : ℕ = read_in j in
          let e : ℕ = environment_of j in
          let m = Memᴰ.of_map (λ (b : ℕ). reading b e) (links (p i)) (subst (Memᴰ a) (read_links e (span_of p i) (p i)) k) in
          let same : read_in a ≡ m.0 = ap read_in (sym m.2) ∙ read_in_lem e (environment_small j) m.0 in
          omega (arith, ap digits same, digits_linked i m.0 m.1)

      chosen_ranked : (j v : ℕ) → T (picks (written_records p j).kind) → digits (read_in (put_in (written_records p j).b (written_records p j).c v)) ≤ digits (read_in j)
      chosen_ranked j v t =
          let i : ℕ = read_in j in
          let e : ℕ = environment_of j in
          let u : T (picks (p i).kind) = subst (λ (k : ℕ). T (picks k)) (read_kind e (span_of p i) (p i)) t in
          let h : T (has_b (p i).kind) = picks_b (p i).kind u in
          let same = put_record (written_records p j).b (written_records p j).c v
          ∙ ap read_in (read_b e (span_of p i) (p i) h)
          ∙ read_in_lem e (environment_small j) (p i).b in
          omega (arith, ap digits same, digits_linked i (p i).b (link_b (p i) h))

-- the table made once has the digits of the table that runs: `spans` has how many values each choice lists, and behind the m records stands nil
module _ (p : ℕ → Program) (m : ℕ) (endable : List Bool) (spans : List ℕ) where
  digits_in : ℕ → ℕ
  digits_in i = get_or (digits_of p m endable spans) i 0

  in_up : (i : ℕ) → i < m → digits_in i ≡ entry_of 0 (digits_at p endable spans) i
  unfolding digits_in digits_of
  in_up i l = default_at 0 (up_to (digits_at p endable spans) m) (260 - m) i ∙ up_at 0 (digits_at p endable spans) m i l

  past_up : (i : ℕ) → m ≤ i → digits_in i ≡ 0
  unfolding digits_in digits_of
  past_up i l = default_at 0 (up_to (digits_at p endable spans) m) (260 - m) i ∙ get_or-eq_default (up_to (digits_at p endable spans) m) 0 (rw length_up l)

  pub digits_spread :
      ((i a : ℕ) → Memᴰ a (links (p i)) → a < i) → ((i : ℕ) → T (picks (p i).kind) → span_of p i ≤ 16)
      → ((i : ℕ) → T (picks (p i).kind) → get_or spans i 1 ≡ span_of p i) → ((i : ℕ) → m ≤ i → (p i).kind ≡ 0)
      → Spread p (λ (a : ℕ). get_or endable a true) (λ (i : ℕ). get_or (digits_of p m endable spans) i 0)
  unfolding digits_in
  digits_spread low few are nil = record { linked = low; few = few; each = λ i. ⊎_elim (inside i) (outside i) (lt_or_ge i m) }
    where
      inside : (i : ℕ) → i < m → digits_in i ≡ digits_by (p i) (get_or endable (p i).a true) (span_of p i) (digits_in (p i).a) (digits_in (p i).b)
      inside i l =
          let same : (a : ℕ) → a < i → get_or (up_to (digits_at p endable spans) i) a 0 ≡ digits_in a
          = λ a k. up_at 0 (digits_at p endable spans) i a k ∙ sym (in_up a (omega arith)) in
          in_up i l
          ∙ entry_is 0 (digits_at p endable spans) i
          ∙ digits_reads (get_or endable (p i).a true) (p i).kind (are i) (λ t. same (p i).a (low i (p i).a (link_a (p i) t)))
          (λ t. same (p i).b (low i (p i).b (link_b (p i) t)))

      outside : (i : ℕ) → m ≤ i → digits_in i ≡ digits_by (p i) (get_or endable (p i).a true) (span_of p i) (digits_in (p i).a) (digits_in (p i).b)
      outside i l = past_up i l ∙ sym (ap (λ (k : ℕ). digits_by (record_of k 0 0 0) (get_or endable (p i).a true) (span_of p i) (digits_in (p i).a) (digits_in (p i).b)) (nil i l))

-- what runs has no more digits than the height of the root, which document 01 bounds by 16: start is never final, and stop goes only where the
-- root does not
module _ (p : ℕ → Program) (n : ℕ) (endable : ℕ → Bool) (digits : ℕ → ℕ) (some_record : 1 ≤ n) (starts : endable n ≡ false) where
  above_digits :
      (b : Bool) (S : Spread (extended b p n) endable digits) (k : ℕ) → let r = get_or (virtual b n) k empty in
      digits (n + k) ≡ digits_by r (endable r.a) (span_of (extended b p n) (n + k)) (digits r.a) (digits r.b)
  above_digits b S k =
      S.each (n + k) ∙ ap (λ (r : Program). digits_by r (endable r.a) (span_of (extended b p n) (n + k)) (digits r.a) (digits r.b)) (table_above b p n k)

  pub top_digits : (b : Bool) → Spread (extended b p n) endable digits → digits (top b n) ≤ rise p (n - 1)
  top_digits false S = omega (arith, digits_height (extended false p n) endable digits S (n - 1), rise_below false p n (n - 1) (omega arith))
  top_digits true S =
      let first : digits (n + 0) ≡ 0 = above_digits true S 0 in
      let same : digits (n + 0) ≡ digits n = ap digits (omega arith) in
      let second : digits (n + 1) ≡ 0 = above_digits true S 1 in
      let third : digits (n + 2) ≡ max (digits (n - 1)) (digits (n + 1)) = above_digits true S 2 in
      let last : digits (n + 3) ≡ max (digits n) (digits (n + 2)) + 0 = above_digits true S 3 ∙ ap (λ (b : Bool). max (digits n) (digits (n + 2)) + cond b 1 0) starts in
      omega (arith, digits_height (extended true p n) endable digits S (n - 1), rise_below true p n (n - 1) (omega arith))
