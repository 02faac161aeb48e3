-- What the index says of a configuration is true of it: equal keys are those of equal configurations and labels. What is noted of one is what
-- was explored. A new round leaves what is claimed where nothing is asked, and nothing else. Assumes nothing.
use Prim.Native.Nat.{ℕ, ◌≤◌, ◌<◌}
use native.Mathlib.Omega.{arith}
use mathlib.Core.Bool.{Bool, true, ◌||◌}
use mathlib.Core.List.{List}
use mathlib.Core.Logic.{◌⊎◌, inl, ⊎_elim}
use mathlib.Core.Path.{◌≡◌, refl, sym, ap, ◌∙◌}
use lib.Dec.{T, eqb}
use Rattle.golog.specs.Transitions.{Configuration}
use Rattle.runs.specs.Guide.{Guide, unguided}
use Rattle.runs.specs.Bounded.{join, flagged}
use Rattle.runs.specs.Claims.{serves}
use Rattle.runs.proofs.Claims.{served}
use Rattle.demands.specs.Decoded.{world_of}
use Rattle.demands.specs.Planning.{transitions_in, is_final_in}
use Rattle.index.specs.Content.{round_in, Entry, Says, Tells, Sound, Begun, Notes, Opened}
use Rattle.std.specs.Prelude.{Some}
use Rattle.index.proofs.Keeping.{sound, keeps_nothing, keeps_noted, keeps_found, keeps_opened, keeps_weaker}
use Rattle.keys.specs.Keyed.{Keyed}
use Rattle.keys.proofs.Same.{keyed_same}
use Rattle.explored.specs.Known.{verdict_in, value_of, flag_in, left_in, round_of, ClaimOf, Holds, Known, Lasts, Lasting}

-- the parts of a value
module _ (round left flag : ℕ) (l : left ≤ 64) (f : flag ≤ 2) where
  flag_is : flag_in (value_of round left flag) ≡ flag
  flag_is = omega arith

  left_is : left_in (value_of round left flag) ≡ left
  left_is = omega arith

  round_is : round_of (value_of round left flag) ≡ round
  round_is = omega arith

-- an entry that is found and serves
pub recalled :
    {s w key : List ℕ} {guides : ℕ → Guide} {round label : ℕ} (c : Configuration) (cut : Bool) (left v : ℕ) → Known s guides round w → Keyed s c label key
    → ((es : List Entry) → Says w es → Tells es key (Some v)) → (b : Bool)
    → ((label ≡ 0) ⊎ (round_of v ≡ round)) × (serves cut left (left_in v) (flag_in v) ≡ true) × (b ≡ (cut || eqb (flag_in v) 1))
    → join (flagged cut) (verdict_in s left (c, guides label)) ≡ flagged b
recalled {s} {w} {key} {guides} {round} {label} c cut left v N K T b (r, e, m) =
    served (transitions_in (world_of s)) (is_final_in (world_of s)) (left_in v) (flag_in v) (c, guides label)
    ((keeps_found (Holds s guides round) key w v T N.holds).claims c label K r) cut left e
    ∙ sym (ap flagged m)

-- an entry that is noted
pub noted :
    {s w w' key : List ℕ} {guides : ℕ → Guide} {round label : ℕ} (c : Configuration) (left flag : ℕ) → left ≤ 64 → flag ≤ 2 → Keyed s c label key
    → ClaimOf s left flag (c, guides label) → Notes key (value_of round left flag) w w' → Known s guides round w → Known s guides round w'
noted {s} {w} {w'} {key} {guides} {round} {label} c left flag l f K C N O = record {
  round_is = N.round_is ∙ O.round_is;
  small = O.small;
  holds = keeps_noted (Holds s guides round) key (value_of round left flag) w w' N holds O.holds;
}
  where
    holds : Holds s guides round key (value_of round left flag)
    holds = record {
      by_now = omega (arith, round_is round left flag l f);
      claims = λ c' label' K' r. let e = keyed_same K K' in
          rw (left_is round left flag l f, flag_is round left flag l f, ← e.0, ← e.1) C;
    }

pub known_sound : {s w : List ℕ} {guides : ℕ → Guide} {round : ℕ} → Known s guides round w → Sound w
known_sound {s} {w} {guides} {round} N = sound (Holds s guides round) w N.holds

-- a new index, and a new round of one
pub nothing_noted : (s w : List ℕ) → Begun w → Lasting s w
nothing_noted s w B = keeps_nothing (Lasts s (round_in w)) w B

pub opened : (s w w' : List ℕ) (guides : ℕ → Guide) (round : ℕ) → guides 0 ≡ unguided → Opened w w' round → Lasting s w → Known s guides round w'
opened s w w' guides round e O L = record {
  round_is = O.round_is;
  small = O.small;
  holds = keeps_opened (Lasts s (round_in w)) (Holds s guides round) w w' round O turn L;
}
  where
    turn : round_in w < round → (key : List ℕ) (v : ℕ) → Lasts s (round_in w) key v → Holds s guides round key v
    turn l key v H = record {
      by_now = omega (arith, H.by_now);
      claims = λ c label K. ⊎_elim (λ z. rw (z, e) (H.claims c (rw z at K))) (λ z. absurd (omega (arith, H.by_now)));
    }

-- what lasts when the round is over
pub lasting : (s w : List ℕ) (guides : ℕ → Guide) (round : ℕ) → guides 0 ≡ unguided → Known s guides round w → Lasting s w
lasting s w guides round e N = keeps_weaker (Holds s guides round) (Lasts s (round_in w)) w turn N.holds
  where
    turn : (key : List ℕ) (v : ℕ) → Holds s guides round key v → Lasts s (round_in w) key v
    turn key v H = record {
      by_now = omega (arith, H.by_now, N.round_is);
      claims = λ c K. rw e at (H.claims c 0 K (inl refl));
    }
