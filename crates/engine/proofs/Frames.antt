-- Room: where a frame has room for one transition more, there is room for what it leaves in the next frame, and that has room for one
-- fewer. What stands in a frame stays while only later frames are written. Assumes nothing.
use Rattle.std.proofs.Common.{◌≡◌, ℕ, suc, ◌+◌, ◌*◌, ◌^◌, ◌<◌, ◌≤◌, Bool, true, false, List, length, sym, refl, ap, ◌∙◌, subst, mul_comm, add-mul, mul-le-mul, one-mul, zero-mul, mul-suc, arith}
use mathlib.Core.List.{Memᴰ}
use Rattle.height.specs.Work.{header, levels, work_words}
use Rattle.records.proofs.Truth.{part_few}
use Rattle.sheet.specs.Layout.{layout_of}
use Rattle.sheet.specs.Check.{Accepts}
use Rattle.sheet.proofs.Accepted.{ruled, laid}
use Rattle.golog.specs.declared.State.{State}
use Rattle.golog.specs.World.{World}
use Rattle.golog.specs.Transitions.{Configuration}
use Rattle.golog.specs.Prog.{Prog}
use Rattle.remaining.specs.Rest.{unfolded, nodes, high, largest}
use Rattle.remaining.specs.Leaves.{RestTransition, rest_transitions}
use Rattle.remaining.specs.Extended.{top}
use Rattle.remaining.proofs.Nodes.{step_nodes, step_high, step_number}
use Rattle.demands.specs.Decoded.{interrupts_in, first_of, bound_of, levels_of}
use Rattle.demands.specs.Compact.{extended_records, compact_first}
use Rattle.demands.proofs.Compact.{all_lower, starts, top_levels}
use Rattle.leaves.specs.Tallies.{extended_size}
use Rattle.words.specs.Words.{At, Stands, Room}
use Rattle.words.proofs.Standing.{at_unique}
use Rattle.words.proofs.Moved.{at_kept}
use Rattle.sheet.specs.declared.Inspection.{Inspection}
use Rattle.sheet.specs.Inspection.{Of}
use Rattle.engine.specs.Frames.{frame_of, frame_at, nodes_at, Frame, KeptFrames}

-- where frames begin
module _ (s : List ℕ) where
  first_at : frame_at s 0 ≡ 0
  unfolding frame_at
  first_at = zero-mul (frame_of s)

  pub next_at : (d : ℕ) → frame_at s (d + 1) ≡ frame_at s d + frame_of s
  unfolding frame_at
  next_at d = add-mul d 1 (frame_of s) ∙ ap (λ (n : ℕ). d * frame_of s + n) (one-mul (frame_of s))

-- where a frame begins, as it is computed
pub frame_by : {s : List ℕ} {m : Inspection} → Of s m → (d : ℕ) → d * m.frame ≡ frame_at s d
unfolding frame_at
frame_by O d = ap (λ (n : ℕ). d * n) O.frame_is

module _ {s w : List ℕ} {left d : ℕ} {p : Prog} (F : Frame s left w d p) where
  -- the program lies in its frame, and the frame in the words
  pub in_frame : (nodes_at s d + 3 * nodes F.rest ≤ frame_at s d + frame_of s) × (frame_at s d + frame_of s ≤ length w)
  in_frame = let r = F.roomy in (omega (arith, r.large), omega (arith, r.inside))

  pub nodes_small : nodes_at s d < 2 ^ 32
  nodes_small = omega (arith, F.roomy.inside, F.roomy.small)

  -- what stands where its nodes begin
  module _ {i : ℕ} (begins : i ≡ nodes_at s d) where
    pub at_by : At F.rest w i
    at_by = rw begins F.words_are

    pub stands_by : Stands w i
    stands_by = record { rest = F.rest; at = at_by }

  -- words of later frames do not matter
  pub frame_kept : (w' : List ℕ) → KeptFrames s d w w' → Frame s left w' d p
  frame_kept w' K =
      let r = F.roomy in
      record {
        rest = F.rest;
        stands_for = F.stands_for;
        words_are = at_kept F.rest (nodes_at s d) (frame_at s d + frame_of s) w w' K in_frame.0 F.words_are;
        roomy =
            record {
              large = r.large;
              inside = omega (arith, r.inside, K.len);
              small = omega (arith, r.small, K.len);
              high_is = r.high_is;
              within = r.within;
            };
      }

  -- room for fewer transitions
  pub frame_fewer : (n : ℕ) → n ≤ left → Frame s n w d p
  frame_fewer n l =
      let r = F.roomy in
      let h = 2 * levels_of s in
      record {
        rest = F.rest;
        stands_for = F.stands_for;
        words_are = F.words_are;
        roomy =
            record {
              large = omega (arith, r.large, mul-le-mul {n₁ = h} {m₁ = n} {n₂ = h} {m₂ = left} (omega arith) l);
              inside = omega (arith, r.inside, mul-le-mul {n₁ = frame_of s} {m₁ = n} {n₂ = frame_of s} {m₂ = left} (omega arith) l);
              small = r.small;
              high_is = r.high_is;
              within = r.within;
            };
      }

  -- one program stands in a frame
  pub frame_same : {left' : ℕ} {q : Prog} → Frame s left' w d q → p ≡ q
  frame_same G =
      sym F.stands_for ∙ ap (unfolded (extended_records s)) (at_unique F.rest G.rest w (nodes_at s d) F.words_are G.words_are) ∙ G.stands_for

module _ {s w : List ℕ} {left d : ℕ} {p : Prog} (F : Frame s (suc left) w d p) where
  -- the next frame lies in the words
  pub next_inside : frame_at s d + frame_of s + frame_of s ≤ length w
  next_inside = omega (arith, F.roomy.inside, mul-suc (frame_of s) left)

  one_step : 64 + 3 * (nodes F.rest + 2 * levels_of s) ≤ frame_of s
  one_step = omega (arith, F.roomy.large, mul-suc (2 * levels_of s) left)

  pub step_room : Room w (frame_at s d + frame_of s + header) (nodes F.rest + 2 * high (extended_records s) F.rest)
  step_room =
      let r = F.roomy in
      record { inside = omega (arith, one_step, next_inside, r.high_is); small = r.small }

  -- what a transition leaves stands in the next frame
  pub next_frame :
      (accepted : Accepts s) (W : World) (st : State) (x : RestTransition) (w' : List ℕ)
      → Memᴰ x (rest_transitions W st (extended_records s) F.rest)
      → length w' ≡ length w
      → At x.1 w' (frame_at s d + frame_of s + header)
      → Frame s left w' (d + 1) (unfolded (extended_records s) x.1)
  next_frame accepted W st x w' mem len a =
      let r = F.roomy in
      let records = extended_records s in
      let low = all_lower s accepted in
      let few = step_nodes W st records low F.rest x mem in
      let lower = step_high W st records low F.rest x mem in
      let number = step_number W st records low F.rest x mem in
      record {
        rest = x.1;
        stands_for = refl;
        words_are = subst (λ (i : ℕ). At x.1 w' (i + header)) (sym (next_at s d)) a;
        roomy =
            record {
              large = omega (arith, r.large, few, r.high_is, mul-suc (2 * levels_of s) left);
              inside = omega (arith, r.inside, len, mul-suc (frame_of s) left, next_at s d);
              small = omega (arith, r.small, len);
              high_is = omega (arith, lower, r.high_is);
              within = record { number = omega (arith, number, r.within.number); height = omega (arith, lower, r.within.height) };
            };
      }

levels_low : (s : List ℕ) → Accepts s → levels_of s ≤ 18
unfolding levels
levels_low s accepted = omega (arith, (ruled s accepted).height, part_few (interrupts_in s) 2)

top_inside : (b : Bool) (n : ℕ) → 1 ≤ n → top b n < extended_size b n
top_inside true n l = omega arith
top_inside false n l = omega arith

-- the first frame has room for as many transitions as the bound, by document 01's figure
pub first_frame :
    {s w : List ℕ} → Accepts s → length w ≡ work_words (levels_of s) (bound_of s) → At (compact_first s).0 w header → Frame s (bound_of s) w 0 (first_of s).0
unfolding nodes largest
first_frame {s} {w} accepted len a =
    let f = laid s accepted in
    let h = levels_of s in
    let d = bound_of s in
    let low = levels_low s accepted in
    let small = mul-le-mul {n₁ = 2 * h} {m₁ = d} {n₂ = 36} {m₂ = 64} (omega arith) f.d in
    let words = mul-le-mul {n₁ = d + 1} {m₁ = frame_of s} {n₂ = 65} {m₂ = 6979} (omega (arith, f.d)) (omega arith) in
    let top-high = top_levels s accepted in
    let all : (d + 1) * frame_of s ≡ frame_of s + frame_of s * d = add-mul d 1 (frame_of s) ∙ omega (arith, mul_comm d (frame_of s), one-mul (frame_of s)) in
    record {
      rest = (compact_first s).0;
      stands_for = ap (λ (c : Configuration). c.0) (starts s accepted);
      words_are = subst (λ (i : ℕ). At (compact_first s).0 w (i + header)) (sym (first_at s)) a;
      roomy =
          record {
            large = omega arith;
            inside = omega (arith, all, len, first_at s);
            small = omega (arith, words, len);
            high_is = omega (arith, top-high);
            within = record { number = top_inside (interrupts_in s) (layout_of s).p f.some_record; height = omega (arith, top-high, low) };
          };
    }

-- a work area as long as required has a frame
pub work_long : (s w : List ℕ) → length w ≡ work_words (levels_of s) (bound_of s) → 67 ≤ length w
work_long s w len = omega (arith, len, add-mul (bound_of s) 1 (frame_of s), one-mul (frame_of s))
