-- The frame's program, its number of nodes and the groups of the sheet's values are those that are packed. Assumes nothing.
use Prim.Native.Nat.{ℕ, ◌+◌, ◌*◌, ◌/◌, ◌≤◌}
use mathlib.Core.Path.{◌≡◌, ap, subst, ◌∙◌}
use mathlib.Core.List.{List}
use native.Mathlib.Omega.{arith}
use lib.ListN.{length, get_or, take}
use Rattle.std.proofs.lemmas.Option.{IfSome_then}
use Rattle.sheet.specs.declared.Layout.{Layout}
use Rattle.sheet.specs.declared.Inspection.{Inspection}
use Rattle.sheet.specs.Inspection.{Of}
use Rattle.golog.specs.Prog.{Prog}
use Rattle.golog.specs.declared.State.{State}
use Rattle.remaining.specs.Rest.{nodes}
use Rattle.engine.specs.Frames.{nodes_at, Frame}
use Rattle.keys.specs.Packed.{Packed}
use Rattle.keys.specs.Keyed.{Keyed}
use Rattle.sheet.proofs.Found.{in_sheet}
use Rattle.words.proofs.Standing.{at_node_room, at_size, at_room}
use Rattle.engine.proofs.Frames.{nodes_small}
use Rattle.keys.proofs.key_of.Goals as goal

module _ {s w : List ℕ} {m : Inspection} {left d n : ℕ} {p : Prog} (O : Of s m) (F : Frame s left w d p) {at : ℕ} (begins : at ≡ nodes_at s d) (e : n ≡ get_or w (at + 2) 0) where
  -- the number of nodes is read where the frame's begin
  size_is : n ≡ nodes F.rest
  size_is = e ∙ ap (λ (i : ℕ). get_or w (i + 2) 0) begins ∙ at_size F.rest w (nodes_at s d) F.words_are

  nodes-inside : at + 3 * n ≤ length w
  nodes-inside = omega (arith, size_is, begins, at_room F.rest w (nodes_at s d) F.words_are)

  keyed : {st : State} {label long : ℕ} (key : List ℕ) (size : ℕ)
      → (size ≤ long) × Packed ((m.layout.f + 7) / 8) st w at n label (take size key)
      → Keyed s (p, st) label (take size key)
  keyed {st} {label} {long} key size (h, P) = record {
    words = w;
    place = nodes_at s d;
    rest = F.rest;
    stands_for = F.stands_for;
    words_are = F.words_are;
    packed = subst (λ (g : ℕ). Packed g st w (nodes_at s d) (nodes F.rest) label (take size key)) (ap (λ (l : Layout). (l.f + 7) / 8) O.layout_is)
        (subst (λ (i : ℕ). Packed ((m.layout.f + 7) / 8) st w i (nodes F.rest) label (take size key)) begins
        (subst (λ (k : ℕ). Packed ((m.layout.f + 7) / 8) st w at k label (take size key)) size_is P));
  }

pub nodes_from-at-requires : goal.nodes_from-at-requires
nodes_from-at-requires c = nodes_small c.requires.2

pub size_at-n-requires : goal.size_at-n-requires
size_at-n-requires c =
    let F = c.requires.2 in
    omega (arith, c.nodes_from-at.ensures.begins, at_node_room F.rest _ _ F.words_are)

pub overflow_add-found : goal.overflow_add-found
overflow_add-found c = let O = c.found-found.ensures.of in omega (arith, (in_sheet O).f)

pub pack-requires : goal.pack-requires
pack-requires c =
    let O = c.found-found.ensures.of in
    let F = c.requires.2 in
    (nodes-inside O F c.nodes_from-at.ensures.begins c.size_at-n.ensures, omega (arith, (in_sheet O).f))

pub returns-clause-keyed : goal.returns-clause-keyed
returns-clause-keyed c = λ left p F. IfSome_then _ c.pack.ensures (keyed c.found-found.ensures.of F c.nodes_from-at.ensures.begins c.size_at-n.ensures _)
