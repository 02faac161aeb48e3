-- Before the cursor's place the sets are asked; else the record's first (Pointing.antt). Assumes nothing.
use borrow.Author.Rules.{rules}
use Prim.Native.Nat.{ℕ}
use mathlib.Core.Path.{◌≡◌, ap}
use mathlib.Core.Bool.{not}
use Rattle.std.specs.Option.{option_map}
use Rattle.cursors.proofs.Pointing.{leaf_before, leaf_found}
use Rattle.cursors.proofs.find_leaf.Goals as goal

pub returns-then-at-c : goal.returns-then-at-c
returns-then-at-c c = leaf_before _ c.requires c.final_in.ensures (ap not c.enabled_in.ensures) _ _ _ c.if-at-c.true

pub returns : goal.returns
returns c =
    let found : c.map.result ≡ option_map (λ (k : ℕ). record { place = c.args.at; k = k }) c.find_record-found.result = search rules in
    rw (c.ok_or.ensures.value, found) (leaf_found _ c.requires c.final_in.ensures (ap not c.enabled_in.ensures) _ _ _ c.position.ensures _ c.find_record-found.ensures)
