-- The set of the values from n on is a full row shifted by n; what is shifted out of the word is no value. Assumes nothing.
use Prim.Native.Nat.{◌*◌, ◌<◌, ◌^◌}
use mathlib.Core.Path.{◌∙◌}
use native.Mathlib.Omega.{arith}
use Rattle.records.specs.Placeholders.{look}
use Rattle.sets.proofs.Bits.{bit_mod, bit_from}
use Rattle.sets.proofs.Members.{has_by}
use Rattle.records.proofs.Placeholders.{look_small}
use Rattle.sets.proofs.reaching.Goals as goal

pub returns : goal.returns
returns c =
    let n = c.args.n in
    let d = c.args.c in
    has_by c.among.ensures (λ e l. let few : look e d < 16 = look_small e l d in bit_mod (65535 * 2 ^ n) 32 (look e d) (omega arith) ∙ bit_from n (look e d) few)
