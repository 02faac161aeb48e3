-- By the tables the answer is that of the state, by the law of Named. Assumes nothing.
use Rattle.std.proofs.Common.{◌∙◌, arith}
use Rattle.engine.proofs.Named.{possibility_told}
use Rattle.engine.proofs.possible_check.Goals as goal

pub possible_check-requires : goal.possible_check-requires
possible_check-requires c = λ h. omega (arith, c.requires.1, c.actions.ensures.long)

pub returns : goal.returns
returns c =
    λ numbers st J named.
    (rw (c.actions.ensures.table, c.truths_at.ensures) at c.possible_check.ensures)
    ∙ possibility_told c.actions.ensures.accepted J c.args.a c.only_conflicted-conflicted.result c.args.sets.now c.requires.1 c.only_conflicted-conflicted.ensures named
