-- Where no effects contradict each other although every formula holds, none give one fluent different values. Assumes nothing.
use mathlib.Core.Path.{sym, ◌∙◌}
use borrow.Author.Tests.{not-false}
use Rattle.state.proofs.Excluding.{held_exclusive}
use Rattle.state.proofs.exclusion.action_may_conflict.Goals as goal

pub returns-then-conflict : goal.returns-then-conflict
returns-then-conflict c = λ e. c.is_exclusive.ensures (not-false c.is_exclusive.result e)

pub returns-else-conflict : goal.returns-else-conflict
returns-else-conflict c = λ e. held_exclusive _ _ _ _ c.requires.conditions (sym c.conflict.ensures ∙ e)
