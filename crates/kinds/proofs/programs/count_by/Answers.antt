-- In these arms, which choose by a test, the kind has its number, and the column has one entry there. Assumes nothing.
use mathlib.Core.Bool.{Bool, true, false, cond}
use mathlib.Core.Path.{◌≡◌, refl, ◌∙◌}
use mir.Val.{bool_byte}
use Rattle.kinds.specs.declared.programs.Kind.TheVariants.{Act, Test, Sequence, If, While, Over, Interrupt}
use Rattle.kinds.specs.Programs.{count_of, count_by}
use Rattle.kinds.proofs.ProgramKinds.{number_is}
use Rattle.kinds.proofs.programs.count_by.Goals as goal

one_if : (b : Bool) → bool_byte b ≡ cond b 1 0
one_if true = refl
one_if false = refl

pub returns-in-Some-Act : goal.returns-in-Some-Act
unfolding count_by count_of
returns-in-Some-Act c = rw (number_is c.args.r.kind {k = Act} (cc)) (c.from.ensures ∙ one_if _)

pub returns-in-Some-Test : goal.returns-in-Some-Test
unfolding count_by count_of
returns-in-Some-Test c = rw (number_is c.args.r.kind {k = Test} (cc)) (rw c.value_in.ensures at (c.from-in-Some-Test.ensures ∙ one_if _))

pub returns-in-Some-Sequence : goal.returns-in-Some-Sequence
unfolding count_by count_of
returns-in-Some-Sequence c = rw (number_is c.args.r.kind {k = Sequence} (cc)) (rw c.value_in-in-Some-Sequence.ensures at c.both_if.ensures)

pub returns-in-Some-If : goal.returns-in-Some-If
unfolding count_by count_of
returns-in-Some-If c = rw (number_is c.args.r.kind {k = If} (cc)) (rw c.value_in-in-Some-If.ensures at c.either.ensures)

pub returns-in-Some-While : goal.returns-in-Some-While
unfolding count_by count_of
returns-in-Some-While c = rw (number_is c.args.r.kind {k = While} (cc)) (rw c.value_in-in-Some-While.ensures at c.part-in-Some-While.ensures.0)

pub returns-in-Some-Over : goal.returns-in-Some-Over
unfolding count_by count_of
returns-in-Some-Over c = rw (number_is c.args.r.kind {k = Over} (cc)) (rw c.value_in-in-Some-Over.ensures at c.both_if-in-Some-Over.ensures)

pub returns-in-Some-Interrupt : goal.returns-in-Some-Interrupt
unfolding count_by count_of
returns-in-Some-Interrupt c = rw (number_is c.args.r.kind {k = Interrupt} (cc)) (rw c.value_in-in-Some-Interrupt.ensures at c.part-in-Some-Interrupt.ensures.0)
