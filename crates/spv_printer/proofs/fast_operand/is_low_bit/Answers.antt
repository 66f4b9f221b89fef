use Rattle.std.proofs.Common.{refl}
use Rattle.spv_printer.proofs.fast_operand.is_low_bit.Goals as goal

pub returns-in-1 : goal.returns-in-1
returns-in-1 c = λ _. rw c.in-1.is refl

pub returns-in-2 : goal.returns-in-2
returns-in-2 c = λ _. rw c.in-2.is refl

pub returns-in-4 : goal.returns-in-4
returns-in-4 c = λ _. rw c.in-4.is refl

pub returns-in-8 : goal.returns-in-8
returns-in-8 c = λ _. rw c.in-8.is refl

pub returns-in-16 : goal.returns-in-16
returns-in-16 c = λ _. rw c.in-16.is refl

pub returns-in-32 : goal.returns-in-32
returns-in-32 c = λ _. rw c.in-32.is refl
