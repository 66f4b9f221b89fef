use Rattle.spv_kernel_operands.specs.Seats.{lines}
use Rattle.spv_kernel_operands.proofs.Lines.{none_below, none_between}
use Rattle.spv_kernel_operands.proofs.seats.is_seatless.Goals as goal

pub returns-then-code-lt-CONTROL_BARRIER : goal.returns-then-code-lt-CONTROL_BARRIER
returns-then-code-lt-CONTROL_BARRIER c = λ _. none_below c.args.code c.if-code-lt-CONTROL_BARRIER.true

pub returns-then-is_of_blocks : goal.returns-then-is_of_blocks
returns-then-is_of_blocks c = λ _.
    let h = c.is_of_blocks.ensures c.if-is_of_blocks.true in none_between c.args.code h.0 h.1

pub returns : goal.returns
unfolding lines
returns c = c.is_absent.ensures
