use Rattle.std.proofs.Common.{arith, refl}
use Rattle.spv_kernel_operands.specs.Switch.{IsMisswitched}
use Rattle.spv_kernel_operands.proofs.laws.control_examples.Goals as goal

pub returns-clause-twice : goal.returns-clause-twice
returns-clause-twice c = IsMisswitched.twice refl record {
  first = 0;
  second = 1;
  before = omega arith;
  literal = 7;
  one = refl;
  other = refl;
}
