use Rattle.std.proofs.Common.{arith}
use Rattle.spv_capabilities.proofs.Worked.{has_kernel, has_no_other, has_no_kernel}
use Rattle.spv_capabilities.proofs.laws.capability_examples.Goals as goal

pub returns : goal.returns
returns c = record {
  implied = has_kernel;
  not_implied = has_no_other 5 (λ e. absurd (omega (arith, e))) (λ e. absurd (omega (arith, e)));
  kernel = (has_kernel, has_no_other 1 (λ e. absurd (omega (arith, e))) (λ e. absurd (omega (arith, e))));
  no_kernel = λ k. has_no_kernel k.0;
}
