use Rattle.std.proofs.Common.{refl}
use Rattle.spv_check.proofs.Kernel.{listed, read}
use Rattle.spv_check.proofs.Readings.{not_nothing}
use Rattle.spv_check.specs.Kernel.{kernel}
use Rattle.spv_check.proofs.laws.reading_examples.Goals as goal

pub returns : goal.returns
returns c = record {
  profile = read;
  extended = record { spelled = kernel; listing = listed; seen = refl };
  not_empty = λ G reach. not_nothing (record
      { count = c.opening_keeps.ensures.count; words = c.opening_keeps.ensures.sums _ (λ x. refl) (λ x. refl) }) G reach
      _ _;
}
