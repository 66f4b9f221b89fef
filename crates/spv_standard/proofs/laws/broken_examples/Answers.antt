use Rattle.std.proofs.Common.{refl}
use Rattle.spv_module.specs.declared.fault.Rule.TheVariants.{O3, O5}
use Rattle.spv_standard.specs.Broken.{KernelBroken}
use Rattle.spv_standard.specs.Example.{entries}
use Rattle.spv_standard.proofs.Worked.{by_declarations}
use Rattle.spv_standard.proofs.laws.broken_examples.Goals as goal

pub returns-clause-repeated : goal.returns-clause-repeated
returns-clause-repeated c = λ G minor. KernelBroken.of_declarations O3 1 (c.rule_examples.ensures.first G)

pub returns-clause-another : goal.returns-clause-another
returns-clause-another c = λ G minor b.
    c.rule_examples.ensures.not_another G (by_declarations G minor entries O5 1 b refl)

pub returns-clause-asked : goal.returns-clause-asked
returns-clause-asked c = λ G minor. KernelBroken.of_declarations O3 1 (c.rule_examples.ensures.first G)
