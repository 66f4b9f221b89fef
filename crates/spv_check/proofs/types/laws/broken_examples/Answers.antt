use Rattle.spv_check.proofs.Typing.Worked.{logical_broken, physical_unbroken}
use Rattle.spv_check.proofs.types.laws.broken_examples.Goals as goal

pub returns-clause-logical : goal.returns-clause-logical
returns-clause-logical c = logical_broken

pub returns-clause-physical : goal.returns-clause-physical
returns-clause-physical c = physical_unbroken
