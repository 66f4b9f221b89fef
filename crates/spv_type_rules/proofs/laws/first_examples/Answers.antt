use Rattle.spv_module.specs.declared.fault.Rule.TheVariants as rule
use Rattle.spv_type_rules.proofs.Worked.{vector_first, vector_before, call_first, call_broken}
use Rattle.spv_type_rules.proofs.laws.first_examples.Goals as goal

pub returns-clause-vector : goal.returns-clause-vector
returns-clause-vector c = vector_first

pub returns-clause-later : goal.returns-clause-later
returns-clause-later c = vector_before

pub returns-clause-here : goal.returns-clause-here
returns-clause-here c = call_first

pub returns-clause-none_here : goal.returns-clause-none_here
returns-clause-none_here c = λ k. call_broken (k rule.Y8)
