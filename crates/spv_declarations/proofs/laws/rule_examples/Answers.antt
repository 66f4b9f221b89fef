use Rattle.spv_declarations.specs.Broken.{Broken}
use Rattle.spv_declarations.proofs.Worked.{repeated, second}
use Rattle.spv_declarations.proofs.laws.rule_examples.Goals as goal

pub returns-clause-first : goal.returns-clause-first
returns-clause-first c = λ G. Broken.repeated 1 repeated

pub returns-clause-second : goal.returns-clause-second
returns-clause-second c = λ G. Broken.second 3 second
