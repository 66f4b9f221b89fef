use Rattle.spv_facts.proofs.Placed.{of_function, of_block}
use Rattle.spv_facts.proofs.laws.places.Goals as goal

pub returns-clause-function : goal.returns-clause-function
returns-clause-function c = λ is n laid l. of_function is n laid l

pub returns-clause-block : goal.returns-clause-block
returns-clause-block c = λ is n laid l. of_block is n laid l
