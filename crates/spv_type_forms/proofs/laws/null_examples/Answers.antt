use Rattle.spv_type_forms.proofs.Lacking.{int_nullable, members_nullable, pipe_lacks, pipes_lack}
use Rattle.spv_type_forms.proofs.laws.null_examples.Goals as goal

pub returns-clause-int : goal.returns-clause-int
returns-clause-int c = int_nullable

pub returns-clause-pipe : goal.returns-clause-pipe
returns-clause-pipe c = λ n. n.1 pipe_lacks

pub returns-clause-pipes : goal.returns-clause-pipes
returns-clause-pipes c = λ n. n.1 pipes_lack

pub returns-clause-members : goal.returns-clause-members
returns-clause-members c = members_nullable

pub returns-clause-no_data : goal.returns-clause-no_data
returns-clause-no_data c = λ n. n.0
