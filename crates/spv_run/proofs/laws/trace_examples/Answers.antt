use Rattle.std.proofs.Common.{[]}
use Rattle.spv_run.proofs.Worked.{alone_void}
use Rattle.spv_run.proofs.Lone.{traced, not_traced}
use Rattle.spv_run.proofs.laws.trace_examples.Goals as goal

pub returns : goal.returns
returns c = record { of_run = λ G t. traced G [] alone_void t; not_of_run = not_traced }
