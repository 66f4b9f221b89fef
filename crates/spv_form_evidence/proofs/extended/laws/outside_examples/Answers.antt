use Rattle.std.proofs.Common.{Some, arith}
use Rattle.spv_form_evidence.specs.extended.Evidence.{IsOutside}
use Rattle.spv_form_evidence.proofs.extended.laws.outside_examples.Goals as goal

pub returns-clause-fewer : goal.returns-clause-fewer
returns-clause-fewer c = IsOutside.fewer 3 (Some 4) (omega arith)

pub returns-clause-more : goal.returns-clause-more
returns-clause-more c = IsOutside.more 3 4 (omega arith)
