use Rattle.spv_verdict.proofs.Further.{broken_too, valid_too}
use Rattle.spv_verdict.proofs.laws.refused_too.Goals as goal

pub returns : goal.returns
returns c = record { broken = broken_too; valid = valid_too }
