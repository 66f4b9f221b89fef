use Rattle.spv_inst.proofs.Worked.{access_spelled, access_unknown, access_short}
use Rattle.spv_inst.proofs.laws.kind_examples.Goals as goal

pub returns : goal.returns
returns c = record { spelled = access_spelled; unknown = access_unknown; short = access_short }
