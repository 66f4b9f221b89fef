use Rattle.spv_standard_evidence.specs.Declarations.{IsEvidence}
use Rattle.spv_standard_evidence.proofs.decorations.second_evidence.Goals as goal

pub returns : goal.returns
returns c = λ G. IsEvidence.second c.args.number c.in_ok-inst.inst c.in_ok-inst.ensures
