use Rattle.spv_type_evidence.proofs.lemmas.types.Declaring as declaring
use Rattle.spv_type_evidence.proofs.types.laws.operands_declare.Goals as goal

pub returns : goal.returns
returns c = declaring.operands_declare
