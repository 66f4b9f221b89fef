use Rattle.spv_type_evidence.proofs.lemmas.types.Making as making
use Rattle.spv_type_evidence.proofs.types.laws.operands_make.Goals as goal

pub returns : goal.returns
returns c = making.operands_make
