use Rattle.spv_type_forms.proofs.Walks.{walk_decides}
use Rattle.spv_type_forms.proofs.laws.reach_decided.Goals as goal

pub returns : goal.returns
returns c = walk_decides
