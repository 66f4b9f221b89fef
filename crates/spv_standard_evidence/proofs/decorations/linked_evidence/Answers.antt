use Rattle.spv_standard_evidence.proofs.Decorating.{entry_shown}
use Rattle.spv_standard_evidence.proofs.decorations.linked_evidence.Goals as goal

pub returns : goal.returns
returns c = λ G. entry_shown G c.args.definitions.now c.args.number c.in_ok-inst.inst c.in_ok-inst.ensures
