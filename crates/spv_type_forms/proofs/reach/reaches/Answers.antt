use Rattle.spv_module.specs.Module.{plain_operands}
use Rattle.spv_type_kinds.specs.Operands.{words_in}
use Rattle.spv_type_forms.proofs.Walks.{walk_decides}
use Rattle.spv_type_forms.proofs.reach.reaches.Goals as goal

pub returns : goal.returns
returns c =
    let d = walk_decides c.args.definitions.now (words_in (plain_operands c.args.operands.now)) c.args.t c.args.u in
    (λ y. d.0 (c.walks.ensures.0 y), λ r. c.walks.ensures.1 (d.1 r))
