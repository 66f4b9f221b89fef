use Rattle.spv_module.specs.Module.{plain_operands}
use Rattle.spv_type_kinds.specs.Operands.{ids_in}
use Rattle.spv_ops.proofs.TagTests.{adds_typed}
use Rattle.spv_ops.proofs.construct.adds_up.Goals as goal

pub returns : goal.returns
returns c =
    let d = adds_typed c.args.definitions.now c.args.c c.args.n (ids_in (plain_operands c.args.operands.now)) in
    (λ y. d.0 (c.uses_up.ensures.0 y), λ r. c.uses_up.ensures.1 (d.1 r))
