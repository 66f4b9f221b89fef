use Rattle.spv_module.specs.Module.{plain_operands}
use Rattle.spv_type_kinds.specs.Operands.{ids_in}
use Rattle.spv_type_rules.proofs.Parted.{parts_told}
use Rattle.spv_type_rules.proofs.constant.are_constant_parts.Goals as goal

pub returns : goal.returns
returns c =
    let d = parts_told c.args.definitions.now c.args.spec c.args.r (ids_in (plain_operands c.args.operands.now)) in
    (λ y. d.0 (c.are_all_parts.ensures.0 y), λ r. c.are_all_parts.ensures.1 (d.1 r))
