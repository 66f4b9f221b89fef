use Rattle.spv_module.specs.Module.{plain_operands}
use Rattle.spv_type_kinds.specs.Operands.{ids_in}
use Rattle.spv_type_evidence.proofs.lemmas.types.Parts.{parts_first}
use Rattle.spv_type_evidence.proofs.types.constant.first_of_parts.Goals as goal

pub returns-then-has_count : goal.returns-then-has_count
returns-then-has_count c =
    parts_first c.args.definitions.now c.args.spec c.args.r
    (ids_in (plain_operands c.args.operands.now)) c.first_no_part.result
    (c.has_count.ensures.0 c.if-has_count.true) c.first_no_part.ensures
