use Rattle.std.proofs.Common.{rules, ◌≡◌, true, get_or}
use Rattle.spv_module.specs.declared.operand.Operand.TheVariants as code
use Rattle.spv_module.specs.Operand.{OfType, Id}
use Rattle.spv_module.specs.Module.{plain_operand}
use Rattle.spv_versions.proofs.Shaping.{is_result, whole_parts}
use Rattle.spv_versions.proofs.shapes.are_whole.Goals as goal

pub returns-in-OfType : goal.returns-in-OfType
returns-in-OfType c =
    let p0 : plain_operand (get_or c.args.operands.now 0 (code.OfType 0)) ≡ OfType c.in-OfType.t = search rules in
    let p1 : is_result (plain_operand (get_or c.args.operands.now 1 (code.OfType 0))) ≡ true = search rules in
    let p2 : plain_operand (get_or c.args.operands.now 2 (code.OfType 0)) ≡ Id c.in-OfType.condition = search rules in
    whole_parts c.args.definitions.now c.args.operands.now (code.OfType 0) c.in-OfType.t c.in-OfType.condition
    c.selects.result c.in-OfType.len_at_least p0 p1 p2 c.selects.ensures
